-- The version of the tables, and whether they are those of one.
use Rattle.std.proofs.Common.{inl, inr, ◌≡◌, ℕ, List, [], ◌∷◌, map, length, true, false, Ok, Err, Result, codes, refl}
use Rattle.std.proofs.Common.{sym, ap, subst, ◌∙◌, arith, ◌≢◌, ◌⊎◌, ◌+◌, ◌*◌, slice_get, IfErr, IsTrue}
use Rattle.std.specs.Prelude.{◌==◌, if◌then◌else◌}
use Rattle.std.proofs.lemmas.Map.Text.{is_eq-slice_cmp}
use Rattle.std.proofs.lemmas.Slice.Eq.{bytes_eq-Decides}
use Rattle.sqlite.specs.Ops.{binary}
use Rattle.sqlite_trees.specs.Tree.{Trees}
use Rattle.acvp_store.proofs.Words.{Binary, Blob, column, Compare, Created, Database, Eq, filter, First, HasOldTable}
use Rattle.acvp_store.proofs.Words.{HasVersion, Int, is_eq, is_equal, is_true, is_version_row, IsKnown, IsOf}
use Rattle.acvp_store.proofs.Words.{IsPermutation, LeavesNoMore, LeavesSo, list_any, MatchResult, Migrated, nat_lt}
use Rattle.acvp_store.proofs.Words.{nat_tests, Null, option_map, overlay, reads_as, Real, Row, Schema, schema_at}
use Rattle.acvp_store.proofs.Words.{schema_of, SchemaVersion, Second, second_schema, Shown, State, Table, Text, Third}
use Rattle.acvp_store.proofs.Words.{unwrap_or, Value, value_cmp-apart, value_cmp-Text, version_of, version_row, whole}
use Rattle.acvp_store.proofs.Keyed.{same_whole}
use Rattle.acvp_store.proofs.Parts.{both_true}
use Rattle.acvp_store.proofs.SelectedRows.{truth_back, selected}
use Rattle.acvp_store.proofs.Texts.{find_version, find_version_query, finds_version, find_old_sets, old_sets_query}
use Rattle.acvp_store.proofs.Texts.{FindsOldSets, old_sets_are, old_sets_were}
use Rattle.acvp_store.specs.Adopted.{IsOurs}
use Rattle.acvp_store.specs.declared.migration.Earlier.{Earlier}
use Rattle.acvp_store.specs.declared.migration.Earlier.TheVariants as earlier

-- ---- whether the table `meta` names the version

-- a column of any type is tested against a text, and against a whole number
pub test_text : (v : Value) (s : List ℕ) → is_true (binary (Compare Eq Binary) v (Text s)) ≡ is_equal v (Text s)
unfolding binary
test_text Null s = sym (ap is_eq (value_cmp-apart Null (Text s) (λ e. absurd (omega arith))))
test_text _ s = truth_back _

pub test_whole : (v : Value) (n : ℕ) → is_true (binary (Compare Eq Binary) v (whole n)) ≡ is_equal v (whole n)
unfolding binary
test_whole Null n = sym (ap is_eq (value_cmp-apart Null (whole n) (λ e. absurd (omega arith))))
test_whole _ n = truth_back _

-- a text that is equal to one is that
its_text_of : (s : List ℕ) (v : Value) → is_equal v (Text s) ≡ true → v ≡ Text s
its_text_of s Null is = absurd (let apart = value_cmp-apart Null (Text s) (λ e. absurd (omega arith)) in cc)
its_text_of s (Int n) is = absurd (let apart = value_cmp-apart (Int n) (Text s) (λ e. absurd (omega arith)) in cc)
its_text_of s (Real x) is = absurd (let apart = value_cmp-apart (Real x) (Text s) (λ e. absurd (omega arith)) in cc)
its_text_of s (Text t) is =
    ap Text ((bytes_eq-Decides t s).0 (sym (ap is_eq (value_cmp-Text t s) ∙ is_eq-slice_cmp t s) ∙ is))
its_text_of s (Blob b) is = absurd (let apart = value_cmp-apart (Blob b) (Text s) (λ e. absurd (omega arith)) in cc)

pub its_text : (v : Value) → is_equal v (Text (codes "schema")) ≡ true → v ≡ Text (codes "schema")
its_text = its_text_of (codes "schema")

pub its_name : is_equal (Text (codes "schema")) (Text (codes "schema")) ≡ true
its_name = ap is_eq (value_cmp-Text (codes "schema") (codes "schema"))

-- the row as it is made names its version
pub named_so : (n : ℕ) (trees : Trees) → trees 0 ≡ version_row n ∷ [] → HasVersion n trees
named_so n trees is = let same : (n == n) ≡ true = grind (arith, nat_tests) in
    subst (λ rows. list_any (is_version_row n) rows ≡ true) (sym is) (rw (its_name, same_whole n n, same) refl)

abbrev pub value_of : Row → Row
value_of row = column row 2 ∷ []

pub map_same : (rows : List Row) → rows ≡ map (λ r. r) rows
map_same [] = refl
map_same (r ∷ rows) = ap (λ l. r ∷ l) (map_same rows)

pub version_rows : (version : SchemaVersion) (n : ℕ) (old new : State) (rows : List Row)
    → old.now.schema ≡ schema_at version → Shown find_version (whole n ∷ []) old new rows
    → IsPermutation (map value_of (filter (is_version_row n) (old.now.trees 0))) rows
version_rows version n old new rows schema h =
    selected (whole n ∷ []) (λ (r : Row). r) (is_version_row n) find_version_query.filter
    (λ r. both_true _ _ _ _ (test_text (column r 1) (codes "schema")) (test_whole (column r 2) n)) 0
    find_version_query.project value_of (λ r. refl) (overlay old.now.trees []) (old.now.trees 0) rows (map_same _)
    (let is = finds_version version in
    (reads_as find_version (whole n ∷ []) old new (schema_at version) schema _ is.0 is.1 is.2 rows h).answer Null)

-- ---- whether the table of sets of an earlier schema has a row

abbrev pub number_of : Row → Row
number_of row = column row 0 ∷ []

in_old : (schema : Schema) → FindsOldSets schema → (old new : State) (rows : List Row) → old.now.schema ≡ schema
    → Shown find_old_sets [] old new rows → IsPermutation (map number_of (filter (λ row. true) (old.now.trees 4))) rows
in_old schema finds old new rows is h =
    selected [] (λ (r : Row). r) (λ r. true) [] (λ r. refl) 4 old_sets_query.project number_of (λ r. refl)
    (overlay old.now.trees []) (old.now.trees 4) rows (map_same _)
    ((reads_as find_old_sets [] old new schema is _ finds.0 finds.1 finds.2 rows h).answer Null)

pub old_rows : (old new : State) (rows : List Row) → HasOldTable old.now.schema → Shown find_old_sets [] old new rows
    → IsPermutation (map number_of (filter (λ row. true) (old.now.trees 4))) rows
old_rows old new rows (inl was) h = in_old (second_schema Migrated) old_sets_were old new rows was h
old_rows old new rows (inr is) h = in_old (schema_of Migrated) old_sets_are old new rows is h

pub any_row : (rows : List Row) → list_any (λ row. true) rows ≡ nat_lt 0 (length rows)
any_row [] = refl
any_row (r ∷ rows) = grind (arith, nat_tests)

pub empty : (rows : List Row) → nat_lt 0 (length rows) ≡ false → rows ≡ []
empty [] h = refl
empty (r ∷ rows) h = absurd (let some : nat_lt 0 (length (r ∷ rows)) ≡ true = grind (arith, nat_tests) in cc)

-- ---- which version's tables a database has: no two versions have the same tables

-- the number of the tables, and the length of the fourth one's name
mark : Schema → ℕ
mark s = length s.tables * 10 + unwrap_or (option_map (λ (t : Table). length t.name) (slice_get s.tables 3)) 0

back : ℕ → SchemaVersion
back n = if n == 64 then First else
    (if n == 65 then Second Created else
    (if n == 74 then Second Migrated else (if n == 75 then Third Created else Third Migrated)))

back_is : (version : SchemaVersion) → back (mark (schema_at version)) ≡ version
unfolding mark back
back_is First = refl
back_is (Second Created) = refl
back_is (Second Migrated) = refl
back_is (Third Created) = refl
back_is (Third Migrated) = refl

pub same_version : (v w : SchemaVersion) → schema_at v ≡ schema_at w → v ≡ w
same_version v w same = sym (back_is v) ∙ ap (λ s. back (mark s)) same ∙ back_is w

-- ---- whose tables are of no version, or aren't those that `meta` names

pub unknown : (db : Database) → ((from : Earlier) → db.schema ≢ schema_at (version_of from)) → ¬ IsOurs db
    → ¬ IsKnown db
unknown db none ours known = go known.0 known.1
  where
    go : (v : SchemaVersion) → IsOf v db → ⊥
    go First is = none earlier.First is.schema
    go (Second Created) is = none earlier.Second is.schema
    go (Second Migrated) is = none earlier.SecondBeside is.schema
    go (Third layout) is = ours
        (record { layout = layout; schema = is.schema; version = is.named; no_old_sets = is.no_old_sets })

pub not_known : (v : SchemaVersion) (db : Database) → db.schema ≡ schema_at v → ¬ IsOf v db → ¬ IsKnown db
not_known v db schema not known =
    not (subst (λ w. IsOf w db) (same_version known.0 v (sym known.1.schema ∙ schema)) known.1)

-- ---- what an open finds

-- what was committed
pub left_as_committed : (old new : State) (P : Trees → Type 0)
    → ((db : Trees) → IsTrue old.is_open → old.may_leave db → db ≡ old.committed.trees) → LeavesNoMore old new
    → LeavesSo old new (λ db. (db ≡ old.committed.trees) ⊎ P db)
left_as_committed old new P settled none clean live db may = inl (settled db live (none clean db may))

pub of_fault : {X E : Type 0} (r : Result X E) (P : X → Type 0) (Q R : E → Type 0) → ((e : E) → Q e → R e)
    → MatchResult r P Q → IfErr r R
of_fault (Ok x) P Q R turns h = tt
of_fault (Err e) P Q R turns h = turns e h
