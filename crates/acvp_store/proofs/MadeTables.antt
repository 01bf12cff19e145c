-- The statements that make the tables, those that migrate them, and the whole of a migration.
use Rattle.std.proofs.Common.{◌≡◌, ℕ, List, [], ◌∷◌, false, Option, None, Ok, codes, refl, sym, ap, subst, ◌∙◌, inl}
use Rattle.std.proofs.Common.{inr, ◌<◌, ◌<ℤ◌, ◌^◌, pos, suc, ◌++◌, append-nil, append_assoc, map, length, Bool, true}
use Rattle.std.proofs.Common.{Ordering, Less, Equal, Greater, ap₂, arith}
use Rattle.sqlite.specs.Compile.{table_defined_by}
use Rattle.sqlite.specs.Change.{created, next_tree, KeepsRows}
use Rattle.sqlite.specs.declared.run.Mode.{Mode}
use Rattle.sqlite_rules.specs.Edit.{numbered as numbered_rows}
use Rattle.acvp_store.specs.declared.setup.StoreTable.{StoreTable}
use Rattle.acvp_store.proofs.Words.{all-permutation, AllByRecursion, are_fresh, AreKept, before, Both, cases_Bool}
use Rattle.acvp_store.proofs.Words.{cast_row, Chosen, column, CopiesSets, Created, CreateTable, Database, Delete, Does}
use Rattle.acvp_store.proofs.Words.{drop, edit_of, EmptiesOldSets, Enforced, Entry, entry_row, filter, First, flag}
use Rattle.acvp_store.proofs.Words.{Given, HoldsAccounts, HoldsObjects, HoldsOldSets, HoldsRequests, HoldsReviewers}
use Rattle.acvp_store.proofs.Words.{HoldsSessions, HoldsSets, ids_of, Insert, Int, ints, is_eq, is_equal, is_schema_row}
use Rattle.acvp_store.proofs.Words.{is_version_row, IsAscending, IsPermutation, IsPermutation-map, IsPermutation-refl}
use Rattle.acvp_store.proofs.Words.{IsPermutation-sym, IsPermutation-trans, lacks_sequence, Layout, length-map}
use Rattle.acvp_store.proofs.Words.{length_permutation, list_any, Makes, match_ordering, meta_table, Migrated, mode_of}
use Rattle.acvp_store.proofs.Words.{Moves, Null, of_first_epoch, old_set_columns, old_set_row, old_set_table, one_step}
use Rattle.acvp_store.proofs.Words.{or_null, overlay, pull_back, put_all, put_row, RaisesVersion, ReviewerRow, Row}
use Rattle.acvp_store.proofs.Words.{rowid, Schema, schema_at, schema_of, Second, set_key, set_row, set_table}
use Rattle.acvp_store.proofs.Words.{SetColumns, SetRow, State, statement_of, Table, table_of, Tally, Text, text_of}
use Rattle.acvp_store.proofs.Words.{Trees, Under, understood, UnderStore, Update, Value, value_cmp, Values, version_row}
use Rattle.acvp_store.proofs.Words.{whole, with_rowid, without_all, Writes, WritesVersion}
use Rattle.acvp_store.proofs.Versions.{named_so, map_same, test_text, its_text, its_name}
use Rattle.acvp_store.proofs.Texts.{is_making, copy_sets, copy_query, delete_sets, old_sets_query, whole_schema}
use Rattle.acvp_store.proofs.Texts.{migrated_schema, first_is, second_is, second_beside_is}
use Rattle.acvp_store.proofs.Writings.{Effects, VersionAdded, writing_command, writing_terms, VersionRaised}
use Rattle.acvp_store.proofs.Writings.{raise_query}
use Rattle.acvp_store.proofs.Effects.{inserted_rows, under_schema, deleted_rows, mode, updated_rows, not_false}
use Rattle.acvp_store.proofs.Effects.{edit_for}
use Rattle.acvp_store.proofs.Parts.{went, same_value, cast_null, cast_whole, and_true, cast_flag, cast_option}
use Rattle.acvp_store.proofs.Parts.{cast_text_option, apart}
use Rattle.std.specs.Prelude.{◌&&◌, ◌||◌}
use Rattle.acvp_store.proofs.Entries.{removed}
use Rattle.acvp_store.proofs.Idle.{applied}
use Rattle.acvp_store.proofs.Keyed.{none_passes, free_key, put_new, kept_with, same_whole}
use Rattle.acvp_store.proofs.SelectedRows.{selected, selected_by}
use Rattle.acvp_store.proofs.Sound.{first_of, then_of}
use Rattle.acvp_store.proofs.KeptPromises.{kept_none}
use Rattle.acvp_store.specs.declared.setup.StoreTable.TheVariants as table
use Rattle.sqlite.specs.Source.TheVariants as source

-- ---- what the statements that make the tables do

-- a table is added, without a row, and the others keep theirs
makes : (limit : Option ℕ) (mode : Mode) (params : Row) (text : List ℕ) (table : Table) (schema : Schema)
    (trees : Trees) (tally : Tally) (after : Database)
    → table_defined_by text ≡ Ok table → lacks_sequence (created schema table) ≡ false
    → Does limit mode params (record { schema = schema; trees = trees }) text None CreateTable (Ok (tally, after))
    → (after.schema ≡ created schema table) × (after.trees (next_tree schema) ≡ [])
    × KeepsRows schema.tables trees after.trees
makes limit mode params text table schema trees tally after defined plain does =
    let all = went does in
    let first = went all.1 in
    let made = first.1 in
    let both : Ok made.table ≡ Ok table = sym made.defined ∙ defined in
    let same : made.table ≡ table = cc in
    let is : first.0.schema ≡ created schema table = made.is ∙ ap (created schema) same in
    let none : lacks_sequence first.0.schema ≡ false = ap lacks_sequence is ∙ plain in
    let now : after ≡ first.0 = ap (λ (p : Tally × Database). p.1) (same_value all.2)
    ∙ same_value (rw none at first.2) in (
      ap (λ (d : Database). d.schema) now ∙ is,
      ap (λ (d : Database). d.trees (next_tree schema)) now ∙ made.empty,
      subst (KeepsRows schema.tables trees) (sym (ap (λ (d : Database). d.trees) now)) made.others,
    )

unsequenced : (t : StoreTable) → lacks_sequence (created (before t) (table_of t)) ≡ false
unsequenced table.Meta = refl
unsequenced _ = refl

pub make_effect : (old : State) (t : StoreTable) → old.now.schema ≡ before t → (tally : Tally) (after : Database)
    → Does old.step_limit (mode_of old) [] old.now
    (statement_of (text_of t) (understood (before t) (text_of t))) None CreateTable (Ok (tally, after))
    → Makes t old.now after
make_effect old t schema tally after does =
    let text = is_making t in
    let it = subst (λ s. Does old.step_limit (mode_of old) [] (record old.now { schema = s })
    (text_of t) None CreateTable (Ok (tally, after))) schema
    (subst (λ x. Does old.step_limit (mode_of old) [] old.now x None CreateTable (Ok (tally, after))) text.1 does) in
    let made = makes old.step_limit (mode_of old) [] (text_of t) (table_of t)
    (before t) old.now.trees tally after text.2 (unsequenced t) it in
    record { schema = made.0; empty = made.1; others = made.2 }

-- ---- the version

abbrev given : Row
given = Null ∷ Text (codes "schema") ∷ whole 3 ∷ []

cast_given : cast_row (meta_table 0) given ≡ given
cast_given = rw (cast_null, cast_whole 3) refl

numbered_first : (r : Row) (rows : List Row) → rows ≡ [] → r ≡ given
    → numbered_rows Chosen rows (r ∷ []) ≡ version_row 3 ∷ []
numbered_first r rows none is = rw (is, none) refl

versions : (limit : Option ℕ) (text : List ℕ) (trees : Trees) (tally : Tally) (after : Database)
    → Does limit (record { keys = Enforced; in_doubt = false; may_wait = false }) []
    (record { schema = schema_of Created; trees = trees }) text None (Insert 0 (Values (writing_terms VersionAdded) 3))
    (Ok (tally, after))
    → WritesVersion 3 (record { schema = schema_of Created; trees = trees }) after
versions limit text trees tally after does =
    let it = inserted_rows Created limit (meta_table 0) [] trees tally after 0 (Values (writing_terms VersionAdded) 3)
    does in
    let wrote = subst (λ rs. Writes (schema_of Created) Enforced trees (edit_of trees (meta_table 0) [] Chosen 0 rs)
    (Ok after.trees)) it.1.1 it.2.writes in
    let applied =
    one_step (schema_of Created) Enforced trees after.trees (edit_of trees (meta_table 0) [] Chosen 0 (given ∷ [])) refl
    wrote in
    let rows : trees 0 ≡ [] → after.trees 0 ≡ version_row 3 ∷ [] = λ none. applied.rows
    ∙ ap (put_all (trees 0)) (numbered_first (cast_row (meta_table 0) given) (trees 0) none cast_given)
    ∙ rw none refl in
    record {
      schema = it.2.schema;
      written = λ none. named_so 3 after.trees (rows none);
      others = applied.tables;
    }

pub version_effect : (old : State) → Effects VersionAdded Created [] old (WritesVersion 3)
version_effect old =
    under_schema (schema_of Created) old [] [] (writing_command VersionAdded Created) (WritesVersion 3)
    (λ limit trees tally after does. versions limit [] trees tally after does)

-- ---- what the statements of a migration do: many rows under numbers that they bring

module _ {A : Type 0} (key : A → ℕ) (stored : A → Row) (rowid_is : (a : A) → rowid (stored a) ≡ whole (key a)) where
  -- each in its turn is new
  pub puts_all : (news : List A) (rows : List Row) (list : List A) → AreKept key stored rows list
      → are_fresh rows (map stored news) ≡ true → AllByRecursion (λ a. key a < 2 ^ 63) news
      → AreKept key stored (put_all rows (map stored news)) (list ++ news)
  puts_all [] rows list kept fresh low = rw append-nil kept
  puts_all (x ∷ news) rows list kept fresh low =
      let apart = not_false _ (rw and_true (first_of _ _ fresh)) in
      let free = free_key key stored rowid_is (key x) kept.ordered
      (subst (λ v. list_any (λ r. is_eq (value_cmp (rowid r) v)) (map stored kept.ordered) ≡ false) (rowid_is x)
      (subst (λ rs. list_any (λ r. is_eq (value_cmp (rowid r) (rowid (stored x)))) rs ≡ false) kept.rows_are
      apart)) in
      let one = kept_with key stored rowid_is rows (put_row (stored x) rows) list x kept free
      (ap (put_row (stored x)) kept.rows_are ∙ put_new key stored rowid_is x kept.ordered free) low.0 in
      let more = puts_all news (put_row (stored x) rows) (list ++ x ∷ []) one (then_of _ _ fresh) low.1 in
      subst (AreKept key stored (put_all (put_row (stored x) rows) (map stored news)))
      (append_assoc list (x ∷ []) news) more

all_pass : {A : Type 0} (xs : List A) → filter (λ x. true) xs ≡ xs
all_pass [] = refl
all_pass (x ∷ xs) = ap (λ l. x ∷ l) (all_pass xs)

-- ---- the sets that are copied

abbrev copied : SetColumns → Row
copied c = whole c.number ∷ Null ∷ whole c.session ∷ Text c.capability ∷ flag c.cancelled ∷ or_null Text c.answers
    ∷ or_null Text c.verdicts ∷ or_null whole c.disposition ∷ whole 0 ∷ []

cast_copied : (c : SetColumns) → cast_row (set_table 8) (copied c) ≡ set_row (of_first_epoch c)
cast_copied c = rw (
  cast_whole c.number,
  cast_null,
  cast_whole c.session,
  cast_flag c.cancelled,
  cast_text_option c.answers,
  cast_text_option c.verdicts,
  cast_option c.disposition,
  cast_whole 0,
) refl

cast_all : (xs : List SetColumns) → map (λ s. cast_row (set_table 8) (drop 0 s)) (map copied xs)
    ≡ map set_row (map of_first_epoch xs)
cast_all [] = refl
cast_all (x ∷ xs) = rw (cast_copied x, cast_all xs) refl

-- each brings its number
numbered_all : (rows : List Row) (xs : List SetColumns) → numbered_rows Chosen rows (map set_row xs) ≡ map set_row xs
numbered_all rows [] = refl
numbered_all rows (x ∷ xs) = ap (λ l. set_row x ∷ l) (numbered_all (put_row (set_row x) rows) xs)

low_epochs : (xs : List SetColumns) → AllByRecursion (λ (c : SetColumns). c.number < 2 ^ 63) xs
    → AllByRecursion (λ (c : SetColumns). c.number < 2 ^ 63) (map of_first_epoch xs)
low_epochs [] h = tt
low_epochs (x ∷ xs) h = (h.0, low_epochs xs h.1)

module _ (trees next : Trees) (sources : List Row)
    (wrote : Writes (schema_of Migrated) Enforced trees (edit_of trees (set_table 8) [] Chosen 0 sources) (Ok next))
    (none : trees 8 ≡ []) (sets : List SetRow) (h : HoldsOldSets (trees 4) sets)
    (found : IsPermutation (map copied (filter (λ c. true) h.kept.ordered)) sources) where
  copies : HoldsSets (next 8) sets
  copies =
      let ordered = h.kept.ordered in
      let back = pull_back copied (map copied ordered) sources
      (subst (λ l. IsPermutation (map copied l) sources) (all_pass ordered) found) ordered refl in
      let news = map of_first_epoch back.0 in
      let it = applied Migrated trees next (edit_of trees (set_table 8) [] Chosen 0 sources) wrote in
      let rows : numbered_rows Chosen (trees 8) (map (λ s. cast_row (set_table 8) (drop 0 s)) sources)
      ≡ map set_row news =
      ap (λ rs. numbered_rows Chosen (trees 8) (map (λ s. cast_row (set_table 8) (drop 0 s)) rs)) back.2
      ∙ ap (numbered_rows Chosen (trees 8)) (cast_all back.0) ∙ numbered_all (trees 8) news in
      let fresh : are_fresh (trees 8) (map set_row news) ≡ true =
      subst (λ rs. are_fresh (trees 8) rs ≡ true) rows it.fresh in
      let low = low_epochs back.0
      (all-permutation (λ (c : SetColumns). c.number < 2 ^ 63) ordered back.0 back.1 h.kept.fits) in
      let put = puts_all set_key set_row (λ c. refl) news (trees 8) []
      (kept_none set_key set_row (trees 8) none) fresh low in
      record {
        columns = map of_first_epoch h.columns;
        kept = record {
          ordered = put.ordered;
          rows_are = it.rows ∙ ap (put_all (trees 8)) rows ∙ put.rows_are;
          rising = put.rising;
          fits = put.fits;
          same = IsPermutation-trans _ news _ put.same
              (IsPermutation-map of_first_epoch back.0 h.columns
              (IsPermutation-trans _ ordered _ (IsPermutation-sym _ _ back.1) h.kept.same));
        };
        same = h.same;
      }

copying : (limit : Option ℕ) (text : List ℕ) (trees : Trees) (tally : Tally) (after : Database)
    → Does limit mode [] (record { schema = schema_of Migrated; trees = trees }) text None
    (Insert 6 (source.Query (record { lets = []; body = copy_query }))) (Ok (tally, after))
    → CopiesSets (record { schema = schema_of Migrated; trees = trees }) after
copying limit text trees tally after does =
    let it = inserted_rows Migrated limit (set_table 8) [] trees tally after 6
    (source.Query (record { lets = []; body = copy_query })) does in
    record {
      schema = it.2.schema;
      copied = λ none sets h.
          let found = selected_by [] old_set_row (λ c. true) [] (λ c. refl) copy_query.collations 4 copy_query.project
          copied (λ c. refl) (overlay trees []) h.kept.ordered it.0 h.kept.rows_are (it.1.answer Null) in
          copies trees after.trees it.0 it.2.writes none sets h found;
      others = (applied Migrated trees after.trees (edit_of trees (set_table 8) [] Chosen 0 it.0) it.2.writes).tables;
    }

pub copy_effect : (old : State) → old.now.schema ≡ schema_of Migrated → (tally : Tally) (after : Database)
    → Does old.step_limit (mode_of old) [] old.now
    (statement_of copy_sets (understood (schema_of Migrated) copy_sets)) None
    (Insert 6 (source.Query (record { lets = []; body = copy_query }))) (Ok (tally, after))
    → CopiesSets old.now after
copy_effect old =
    under_schema (schema_of Migrated) old [] [] (Insert 6 (source.Query (record { lets = []; body = copy_query })))
    CopiesSets (λ limit trees tally after does. copying limit [] trees tally after does)

-- ---- the sets that are taken out

abbrev entry_of : SetColumns → Entry SetColumns
entry_of c = record { id = pos c.number; row = c }

entries_rise : (xs : List SetColumns) → IsAscending (λ (a b : SetColumns). a.number < b.number) xs
    → IsAscending (λ (a b : Entry SetColumns). a.id <ℤ b.id) (map entry_of xs)
entries_rise [] h = tt
entries_rise (x ∷ xs) h = (below xs h.0, entries_rise xs h.1)
  where
    below : (xs : List SetColumns) → AllByRecursion (λ (y : SetColumns). x.number < y.number) xs
        → AllByRecursion (λ (e : Entry SetColumns). pos x.number <ℤ e.id) (map entry_of xs)
    below [] k = tt
    below (y ∷ xs) k = (let low = k.0 in omega (arith, ints), below xs k.1)

entry_rows : (xs : List SetColumns) → map old_set_row xs ≡ map (entry_row old_set_columns) (map entry_of xs)
entry_rows [] = refl
entry_rows (x ∷ xs) = ap (λ l. old_set_row x ∷ l) (entry_rows xs)

deleting : (limit : Option ℕ) (text : List ℕ) (trees : Trees) (tally : Tally) (after : Database)
    → Does limit mode [] (record { schema = schema_of Migrated; trees = trees }) text None
    (Delete 3 (record { lets = []; body = old_sets_query })) (Ok (tally, after))
    → EmptiesOldSets (record { schema = schema_of Migrated; trees = trees }) after
deleting limit text trees tally after does =
    let deleted = deleted_rows Migrated limit (old_set_table 4) [] trees tally after 3 _ does in
    let it = applied Migrated trees after.trees (edit_of trees (old_set_table 4) (ids_of deleted.0) Given 0 [])
    deleted.2.writes in
    record {
      schema = deleted.2.schema;
      emptied = λ sets h.
          let entries = map entry_of h.kept.ordered in
          let has : trees 4 ≡ map (entry_row old_set_columns) entries = h.kept.rows_are ∙ entry_rows h.kept.ordered in
          let rows = selected [] (entry_row old_set_columns) (λ e. true) [] (λ e. refl) 4 old_sets_query.project
          (λ e. Int e.id ∷ []) (λ e. refl) (overlay trees []) entries deleted.0 has (deleted.1.answer Null) in
          let left = it.rows ∙ ap (λ all. without_all all (ids_of deleted.0)) has
          ∙ removed old_set_columns (λ e. true) entries deleted.0 (entries_rise h.kept.ordered h.kept.rising) rows in
          left ∙ ap (map (entry_row old_set_columns)) (none_passes entries);
      others = it.tables;
    }

pub delete_effect : (old : State) → old.now.schema ≡ schema_of Migrated → (tally : Tally) (after : Database)
    → Does old.step_limit (mode_of old) [] old.now
    (statement_of delete_sets (understood (schema_of Migrated) delete_sets)) None
    (Delete 3 (record { lets = []; body = old_sets_query })) (Ok (tally, after))
    → EmptiesOldSets old.now after
delete_effect old =
    under_schema (schema_of Migrated) old [] [] (Delete 3 (record { lets = []; body = old_sets_query })) EmptiesOldSets
    (λ limit trees tally after does. deleting limit [] trees tally after does)

-- ---- the version

abbrev renewed : Row → Row
renewed row = column row 0 ∷ column row 0 ∷ column row 1 ∷ whole 3 ∷ []

-- what is written of a row
abbrev written_for : Row → Row
written_for s = cast_row (meta_table 0) (drop 1 s)

-- it is the row 'schema', at version 3
is_third : (r : Row) → is_schema_row r ≡ true → is_version_row 3 (written_for (renewed r)) ≡ true
is_third r is = subst (λ v. is_version_row 3 (cast_row (meta_table 0) (column r 0 ∷ v ∷ whole 3 ∷ [])) ≡ true)
    (sym (its_text (column r 1) is)) (third (column r 0))
  where
    third : (id : Value) → is_version_row 3 (cast_row (meta_table 0) (id ∷ Text (codes "schema") ∷ whole 3 ∷ [])) ≡ true
    third id = ap₂ (λ a b. a && b) its_name (ap (λ v. is_equal v (whole 3)) (cast_whole 3) ∙ same_whole 3 3)

-- its number is given, and none is chosen for it
is_third_under : (rows : List Row) (r : Row) → is_version_row 3 (written_for r) ≡ true
    → is_version_row 3 (with_rowid Given rows (written_for r)) ≡ true
is_third_under rows r is = is

abbrev AreThird : List Row → Type 0
AreThird = AllByRecursion (λ r. is_version_row 3 r ≡ true)

thirds : (rows found : List Row) → AllByRecursion (λ r. is_version_row 3 (written_for r) ≡ true) found
    → AreThird (numbered_rows Given rows (map written_for found))
thirds rows [] all = tt
thirds rows (r ∷ found) all =
    (is_third_under rows r all.0, thirds (put_row (with_rowid Given rows (written_for r)) rows) found all.1)

renewed_all : (rows : List Row)
    → AllByRecursion (λ r. is_version_row 3 (written_for r) ≡ true) (map renewed (filter is_schema_row rows))
renewed_all [] = tt
renewed_all (r ∷ rows) = elim (cases_Bool (is_schema_row r)) [
  | inl is ↦ rw is (is_third r is, renewed_all rows)
  | inr other ↦ rw other (renewed_all rows)
]

-- a row that is put in is there
put_there : (p : Row → Bool) (new : Row) (rows : List Row) → p new ≡ true → list_any p (put_row new rows) ≡ true
put_there p new [] is = rw is refl
put_there p new (r ∷ rows) is = in_place (value_cmp (rowid r) (rowid new)) (r ∷ put_row new rows) (new ∷ rows)
    (new ∷ r ∷ rows) (rw (put_there p new rows is) (or_true (p r))) (rw is refl) (rw is refl)
  where
    or_true : (b : Bool) → (b || true) ≡ true
    or_true true = refl
    or_true false = refl

    in_place : (o : Ordering) (less equal greater : List Row) → list_any p less ≡ true → list_any p equal ≡ true
        → list_any p greater ≡ true → list_any p (match_ordering o less equal greater) ≡ true
    in_place Less less equal greater a b c = a
    in_place Equal less equal greater a b c = b
    in_place Greater less equal greater a b c = c

all_there : (rows : List Row) (r : Row) (news : List Row) → AreThird (r ∷ news)
    → list_any (is_version_row 3) (put_all rows (r ∷ news)) ≡ true
all_there rows r [] all = put_there (is_version_row 3) r rows all.0
all_there rows r (s ∷ news) all = all_there (put_row r rows) s news all.1

any_there : (rows : List Row) (news : List Row) → 0 < length news → AreThird news
    → list_any (is_version_row 3) (put_all rows news) ≡ true
any_there rows [] some all = absurd (omega arith)
any_there rows (r ∷ news) some all = all_there rows r news all

-- so many rows are written as there are rows 'schema', and one is there where `meta` names a version
some_named : (n : ℕ) (rows : List Row) → list_any (is_version_row n) rows ≡ true
    → 0 < length (filter is_schema_row rows)
some_named n [] named = absurd (cc)
some_named n (r ∷ rows) named = elim (cases_Bool (is_schema_row r)) [
  | inl is ↦ rw is (omega arith)
  | inr other ↦ rw other (some_named n rows (rw other at named))
]

length_numbered : (rows news : List Row) → length (numbered_rows Given rows news) ≡ length news
length_numbered rows [] = refl
length_numbered rows (r ∷ news) = ap suc (length_numbered (put_row (with_rowid Given rows r) rows) news)

rewritten : (n : ℕ) (rows left found : List Row) → list_any (is_version_row n) rows ≡ true
    → IsPermutation (map renewed (filter is_schema_row rows)) found
    → list_any (is_version_row 3) (put_all left (numbered_rows Given left (map written_for found))) ≡ true
rewritten n rows left found named same =
    let as_many = length_permutation _ _ same in
    let many = length-map (filter is_schema_row rows) renewed in
    let written = length-map found written_for in
    let some = some_named n rows named in
    any_there left _ (rw (length_numbered left (map written_for found)) (omega (arith, as_many, many, written, some)))
    (thirds left found (all-permutation _ _ _ same (renewed_all rows)))

raising : (layout : Layout) (limit : Option ℕ) (text : List ℕ) (trees : Trees) (tally : Tally) (after : Database)
    → Does limit mode [] (record { schema = schema_of layout; trees = trees }) text None
    (Update 0 (record { lets = []; body = raise_query })) (Ok (tally, after))
    → RaisesVersion layout (record { schema = schema_of layout; trees = trees }) after
raising layout limit text trees tally after does =
    let updated = updated_rows layout limit (meta_table 0) [] trees tally after 0 _ does in
    let it = applied layout trees after.trees (edit_for (meta_table 0) trees updated.0) updated.2.writes in
    let rows = selected [] (λ (r : Row). r) is_schema_row raise_query.filter (λ r. rw test_text (and_true _)) 0
    raise_query.project renewed (λ r. refl) (overlay trees []) (trees 0) updated.0 (map_same _)
    (updated.1.answer Null) in
    record {
      schema = updated.2.schema;
      raised = λ n named. ap (list_any (is_version_row 3)) it.rows ∙ rewritten n (trees 0) _ updated.0 named rows;
      others = it.tables;
    }

pub raise_effect : (layout : Layout) (old : State) → Effects VersionRaised layout [] old (RaisesVersion layout)
raise_effect layout old =
    under_schema (schema_of layout) old [] [] (writing_command VersionRaised layout) (RaisesVersion layout)
    (λ limit trees tally after does. raising layout limit [] trees tally after does)

-- ---- what all the statements of a migration do, one after the other

-- no reviewer is there
none_review : (rows : List Row) (reviewers : List ReviewerRow) → rows ≡ [] → reviewers ≡ []
    → HoldsReviewers rows reviewers
none_review rows reviewers none are =
    subst (HoldsReviewers rows) (sym are)
    (record { kept = record { entries = []; rows_are = none; rising = tt; same = IsPermutation-refl [] }; fits = tt })

abbrev pub MovesFirst : Database → Database → Type 0
MovesFirst = Both (Under (before table.LaterSet) (Makes table.LaterSet))
    (Both (Under (before table.LaterReviewer) (Makes table.LaterReviewer))
    (Both (Under (schema_of Migrated) CopiesSets)
    (Both (Under (schema_of Migrated) EmptiesOldSets) (UnderStore RaisesVersion))))

pub first_moves : (old new : Database) → MovesFirst old new → Under (schema_at First) (Moves First) old new
first_moves old new h schema =
    let d1 = h.1 (schema ∙ first_is) in
    let m1 = d1.1 in
    let d2 = h.2.1 m1.schema in
    let m2 = d2.1 in
    let d3 = h.2.2.1 (m2.schema ∙ migrated_schema) in
    let x = d3.1 in
    let d4 = h.2.2.2.1 x.schema in
    let y = d4.1 in
    let d5 = h.2.2.2.2 Migrated y.schema in
    let z = d5.1 in
    let meta = y.others.0 (apart 0 4 refl) ∙ x.others.0 (apart 0 8 refl) ∙ m2.others.0 ∙ m1.others.0 in
    let accounts = z.others.1.0 (apart 2 0 refl) ∙ y.others.1.0 (apart 2 4 refl) ∙ x.others.1.0 (apart 2 8 refl)
    ∙ m2.others.1.0 ∙ m1.others.1.0 in
    let sessions = z.others.1.1.0 (apart 3 0 refl) ∙ y.others.1.1.0 (apart 3 4 refl) ∙ x.others.1.1.0 (apart 3 8 refl)
    ∙ m2.others.1.1.0 ∙ m1.others.1.1.0 in
    let old_sets = m2.others.1.1.1.0 ∙ m1.others.1.1.1.0 in
    let none = m2.others.1.1.1.1.1.1.0 ∙ m1.empty in
    let sets = z.others.1.1.1.1.1.1.0 (apart 8 0 refl) ∙ y.others.1.1.1.1.1.1.0 (apart 8 4 refl) in
    let objects = z.others.1.1.1.1.0 (apart 5 0 refl) ∙ y.others.1.1.1.1.0 (apart 5 4 refl)
    ∙ x.others.1.1.1.1.0 (apart 5 8 refl) ∙ m2.others.1.1.1.1.0 ∙ m1.others.1.1.1.1.0 in
    let requests = z.others.1.1.1.1.1.0 (apart 7 0 refl) ∙ y.others.1.1.1.1.1.0 (apart 7 4 refl)
    ∙ x.others.1.1.1.1.1.0 (apart 7 8 refl) ∙ m2.others.1.1.1.1.1.0 ∙ m1.others.1.1.1.1.1.0 in
    let reviewers = z.others.1.1.1.1.1.1.1.0 (apart 9 0 refl) ∙ y.others.1.1.1.1.1.1.1.0 (apart 9 4 refl)
    ∙ x.others.1.1.1.1.1.1.1.0 (apart 9 8 refl) ∙ m2.empty in (
      λ sound. d5.0 (d4.0 (d3.0 (d2.0 (d1.0 sound)))),
      record {
        schema = z.schema;
        stands = λ c st. record {
          version = z.raised 1 (ap (list_any (is_version_row 1)) meta ∙ st.version);
          accounts = subst (λ rows. HoldsAccounts rows c.accounts) (sym accounts) st.accounts;
          sessions = subst (λ rows. HoldsSessions rows c.sessions) (sym sessions) st.sessions;
          sets = subst (λ rows. HoldsSets rows c.sets) (sym sets)
              (x.copied none c.sets (subst (λ rows. HoldsOldSets rows c.sets) (sym old_sets) st.sets));
          no_old_sets = z.others.1.1.1.0 (apart 4 0 refl)
              ∙ y.emptied c.sets (subst (λ rows. HoldsOldSets rows c.sets)
              (sym (x.others.1.1.1.0 (apart 4 8 refl) ∙ old_sets)) st.sets);
          objects = subst (λ rows. HoldsObjects rows c.objects) (sym objects) st.objects;
          object_numbers = st.object_numbers;
          requests = subst (λ rows. HoldsRequests rows c.requests) (sym requests) st.requests;
          reviewers = none_review _ c.reviewers reviewers st.reviewers;
        };
      },
    )

abbrev pub MovesSecond : Database → Database → Type 0
MovesSecond = Both (Under (before table.Reviewer) (Makes table.Reviewer)) (UnderStore RaisesVersion)

pub second_moves : (old new : Database) → MovesSecond old new
    → Under (schema_at (Second Created)) (Moves (Second Created)) old new
second_moves old new h schema =
    let d1 = h.1 (schema ∙ second_is) in
    let m = d1.1 in
    let d2 = h.2 Created (m.schema ∙ whole_schema) in
    let z = d2.1 in (
      λ sound. d2.0 (d1.0 sound),
      record {
        schema = z.schema;
        stands = λ c st. record {
          version = z.raised 2 (ap (list_any (is_version_row 2)) m.others.0 ∙ st.version);
          accounts = subst (λ rows. HoldsAccounts rows c.accounts)
              (sym (z.others.1.0 (apart 2 0 refl) ∙ m.others.1.0)) st.accounts;
          sessions = subst (λ rows. HoldsSessions rows c.sessions)
              (sym (z.others.1.1.0 (apart 3 0 refl) ∙ m.others.1.1.0)) st.sessions;
          sets = subst (λ rows. HoldsSets rows c.sets)
              (sym (z.others.1.1.1.0 (apart 4 0 refl) ∙ m.others.1.1.1.0)) st.sets;
          no_old_sets = tt;
          objects = subst (λ rows. HoldsObjects rows c.objects)
              (sym (z.others.1.1.1.1.0 (apart 5 0 refl) ∙ m.others.1.1.1.1.0)) st.objects;
          object_numbers = st.object_numbers;
          requests = subst (λ rows. HoldsRequests rows c.requests)
              (sym (z.others.1.1.1.1.1.0 (apart 7 0 refl) ∙ m.others.1.1.1.1.1.0)) st.requests;
          reviewers = none_review _ c.reviewers (z.others.1.1.1.1.1.1.0 (apart 8 0 refl) ∙ m.empty) st.reviewers;
        };
      },
    )

abbrev pub MovesSecondBeside : Database → Database → Type 0
MovesSecondBeside = Both (Under (before table.LaterReviewer) (Makes table.LaterReviewer)) (UnderStore RaisesVersion)

pub second_beside_moves : (old new : Database) → MovesSecondBeside old new
    → Under (schema_at (Second Migrated)) (Moves (Second Migrated)) old new
second_beside_moves old new h schema =
    let d1 = h.1 (schema ∙ second_beside_is) in
    let m = d1.1 in
    let d2 = h.2 Migrated (m.schema ∙ migrated_schema) in
    let z = d2.1 in (
      λ sound. d2.0 (d1.0 sound),
      record {
        schema = z.schema;
        stands = λ c st. record {
          version = z.raised 2 (ap (list_any (is_version_row 2)) m.others.0 ∙ st.version);
          accounts = subst (λ rows. HoldsAccounts rows c.accounts)
              (sym (z.others.1.0 (apart 2 0 refl) ∙ m.others.1.0)) st.accounts;
          sessions = subst (λ rows. HoldsSessions rows c.sessions)
              (sym (z.others.1.1.0 (apart 3 0 refl) ∙ m.others.1.1.0)) st.sessions;
          sets = subst (λ rows. HoldsSets rows c.sets)
              (sym (z.others.1.1.1.1.1.1.0 (apart 8 0 refl) ∙ m.others.1.1.1.1.1.1.0)) st.sets;
          no_old_sets = z.others.1.1.1.0 (apart 4 0 refl) ∙ m.others.1.1.1.0 ∙ st.no_old_sets;
          objects = subst (λ rows. HoldsObjects rows c.objects)
              (sym (z.others.1.1.1.1.0 (apart 5 0 refl) ∙ m.others.1.1.1.1.0)) st.objects;
          object_numbers = st.object_numbers;
          requests = subst (λ rows. HoldsRequests rows c.requests)
              (sym (z.others.1.1.1.1.1.0 (apart 7 0 refl) ∙ m.others.1.1.1.1.1.0)) st.requests;
          reviewers = none_review _ c.reviewers (z.others.1.1.1.1.1.1.1.0 (apart 9 0 refl) ∙ m.empty) st.reviewers;
        };
      },
    )
