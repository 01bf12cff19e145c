-- What a statement makes of the one table that it writes, whichever that is, where it has numbers as keys.
use Rattle.std.proofs.Common.{◌≡◌, inl, inr, ℕ, pos, List, [], ◌∷◌, map, not, Ok, sym, ap, subst, ◌∙◌, ◌<◌, ◌^◌, ◌++◌}
use Rattle.std.proofs.Common.{Bool, true, false, refl, ◌/◌, ◌≢◌, length, Option, Some, None}
use Rattle.std.specs.Prelude.{◌==◌, ◌&&◌}
use Rattle.sqlite_rules.specs.Edit.{numbered as numbered_rows}
use Rattle.acvp_store.proofs.Words.{all_both, Alters, Answers, are_fresh, AreKept, AtPlace, Binary, binary, cast_row}
use Rattle.acvp_store.proofs.Words.{Chosen, Command, Compare, Concludes, Database, Delete, Does, Edit, edit_of}
use Rattle.acvp_store.proofs.Words.{Enforced, Eq, eval_all, filter, Given, holds, ids_of, Insert, is_eq, is_true}
use Rattle.acvp_store.proofs.Words.{IsPermutation, IsSource, Layout, left_by, list_all, list_any, mode_of, Null}
use Rattle.acvp_store.proofs.Words.{one_permutation, OnRows, overlay, put_all, put_row, Row, rowid, schema_of}
use Rattle.acvp_store.proofs.Words.{slice_get, SparesOthers, State, Table, table_by_number, Tally, Term, Trees, Update}
use Rattle.acvp_store.proofs.Words.{value_cmp, value_rows, Values, whole, without_all, Writes}
use Rattle.acvp_store.proofs.Idle.{applied}
use Rattle.acvp_store.proofs.Keyed.{none_left, keyed, changing, few_keyed, none_changing, rechanged, gone_keyed}
use Rattle.acvp_store.proofs.Keyed.{without_key, put_new, kept_changed, free_key, kept_with}
use Rattle.sqlite.specs.Rows.{Written, Task, stamped}
use Rattle.sqlite.specs.declared.run.Mode.{Mode}
use Rattle.sqlite_schema.specs.declared.command.Source.{Source}
use Rattle.sqlite_schema.specs.declared.program.Program.{Program}
use Rattle.sqlite_schema.specs.declared.schema.Column.{Column}
use Rattle.sqlite_schema.specs.declared.schema.Reference.{Reference}
use Rattle.sqlite_schema.specs.declared.schema.Schema.{Schema}
use Rattle.acvp_store.proofs.Parts.{went, same_value, and_true}
use Rattle.acvp_store.proofs.SelectedRows.{selected, test_equals}
use Rattle.acvp_store.proofs.QueryForms.{equals}
use Rattle.acvp_store.proofs.Writings.{update, updating}

-- ---- the update of the row under one number, in whichever table has numbers as keys

abbrev pub edit_for : Table → Trees → List Row → Edit
edit_for table trees rows = edit_of trees table (ids_of rows) Given 1 rows

-- of a table that casts no row that it keeps to another
module _ (layout : Layout) {A : Type 0} (key : A → ℕ) (stored : A → Row)
    (rowid_is : (a : A) → rowid (stored a) ≡ whole (key a))
    (table : Table) (casts : (a : A) → cast_row table (stored a) ≡ stored a) (n : ℕ) (f : A → A)
    (keeps : (a : A) → key (f a) ≡ key a)
    (trees next : Trees) (list : List A) (kept : AreKept key stored (trees table.tree) list) where
  -- what the statement makes of a row: its number, and the row that is written for it
  abbrev renewed : A → Row
  renewed a = whole (key a) ∷ stored (f a)

  none_found : keyed key n kept.ordered ≡ []
      → Writes (schema_of layout) Enforced trees (edit_for table trees []) (Ok next)
      → next table.tree ≡ map stored (map (changing key n f) kept.ordered)
  none_found none wrote =
      let it = applied layout trees next (edit_for table trees []) wrote in
      it.rows ∙ kept.rows_are ∙ ap (map stored) (sym (none_changing key n f kept.ordered none))

  one_found : (a : A) → keyed key n kept.ordered ≡ a ∷ [] → key a ≡ n
      → Writes (schema_of layout) Enforced trees (edit_for table trees (renewed a ∷ [])) (Ok next)
      → next table.tree ≡ map stored (map (changing key n f) kept.ordered)
  one_found a one same wrote =
      let it = applied layout trees next (edit_for table trees (renewed a ∷ [])) wrote in
      let rest = filter (λ (x : A). not (key x == n)) kept.ordered in
      let gone : ids_of (renewed a ∷ []) ≡ pos n ∷ [] = ap (λ k. pos k ∷ []) same in
      let left : left_by trees (edit_for table trees (renewed a ∷ [])) ≡ map stored rest =
      ap (without_all (trees table.tree)) gone ∙ ap (λ rows. without_all rows (pos n ∷ [])) kept.rows_are
      ∙ without_key key stored rowid_is n kept.ordered in
      let free : keyed key (key (f a)) rest ≡ [] =
      subst (λ k. keyed key k rest ≡ []) (sym (keeps a ∙ same)) (gone_keyed key n kept.ordered) in
      it.rows ∙ ap (put_row (cast_row table (stored (f a)))) left ∙ ap (λ r. put_row r (map stored rest)) (casts (f a))
      ∙ put_new key stored rowid_is (f a) rest free
      ∙ ap (map stored) (rechanged key n f keeps kept.ordered a kept.rising one)

  pub rows_updated : (rows : List Row) → IsPermutation (map renewed (keyed key n kept.ordered)) rows
      → Writes (schema_of layout) Enforced trees (edit_for table trees rows) (Ok next)
      → next table.tree ≡ map stored (map (changing key n f) kept.ordered)
  rows_updated rows found wrote = elim (few_keyed key n kept.ordered kept.rising) [
    | inl none ↦ none_found none
        (subst (λ rs. Writes (schema_of layout) Enforced trees (edit_for table trees rs) (Ok next))
        (none_left rows (rw none at found)) wrote)
    | inr one ↦ one_found one.0 one.1 one.2
        (subst (λ rs. Writes (schema_of layout) Enforced trees (edit_for table trees rs) (Ok next))
        (one_permutation (renewed one.0) rows (rw one.1 at found)) wrote)
  ]

  pub updates : (rows : List Row) → IsPermutation (map renewed (keyed key n kept.ordered)) rows
      → Writes (schema_of layout) Enforced trees (edit_for table trees rows) (Ok next)
      → AreKept key stored (next table.tree) (map (changing key n f) list)
  updates rows found wrote = kept_changed key stored rowid_is n f keeps (trees table.tree) (next table.tree) list kept
      (rows_updated rows found wrote)

-- ---- the insertion of one row under a number that it brings, into whichever table has numbers as keys

pub not_false : (b : Bool) → (not b && true) ≡ true → b ≡ false
not_false true h = absurd (cc)
not_false false h = refl

numbered_one : (r s : Row) (n : ℕ) (rows : List Row) → r ≡ s → rowid s ≡ whole n
    → numbered_rows Chosen rows (r ∷ []) ≡ s ∷ []
numbered_one r s n rows same given = rw (same, given) refl

module _ (layout : Layout) {A : Type 0} (key : A → ℕ) (stored : A → Row) (rowid_is : (a : A)
    → rowid (stored a) ≡ whole (key a)) (table : Table) (new : A) (given : Row)
    (casts : cast_row table given ≡ stored new) (trees next : Trees)
    (low : key new < 2 ^ 63) where
  pub inserts : Writes (schema_of layout) Enforced trees (edit_of trees table [] Chosen 0 (given ∷ [])) (Ok next)
      → (list : List A) → AreKept key stored (trees table.tree) list
      → AreKept key stored (next table.tree) (list ++ new ∷ [])
  inserts wrote list kept =
      let it = applied layout trees next (edit_of trees table [] Chosen 0 (given ∷ [])) wrote in
      let news = numbered_one (cast_row table given) (stored new) (key new) (trees table.tree) casts (rowid_is new) in
      let one = subst (λ rs. are_fresh (trees table.tree) rs ≡ true) news it.fresh in
      let fresh = not_false _ (subst (λ rows. are_fresh rows (stored new ∷ []) ≡ true) kept.rows_are one) in
      let free = free_key key stored rowid_is (key new) kept.ordered
      (subst (λ v. list_any (λ r. is_eq (value_cmp (rowid r) v)) (map stored kept.ordered) ≡ false)
      (rowid_is new) fresh) in
      kept_with key stored rowid_is (trees table.tree) (next table.tree) list new kept free
      (it.rows ∙ ap (put_all (trees table.tree)) news
      ∙ rw kept.rows_are (put_new key stored rowid_is new kept.ordered free)) low

-- ---- what a statement makes of the one table that it writes, whichever that is

abbrev pub mode : Mode
mode = record { keys = Enforced; in_doubt = false; may_wait = false }

abbrev pub task_of : Layout → Option ℕ → Table → Row → Task
task_of layout limit table params =
    record { limit = limit; keys = Enforced; schema = schema_of layout; table = table; params = params }

-- the database after has the trees that were written
pub concluded : (task : Task) (w : Written) (tally : Tally) (after : Database)
    → Concludes task mode None w (Ok (tally, after)) → after ≡ record { schema = task.schema; trees = w.trees }
concluded task w tally after h = ap (λ (p : Tally × Database). p.1) (same_value (went (went h).2).2)

-- the other tables after two statements on one
pub spares_then : (layout : Layout) (tree : ℕ) (a b c : Trees) → SparesOthers layout tree a b
    → SparesOthers layout tree b c → SparesOthers layout tree a c
spares_then layout tree a b c p q =
    all_both (λ (t : Table). t.tree ≢ tree → b t.tree ≡ a t.tree) (λ t. t.tree ≢ tree → c t.tree ≡ b t.tree)
    (λ t. t.tree ≢ tree → c t.tree ≡ a t.tree) (λ t p q apart. q apart ∙ p apart) (schema_of layout).tables p q

-- ---- what a statement on the rows of a table leaves

module _ (layout : Layout) (limit : Option ℕ) (t : Table) (params : Row) (trees : Trees) (tally : Tally)
    (after : Database) where
  abbrev before : Database
  before = record { schema = schema_of layout; trees = trees }

  -- the trees of its edit, under the same schema
  pub record Leaves (edit : Edit) : Type 0 where
    pub schema : after.schema ≡ schema_of layout
    pub writes : Writes (schema_of layout) Enforced trees edit (Ok after.trees)

  leaves : (table : Table) (edit : Edit) (next : Trees) → Writes (schema_of layout) Enforced trees edit (Ok next)
      → (w : Written) → w.trees ≡ next → Concludes (task_of layout limit table params) mode None w (Ok (tally, after))
      → Leaves edit
  leaves table edit next wrote w is h =
      let now = concluded (task_of layout limit table params) w tally after h in
      let trees_are : next ≡ after.trees = sym (ap (λ (d : Database). d.trees) now ∙ is) in
      record {
        schema = ap (λ (d : Database). d.schema) now;
        writes = subst (λ n. Writes (schema_of layout) Enforced trees edit (Ok n)) trees_are wrote;
      }

  pub updated_rows : (at : ℕ) (q : Program)
      → OnRows (task_of layout limit t params) mode None (Update at q) trees (Ok (tally, after))
      → (rows : List Row) × Answers before q params rows × Leaves (edit_for t trees rows)
  updated_rows at q does =
      let done = went does in
      let found = went done.1 in
      let written = went found.2 in
      let is = ap (λ (it : Written). it.trees) (same_value written.2) in
      (found.0, found.1, leaves t (edit_for t trees found.0) written.0 written.1 done.0 is done.2)

  pub deleted_rows : (at : ℕ) (q : Program)
      → OnRows (task_of layout limit t params) mode None (Delete at q) trees (Ok (tally, after))
      → (rows : List Row) × Answers before q params rows × Leaves (edit_of trees t (ids_of rows) Given 0 [])
  deleted_rows at q does =
      let done = went does in
      let found = went done.1 in
      let written = went found.2 in
      let is = ap (λ (it : Written). it.trees) (same_value written.2) in
      (found.0, found.1, leaves t (edit_of trees t (ids_of found.0) Given 0 []) written.0 written.1 done.0 is done.2)

  -- of a table without AUTOINCREMENT
  abbrev pub uncounted : Table
  uncounted = record t { is_counted = false }

  pub inserted_rows : (at : ℕ) (from : Source)
      → OnRows (task_of layout limit uncounted params) mode None (Insert at from) trees (Ok (tally, after))
      → (rows : List Row) × IsSource before (stamped uncounted params) from rows
      × Leaves (edit_of trees uncounted [] Chosen 0 rows)
  inserted_rows at from does =
      let done = went does in
      let source = went done.1 in
      let written = went (went source.2).2 in
      let counted = went written.2 in
      let is = ap (λ (it : Written). it.trees) (same_value counted.2) ∙ same_value counted.1 in
      let edit = edit_of trees uncounted [] Chosen 0 source.0 in
      (source.0, source.1, leaves uncounted edit written.0 written.1 done.0 is done.2)

-- a statement does to a store's database what it does to each of that schema
pub under_schema : (schema : Schema) (old : State) (params : Row) (text : List ℕ) (command : Command)
    (Change : Database → Database → Type 0)
    → ((limit : Option ℕ) (trees : Trees) (tally : Tally) (after : Database)
    → Does limit mode params (record { schema = schema; trees = trees }) text None command (Ok (tally, after))
    → Change (record { schema = schema; trees = trees }) after)
    → old.now.schema ≡ schema → (tally : Tally) (after : Database)
    → Does old.step_limit (mode_of old) params old.now text None command (Ok (tally, after)) → Change old.now after
under_schema schema old params text command Change does is tally after h =
    let now = λ (s : Schema). let it : Database = record old.now { schema = s } in it in
    subst (λ s. Change (now s) after) (sym is)
    (does old.step_limit old.now.trees tally after
    (subst (λ s. Does old.step_limit mode params (now s) text None command (Ok (tally, after))) is h))

-- ---- of a table that casts no row that it keeps to another, and has numbers as keys

module _ (layout : Layout) {A : Type 0} (key : A → ℕ) (stored : A → Row)
    (rowid_is : (a : A) → rowid (stored a) ≡ whole (key a)) (at : ℕ) where
  -- an UPDATE of the row of a number
  module _ (table : Table) (is_at : slice_get (schema_of layout).tables at ≡ Some table)
      (seen : (trees : Trees) → overlay trees [] table.tree ≡ trees table.tree)
      (casts : (a : A) → cast_row table (stored a) ≡ stored a)
      (terms : List Term) (n : ℕ) (more : Row) (f : A → A) (keeps : (a : A) → key (f a) ≡ key a)
      (shows : (a : A) → eval_all (updating terms) ((whole n ∷ more) ∷ stored a ∷ [])
      ≡ whole (key a) ∷ stored (f a)) where
    has_number : (a : A) → list_all (holds ((whole n ∷ more) ∷ stored a ∷ [])) (equals 0 0 ∷ []) ≡ (key a == n)
    has_number a = and_true _ ∙ subst (λ v. is_true (binary (Compare Eq Binary) v (whole n)) ≡ (key a == n))
        (sym (rowid_is a)) (test_equals (key a) n)

    updated : (limit : Option ℕ) (trees : Trees) (tally : Tally) (after : Database)
        → OnRows (task_of layout limit table (whole n ∷ more)) mode None (update at table.tree terms) trees
        (Ok (tally, after))
        → Alters layout table.tree (AreKept key stored) (map (changing key n f))
        (record { schema = schema_of layout; trees = trees }) after
    updated limit trees tally after does =
        let it = updated_rows layout limit table (whole n ∷ more) trees tally after at _ does in
        record {
          schema = it.2.schema;
          kept = λ list kept. updates layout key stored rowid_is table casts n f keeps trees after.trees list kept it.0
              (selected (whole n ∷ more) stored (λ a. key a == n) (equals 0 0 ∷ []) has_number table.tree
              (updating terms)
              (λ a. whole (key a) ∷ stored (f a)) shows (overlay trees []) kept.ordered it.0
              (seen trees ∙ kept.rows_are)
              (it.1.answer Null)) it.2.writes;
          others = (applied layout trees after.trees (edit_for table trees it.0) it.2.writes).tables;
        }

    pub update_effect : (old : State) → old.now.schema ≡ schema_of layout → (tally : Tally) (after : Database)
        → Does old.step_limit (mode_of old) (whole n ∷ more) old.now [] None (update at table.tree terms)
        (Ok (tally, after))
        → Alters layout table.tree (AreKept key stored) (map (changing key n f)) old.now after
    update_effect old =
        under_schema (schema_of layout) old (whole n ∷ more) [] (update at table.tree terms)
        (Alters layout table.tree (AreKept key stored) (map (changing key n f)))
        (λ limit trees tally after does. updated limit trees tally after
        (subst (λ (o : Option Table).
        AtPlace (λ t. OnRows (task_of layout limit t (whole n ∷ more)) mode None (update at table.tree terms) trees) o
        (Ok (tally, after))) is_at does))

  -- an INSERT of a row with a number
  module _ (name : List ℕ) (tree : ℕ) (columns : List Column) (references : List Reference)
      (is_at : slice_get (schema_of layout).tables at ≡ Some (table_by_number name tree columns references))
      (casts : (a : A) → cast_row (table_by_number name tree columns references) (stored a) ≡ stored a)
      (terms : List Term) (width : ℕ) (params : Row) (new : A)
      (values : value_rows (params ++ []) width (length terms / width) terms ≡ stored new ∷ [])
      (low : key new < 2 ^ 63) where
    abbrev table : Table
    table = table_by_number name tree columns references

    inserted : (limit : Option ℕ) (trees : Trees) (tally : Tally) (after : Database)
        → OnRows (task_of layout limit table params) mode None (Insert at (Values terms width)) trees
        (Ok (tally, after))
        → Alters layout tree (AreKept key stored) (λ list. list ++ new ∷ [])
        (record { schema = schema_of layout; trees = trees }) after
    inserted limit trees tally after does =
        let it = inserted_rows layout limit table params trees tally after at (Values terms width) does in
        let wrote = subst (λ rs. Writes (schema_of layout) Enforced trees (edit_of trees table [] Chosen 0 rs)
        (Ok after.trees))
        (it.1.1 ∙ values) it.2.writes in
        record {
          schema = it.2.schema;
          kept = λ list kept. inserts layout key stored rowid_is table new (stored new) (casts new) trees after.trees
              low wrote list kept;
          others = (applied layout trees after.trees (edit_of trees table [] Chosen 0 (stored new ∷ [])) wrote).tables;
        }

    pub insert_effect : (old : State) → old.now.schema ≡ schema_of layout → (tally : Tally) (after : Database)
        → Does old.step_limit (mode_of old) params old.now [] None (Insert at (Values terms width)) (Ok (tally, after))
        → Alters layout tree (AreKept key stored) (λ list. list ++ new ∷ []) old.now after
    insert_effect old =
        under_schema (schema_of layout) old params [] (Insert at (Values terms width))
        (Alters layout tree (AreKept key stored) (λ list. list ++ new ∷ []))
        (λ limit trees tally after does. inserted limit trees tally after
        (subst (λ (o : Option Table).
        AtPlace (λ t. OnRows (task_of layout limit t params) mode None (Insert at (Values terms width)) trees) o
        (Ok (tally, after))) is_at does))
