-- Rows of the tables, whatever they are, by the columns that are read of them: what the schema says of the others.
use Rattle.std.proofs.Common.{◌≡◌, ◌+◌, ℕ, ℤ, List, [], ◌∷◌, map, ◌≤◌, length, Bool, true, false, Option, Some, refl}
use Rattle.std.proofs.Common.{ap, subst, ◌∙◌, arith, slice_get}
use Rattle.std.specs.Prelude.{◌&&◌, if◌then◌else◌}
use Rattle.sqlite_catalog.specs.Listing.{IsSound}
use Rattle.sqlite_schema.specs.Names.{is_key}
use Rattle.sqlite_schema.specs.declared.schema.Column.{Column}
use Rattle.sqlite_schema.specs.declared.schema.Constraint.{Constraint}
use Rattle.acvp_store.proofs.Words.{account_columns, account_row, account_shown, account_table, account_tree}
use Rattle.acvp_store.proofs.Words.{AccountRow, all-slice_get, all_both, all_weaker, AllByRecursion, are_typed, AreFull}
use Rattle.acvp_store.proofs.Words.{AreLedBy, BeginsWith, column, Database, Datatype, drop, eval_all, filter}
use Rattle.acvp_store.proofs.Words.{HasRowOutside, is_between, is_null, IsAnswer, IsDatabase, IsPermutation, IsTree}
use Rattle.acvp_store.proofs.Words.{Layout, Null, overlay, passes, request_columns, request_row, request_shown}
use Rattle.acvp_store.proofs.Words.{request_table, request_tree, RequestRow, Row, schema_of, session_columns}
use Rattle.acvp_store.proofs.Words.{session_row, session_shown, session_table, session_tree, SessionRow, Shown, State}
use Rattle.acvp_store.proofs.Words.{suits, Table, Term, Trees, Value, whole}
use Rattle.acvp_store.proofs.QueryForms.{ordered_by, outside, within}
use Rattle.acvp_store.proofs.Readings.{AccountRange, Reading, RequestRange, SessionRange, account_terms, answers_as}
use Rattle.acvp_store.proofs.Readings.{reading_query, reading_text, request_terms, session_terms}
use Rattle.acvp_store.proofs.QueryRows.{selected_in_order}
use Rattle.acvp_store.proofs.RangeOutside.{is_outside, none_outside, number_told}
use Rattle.acvp_store.proofs.RangeRows.{test_between, in_tree_order}
use Rattle.acvp_store.proofs.Versions.{map_same}

pub left_true : (a b : Bool) → (a && b) ≡ true → a ≡ true
left_true true b h = refl
left_true false b h = absurd (cc)

right_true : (a b : Bool) → (a && b) ≡ true → b ≡ true
right_true true b h = h
right_true false b h = absurd (cc)

no : false ≡ true → ⊥
no e = absurd (cc)

pub null_is : (v : Value) → is_null v ≡ true → v ≡ Null
null_is Null h = refl
null_is _ h = absurd (cc)

-- a row has no more values than the table has columns
pub not_longer : (key : Option ℕ) (at : ℕ) (columns : List Column) (row : Row) → are_typed key at columns row ≡ true
    → length row ≤ length columns
not_longer key at [] [] typed = omega arith
not_longer key at [] (v ∷ row) typed = absurd (no typed)
not_longer key at (c ∷ columns) [] typed = omega arith
not_longer key at (c ∷ columns) (v ∷ row) typed = let more =
    not_longer key (at + 1) columns row
    (right_true (if is_key key at then is_null v else suits c v) (are_typed key (at + 1) columns row) typed) in
    omega (arith, more)

-- NULL behind the number
abbrev pub with_null : Row → Row
with_null [] = []
with_null (v ∷ row) = v ∷ Null ∷ row

-- ---- what the schema says of a table's rows

module _ (layout : Layout) (db : Database) (schema : db.schema ≡ schema_of layout) (sound : IsDatabase db) (at : ℕ)
    (table : Table) (is_at : slice_get (schema_of layout).tables at ≡ Some table) where
  pub obeyed : (rule : Constraint)
      → AllByRecursion (λ row. passes rule (schema_of layout) db.trees table row ≡ true) (db.trees table.tree)
  obeyed rule =
      let it : IsSound (schema_of layout) db.trees = subst (λ s. IsSound s db.trees) schema sound in
      all-slice_get
      (λ t. AllByRecursion (λ row. passes rule (schema_of layout) db.trees t row ≡ true) (db.trees t.tree))
      (schema_of layout).tables at table is_at (it.obeys.rules rule)

  pub typed_at : AllByRecursion (λ row. are_typed table.key 0 table.columns (drop 1 row) ≡ true) (db.trees table.tree)
  typed_at =
      all_weaker (λ row. passes Datatype (schema_of layout) db.trees table row ≡ true)
      (λ row. are_typed table.key 0 table.columns (drop 1 row) ≡ true) (λ row is. left_true _ _ is)
      (db.trees table.tree) (obeyed Datatype)

-- ---- what a query in a range of numbers meets

module _ (r : Reading) (layout : Layout) (tree : ℕ) (columns : Row → Row) where
  abbrev pub Meets : Type 1
  Meets =
      (f l : ℕ) (old new : State) (rows : List Row) → old.now.schema ≡ schema_of layout
      → Shown (reading_text r) (whole f ∷ whole l ∷ []) old new rows
      → IsPermutation (map columns (filter (is_between f l) (old.now.trees tree))) rows

  -- it shows them as they lie
  abbrev pub Orders : Type 1
  Orders =
      (f l : ℕ) (old new : State) (rows : List Row) → old.now.schema ≡ schema_of layout
      → Shown (reading_text r) (whole f ∷ whole l ∷ []) old new rows
      → IsTree (old.now.trees tree) → rows ≡ map columns (filter (is_between f l) (old.now.trees tree))

  module _ (project : List Term) (is : reading_query r layout ≡ ordered_by 0 tree (within 0) project)
      (seen : (trees : Trees) → overlay trees [] tree ≡ trees tree)
      (shows : (params row : Row) → eval_all project (params ∷ row ∷ []) ≡ columns row) where
    pub range_met : Meets
    range_met f l old new rows schema h =
        let params = whole f ∷ whole l ∷ [] in
        selected_in_order params (λ (r : Row). r) (is_between f l) (within 0) (λ r. test_between (column r 0) f l) 0
        tree
        project columns (shows params) (overlay old.now.trees []) (old.now.trees tree) rows
        (seen old.now.trees ∙ map_same _) (answers_as r layout params old new rows schema h _ is)

    pub range_in_order : Orders
    range_in_order f l old new rows schema h lies =
        let params = whole f ∷ whole l ∷ [] in
        in_tree_order params (is_between f l) (within 0) (λ r. test_between (column r 0) f l) tree project columns
        (shows params) (overlay old.now.trees []) (old.now.trees tree) rows (seen old.now.trees ∙ map_same _) lies.0
        (answers_as r layout params old new rows schema h _ is)

-- the rows outside
module _ (r : Reading) (layout : Layout) (tree f l : ℕ) (is : reading_query r layout ≡ outside tree f l)
    (seen : (trees : Trees) → overlay trees [] tree ≡ trees tree) (old new : State) (rows : List Row)
    (schema : old.now.schema ≡ schema_of layout) (h : Shown (reading_text r) [] old new rows) where
  answer : IsAnswer (outside tree f l) (overlay old.now.trees []) [] rows
  answer = answers_as r layout [] old new rows schema h _ is

  has : overlay old.now.trees [] tree ≡ map (λ (row : Row). row) (old.now.trees tree)
  has = seen old.now.trees ∙ map_same _

  pub outside_none : rows ≡ [] → filter (λ row. is_outside f l (column row 0)) (old.now.trees tree) ≡ []
  outside_none = none_outside tree f l (overlay old.now.trees []) (old.now.trees tree) rows has answer

  pub outside_told : (number : ℤ) → AreLedBy number rows
      → HasRowOutside (λ row. is_between f l row ≡ true) 0 number (old.now.trees tree)
  outside_told = number_told tree f l (overlay old.now.trees []) (old.now.trees tree) rows has answer

-- ---- sessions

abbrev pub IsSessionTyped : Row → Type 0
IsSessionTyped row = are_typed (Some 0) 0 (session_table 3).columns (drop 1 row) ≡ true

-- the rows that an open connection has
pub sessions_typed : (layout : Layout) (db : Database) → db.schema ≡ schema_of layout → IsDatabase db
    → AllByRecursion IsSessionTyped (db.trees session_tree)
sessions_typed layout db schema sound = typed_at layout db schema sound 2 (session_table 3) refl

pub session_is : (row : Row) (s : SessionRow) → IsSessionTyped row → BeginsWith (session_shown s) (session_columns row)
    → row ≡ session_row s
session_is (a ∷ k ∷ b ∷ c ∷ d ∷ e ∷ f ∷ g ∷ h ∷ []) s typed is =
    ap (λ v. a ∷ v ∷ b ∷ c ∷ d ∷ e ∷ f ∷ g ∷ h ∷ []) (null_is k (left_true _ _ typed)) ∙ ap with_null is
session_is (a ∷ k ∷ b ∷ c ∷ d ∷ e ∷ f ∷ g ∷ h ∷ i ∷ row) s typed is =
    let few = not_longer (Some 0) 0 (session_table 3).columns (k ∷ b ∷ c ∷ d ∷ e ∷ f ∷ g ∷ h ∷ i ∷ row) typed in
    absurd (omega (arith, few))
session_is _ s typed is = absurd (cc)

pub sessions_met : (layout : Layout) → Meets SessionRange layout session_tree session_columns
sessions_met layout =
    range_met SessionRange layout session_tree session_columns session_terms refl (λ trees. refl) (λ params row. refl)

pub sessions_in_order : (layout : Layout) → Orders SessionRange layout session_tree session_columns
sessions_in_order layout =
    range_in_order SessionRange layout session_tree session_columns session_terms refl (λ trees. refl)
    (λ params row. refl)

-- ---- accounts

-- it has a value for each column
abbrev pub IsAccountTyped : Row → Type 0
IsAccountTyped row = (are_typed (Some 0) 0 (account_table 2).columns (drop 1 row) ≡ true) × (length row ≡ 5)

pub accounts_typed : (layout : Layout) (db : Database) → db.schema ≡ schema_of layout → IsDatabase db
    → AreFull 5 (db.trees account_tree) → AllByRecursion IsAccountTyped (db.trees account_tree)
accounts_typed layout db schema sound full =
    all_both (λ row. are_typed (Some 0) 0 (account_table 2).columns (drop 1 row) ≡ true) (λ row. length row ≡ 5)
    IsAccountTyped (λ row is many. (is, many)) (db.trees account_tree)
    (typed_at layout db schema sound 1 (account_table 2) refl) full

pub account_is : (row : Row) (a : AccountRow) → IsAccountTyped row → BeginsWith (account_shown a) (account_columns row)
    → row ≡ account_row a
account_is (r ∷ k ∷ b ∷ c ∷ d ∷ []) a typed is =
    ap (λ v. r ∷ v ∷ b ∷ c ∷ d ∷ []) (null_is k (left_true _ _ typed.0)) ∙ ap with_null is
account_is _ a typed is = absurd (let n = typed.1 in omega (arith, n))

pub accounts_met : (layout : Layout) → Meets AccountRange layout account_tree account_columns
accounts_met layout =
    range_met AccountRange layout account_tree account_columns account_terms refl (λ trees. refl) (λ params row. refl)

pub accounts_in_order : (layout : Layout) → Orders AccountRange layout account_tree account_columns
accounts_in_order layout =
    range_in_order AccountRange layout account_tree account_columns account_terms refl (λ trees. refl)
    (λ params row. refl)

-- ---- requests

-- it has a value for each column
abbrev pub IsRequestTyped : Row → Type 0
IsRequestTyped row = (are_typed (Some 0) 0 (request_table 7).columns (drop 1 row) ≡ true) × (length row ≡ 7)

pub requests_typed : (layout : Layout) (db : Database) → db.schema ≡ schema_of layout → IsDatabase db
    → AreFull 7 (db.trees request_tree) → AllByRecursion IsRequestTyped (db.trees request_tree)
requests_typed layout db schema sound full =
    all_both (λ row. are_typed (Some 0) 0 (request_table 7).columns (drop 1 row) ≡ true) (λ row. length row ≡ 7)
    IsRequestTyped (λ row is many. (is, many)) (db.trees request_tree)
    (typed_at layout db schema sound 5 (request_table 7) refl) full

pub request_is : (row : Row) (r : RequestRow) → IsRequestTyped row → BeginsWith (request_shown r) (request_columns row)
    → row ≡ request_row r
request_is (a ∷ k ∷ b ∷ c ∷ d ∷ e ∷ f ∷ []) r typed is =
    ap (λ v. a ∷ v ∷ b ∷ c ∷ d ∷ e ∷ f ∷ []) (null_is k (left_true _ _ typed.0)) ∙ ap with_null is
request_is _ r typed is = absurd (let n = typed.1 in omega (arith, n))

pub requests_met : (layout : Layout) → Meets RequestRange layout request_tree request_columns
requests_met layout =
    range_met RequestRange layout request_tree request_columns request_terms refl (λ trees. refl) (λ params row. refl)

pub requests_in_order : (layout : Layout) → Orders RequestRange layout request_tree request_columns
requests_in_order layout =
    range_in_order RequestRange layout request_tree request_columns request_terms refl (λ trees. refl)
    (λ params row. refl)
