-- Objects of a kind in ranges of numbers.
use Rattle.std.proofs.Common.{◌≡◌, ◌<◌, ◌≤◌, ◌^◌, ℕ, ℤ, pos, List, [], ◌∷◌, ◌++◌, map, length, Bool, true, false}
use Rattle.std.proofs.Common.{Option, Some, None, Result, IfOk, IfErr, IsOk, IsTrue, refl, ap, ap₂, subst}
use Rattle.std.proofs.Common.{◌∙◌, arith}
use Rattle.std.specs.Prelude.{◌&&◌, ◌||◌, ◌==◌}
use Rattle.sqlite.specs.Ops.{binary}
use Rattle.acvp_store.proofs.Words.{all-append, all-map, all-permutation, all_both, AllByRecursion, all_from_map}
use Rattle.acvp_store.proofs.Words.{all_weaker, AreLedBy, AreObjectRanges, are_present, AreShown, are_typed}
use Rattle.acvp_store.proofs.Words.{body_json, column, columns_of_object, Database, drop, Entry, entry_row, filter}
use Rattle.acvp_store.proofs.Words.{filter_all, first_number, FitsObject, from_truth, HasRowOutside, HasStray}
use Rattle.acvp_store.proofs.Words.{HasStrayRow, holds, HoldsEntries, HoldsObjects, IsAnswer, IsDatabase, is_eq}
use Rattle.acvp_store.proofs.Words.{is_equal, is_ge, is_int, IsKeepable, is_le, is_null, IsObject, is_object_between}
use Rattle.acvp_store.proofs.Words.{IsObjectRow, IsOkAnd, IsPermutation, IsReadObject, IsRegisteredWithin, IsTree}
use Rattle.acvp_store.proofs.Words.{is_true, IsUtf8, joined, KeepsObjects, last_number, Layout, list_all, nat_tests}
use Rattle.acvp_store.proofs.Words.{not, NotNull, object_columns, ObjectRow, object_table, object_text, object_tree}
use Rattle.acvp_store.proofs.Words.{op2, Or, or3, overlay, passes, RangeFault, Row, schema_of, Shown, State, Stray}
use Rattle.acvp_store.proofs.Words.{Term, truth, unwrap_or, Value, value_cmp, value_cmp-Int, whole}
use Rattle.acvp_store.proofs.ColumnNumbers.{is_whole, number_within, not_outside, all_fail, column_test}
use Rattle.acvp_store.proofs.EntryRanges.{shown_exactly, entries_hold, each_entry, both_hold, entries_joined}
use Rattle.acvp_store.proofs.EntryRanges.{entries_tree, joined_all, IsNumbered, IsParted}
use Rattle.acvp_store.proofs.QueryForms.{equals, first_where, not_between, within as within_terms}
use Rattle.acvp_store.proofs.Readings.{ObjectOutside, ObjectRange, answers, object_terms, reading_text}
use Rattle.acvp_store.proofs.QueryRows.{all_known, selected_in_order}
use Rattle.acvp_store.proofs.RangeColumns.{left_true, not_longer, obeyed, typed_at}
use Rattle.acvp_store.proofs.RangeOutside.{is_outside, none_passing, first_told, only_true, test_outside}
use Rattle.acvp_store.proofs.RangeRows.{test_between, right_true, all_passed, within_last}
use Rattle.acvp_store.proofs.RangeStrays.{stray_of}
use Rattle.acvp_store.proofs.RequestRanges.{text_of_json}
use Rattle.acvp_store.proofs.Told.{told}
use Rattle.acvp_store.proofs.Versions.{map_same, test_whole}

-- ---- what the query meets

module _ (layout : Layout) (kind f l : ℕ) (old new : State) (rows : List Row)
    (schema : old.now.schema ≡ schema_of layout)
    (h : Shown (reading_text ObjectRange) (whole f ∷ whole l ∷ whole kind ∷ []) old new rows) where
  abbrev params : Row
  params = whole f ∷ whole l ∷ whole kind ∷ []

  pub objects_met : IsPermutation
      (map columns_of_object (filter (is_object_between kind f l) (old.now.trees object_tree))) rows
  objects_met =
      selected_in_order params (λ (r : Row). r) (is_object_between kind f l) (equals 1 2 ∷ within_terms 2)
      (λ r. ap₂ (λ a b. a && b) (test_whole (column r 1) kind) (test_between (column r 2) f l)) 2 object_tree
      object_terms columns_of_object (λ r. refl) (overlay old.now.trees []) (old.now.trees object_tree) rows
      (map_same _)
      (answers ObjectRange layout params old new rows schema h)

-- ---- what the schema says of a row

abbrev pub IsObjectTyped : Row → Type 0
IsObjectTyped row = (are_typed None 0 (object_table 5).columns (drop 1 row) ≡ true)
    × (are_present None 0 (object_table 5).columns row ≡ true)

pub objects_typed : (layout : Layout) (db : Database) → db.schema ≡ schema_of layout → IsDatabase db
    → AllByRecursion IsObjectTyped (db.trees object_tree)
objects_typed layout db schema sound =
    all_both (λ row. are_typed None 0 (object_table 5).columns (drop 1 row) ≡ true)
    (λ row. passes NotNull (schema_of layout) db.trees (object_table 5) row ≡ true) IsObjectTyped
    (λ row is there. (is, there)) (db.trees object_tree) (typed_at layout db schema sound 4 (object_table 5) refl)
    (obeyed layout db schema sound 4 (object_table 5) refl NotNull)

object_is : (row : Row) (o : ObjectRow) → IsObjectTyped row → columns_of_object row ≡ object_columns o
    → row ≡ column row 0 ∷ object_columns o
object_is (a ∷ b ∷ c ∷ d ∷ e ∷ []) o typed is = ap (λ cs. a ∷ cs) is
object_is (a ∷ b ∷ c ∷ d ∷ e ∷ g ∷ row) o typed is =
    absurd (let few = not_longer None 0 (object_table 5).columns (b ∷ c ∷ d ∷ e ∷ g ∷ row) typed.0 in
    omega (arith, few))
object_is _ o typed is = absurd (cc)

-- ---- the rows of a range stand for what is read of them

all_four : (rows : List Row) → AllByRecursion (λ r. length r ≡ 4) (map columns_of_object rows)
all_four [] = tt
all_four (r ∷ rows) = (refl, all_four rows)

module _ (kind f l : ℕ) (low : l < 2 ^ 63) where
  abbrev p : Row → Bool
  p = is_object_between kind f l

  -- the number of a member of such a row fits
  fits : (e : Entry ObjectRow) → p (entry_row object_columns e) ≡ true → e.row.number < 2 ^ 63
  fits e is =
      let between : (is_ge (value_cmp (whole e.row.number) (whole f)) && is_le
      (value_cmp (whole e.row.number) (whole l))) ≡ true = right_true _ _ is in
      let at_most : is_le (value_cmp (whole e.row.number) (whole l)) ≡ true =
      right_true (is_ge (value_cmp (whole e.row.number) (whole f)))
      (is_le (value_cmp (whole e.row.number) (whole l))) between in
      let most : e.row.number ≤ l = within_last e.row.number l at_most in
      omega (arith, most, low)

  pub objects_hold : (Good : ObjectRow → Type 0) (table rows : List Row) (found : List ObjectRow) → IsTree table
      → AllByRecursion IsObjectTyped table → IsPermutation (map columns_of_object (filter p table)) rows
      → AreShown Good object_columns rows found
      → AllByRecursion (λ o. body_json (object_text o.object) ≡ Some o.object.value) found
      → KeepsObjects (filter p table) found
  objects_hold Good table rows found tree typed same shows reads =
      let full = all-permutation (λ (r : Row). length r ≡ 4) _ rows same (all_four (filter p table)) in
      let kept = entries_hold object_columns columns_of_object IsObjectTyped object_is p table rows found tree typed
      same (shown_exactly object_columns 4 (λ o. refl) Good rows found full shows) in
      let passed = all_from_map (λ row. p row ≡ true) (entry_row object_columns) kept.entries
      (subst (AllByRecursion (λ row. p row ≡ true)) kept.rows_are (all_passed p table)) in
      let members = all-map (λ (o : ObjectRow). o.number < 2 ^ 63) (λ (e : Entry ObjectRow). e.row) kept.entries
      (all_weaker (λ (e : Entry ObjectRow). p (entry_row object_columns e) ≡ true)
      (λ (e : Entry ObjectRow). e.row.number < 2 ^ 63) fits kept.entries passed) in
      let numbers = all-permutation (λ (o : ObjectRow). o.number < 2 ^ 63) _ found kept.same members in
      record {
        kept = kept;
        numbers = all_both (λ (o : ObjectRow). o.number < 2 ^ 63)
            (λ o. body_json (object_text o.object) ≡ Some o.object.value) IsKeepable
            (λ o a b. (a, b)) found numbers reads;
      }

-- ---- what is told

abbrev IsJudgedObject : ObjectRow → Type 0
IsJudgedObject o = (o.account < 2 ^ 16) × IsReadObject o.object

pub rows_told : {X B E F : Type 0} (kind f l : ℕ) (low : l < 2 ^ 63) (table : List Row) (outcome : Result X E)
    (rows_in : X → List Row) (found : Result B F) (items : B → List ObjectRow) → (IsOk found → IsOk outcome)
    → IfOk found (λ b. IfOk outcome (λ x. AreShown IsJudgedObject object_columns (rows_in x) (items b)))
    → AllByRecursion IsObjectTyped table
    → IfOk outcome (λ x. IsPermutation (map columns_of_object (filter (is_object_between kind f l) table))
    (rows_in x)) → IfOk found (λ b. IsTree table
    → KeepsObjects (filter (is_object_between kind f l) table) (items b))
rows_told kind f l low table outcome rows_in found items ok shows typed =
    told outcome found ok _ _ _
    (λ x b shows same tree. objects_hold kind f l low IsJudgedObject table (rows_in x) (items b) tree typed same shows
    (all_weaker IsJudgedObject (λ o. body_json (object_text o.object) ≡ Some o.object.value) (λ o is. is.1.1) (items b)
    (all_known object_columns IsJudgedObject (rows_in x) (items b) shows))) shows

-- what is asked of an object that is kept
abbrev IsHad : ObjectRow → Type 0
IsHad o = FitsObject o × IsKeepable o

abbrev IsMember : ObjectRow → Type 0
IsMember o = IsKeepable o × ((o.account < 2 ^ 16) × IsObject o.object × IsUtf8 (object_text o.object))

had : (o : ObjectRow) → IsHad o → IsMember o
had o h = (h.1, (h.0.0, (h.0.1, h.0.2), text_of_json _ _ h.1.1))

-- each row of a table that keeps objects is that of one
each : (table : List Row) (list : List ObjectRow) → AllByRecursion FitsObject list → KeepsObjects table list
    → AllByRecursion (λ row. (o : ObjectRow) × FitsObject o × IsObjectRow row o) table
each table list fits holds =
    all_weaker (λ row. (o : ObjectRow) × IsHad o
    × ((id : ℤ) × (row ≡ entry_row object_columns (record { id = id; row = o }))))
    (λ row. (o : ObjectRow) × FitsObject o × IsObjectRow row o) (λ row is. (is.0, is.1.0, (is.2, is.1.1))) table
    (each_entry object_columns IsHad table list
    (all_both FitsObject IsKeepable IsHad (λ o a b. (a, b)) list fits holds.numbers) holds.kept)

shows : (row : Row) (o : ObjectRow) → FitsObject o → IsObjectRow row o → (x : ObjectRow) × IsMember x
    × (columns_of_object row ≡ object_columns x)
shows row o fits is = (o, had o (fits, is.1), ap columns_of_object is.0.1)

pub stray_told : {X B E : Type 0} (kind f l : ℕ) (table : List Row) (outcome : Result X E) (rows_in : X → List Row)
    (found : Result B RangeFault)
    → IfErr found (λ fault. (number : ℤ) → fault ≡ Stray number
    → IsOkAnd outcome (λ x. HasStray IsMember object_columns 1 number (rows_in x)))
    → IfOk outcome (λ x. IsPermutation (map columns_of_object (filter (is_object_between kind f l) table))
    (rows_in x))
    → IfErr found (λ fault. (number : ℤ) → fault ≡ Stray number
    → HasStrayRow KeepsObjects IsObjectRow FitsObject (is_object_between kind f l) 2 number table)
stray_told kind f l =
    stray_of KeepsObjects IsObjectRow FitsObject each IsMember object_columns columns_of_object 1 2 (λ r. refl) shows
    (is_object_between kind f l)

-- ---- rows outside

-- the columns of a kind and of a number are whole numbers
are_whole : (row : Row) → IsObjectTyped row → IsTrue (is_int (column row 1)) × IsTrue (is_int (column row 2))
are_whole (a ∷ b ∷ []) typed = absurd (let no : false ≡ true = right_true (not (is_null b)) false typed.1 in cc)
are_whole (a ∷ b ∷ c ∷ row) typed = (
  is_whole b (left_true _ _ typed.0) (left_true _ _ typed.1),
  is_whole c (left_true _ _ (right_true _ _ typed.0)) (left_true _ _ (right_true _ _ typed.1)),
)
are_whole _ typed = absurd (let no = typed.1 in cc)

abbrev pub is_elsewhere : Row → Bool
is_elsewhere row = is_outside 1 3 (column row 1) || is_outside 1000000 9999999999 (column row 2)

of_either : (a b : Option Bool) → is_true (from_truth (or3 a b)) ≡ (unwrap_or a false || unwrap_or b false)
of_either None (Some true) = refl
of_either (Some true) (Some true) = refl
of_either (Some false) (Some true) = refl
of_either _ _ = refl

either_true : (a b : Value) → is_true (binary Or a b) ≡ (is_true a || is_true b)
unfolding binary
either_true a b = of_either (truth a) (truth b)

abbrev elsewhere : Term
elsewhere = op2 Or (not_between 1 1 3) (not_between 2 1000000 9999999999)

test_elsewhere : (r : Row) → list_all (holds ([] ∷ r ∷ [])) (elsewhere ∷ []) ≡ is_elsewhere r
test_elsewhere r = only_true _ ∙ either_true _ _
    ∙ ap₂ (λ a b. a || b) (test_outside (column r 1) 1 3) (test_outside (column r 2) 1000000 9999999999)

abbrev pub Within : Row → Type 0
Within = IsRegisteredWithin 9999

not_elsewhere : (row : Row) → Within row → is_elsewhere row ≡ false
not_elsewhere row is = ap₂ (λ a b. a || b) (not_outside 1 1 3 row is.0)
    (not_outside 2 (first_number 1) (last_number 9999) row is.1)

module _ (layout : Layout) (old new : State) (rows : List Row) (schema : old.now.schema ≡ schema_of layout)
    (h : Shown (reading_text ObjectOutside) [] old new rows) where
  outside_answer : IsAnswer (first_where object_tree 2 elsewhere) (overlay old.now.trees []) [] rows
  outside_answer = answers ObjectOutside layout [] old new rows schema h

  pub objects_outside : rows ≡ [] → filter is_elsewhere (old.now.trees object_tree) ≡ []
  objects_outside = none_passing object_tree 2 elsewhere is_elsewhere test_elsewhere (overlay old.now.trees [])
      (old.now.trees object_tree) rows (map_same _) outside_answer

  pub object_told : (number : ℤ) → AreLedBy number rows → HasRowOutside Within 2 number (old.now.trees object_tree)
  object_told = first_told object_tree 2 elsewhere is_elsewhere test_elsewhere (overlay old.now.trees [])
      (old.now.trees object_tree) rows (map_same _) outside_answer Within not_elsewhere

left_false : (a b : Bool) → (a || b) ≡ false → a ≡ false
left_false false b h = refl
left_false true b h = absurd (cc)

right_false : (a b : Bool) → (a || b) ≡ false → b ≡ false
right_false false b h = h
right_false true b h = absurd (cc)

pub all_within : (table : List Row) → AllByRecursion IsObjectTyped table → filter is_elsewhere table ≡ []
    → AllByRecursion Within table
all_within table typed none =
    all_both IsObjectTyped (λ row. is_elsewhere row ≡ false) Within
    (λ row is inside. (
      number_within 1 3 (column row 1) (are_whole row is).0 (left_false _ _ inside),
      number_within (first_number 1) (last_number 9999) (column row 2) (are_whole row is).1 (right_false _ _ inside),
    ))
    table typed (all_fail is_elsewhere table none)

-- ---- kinds and ranges, joined

same_kind : (m k : ℕ) → is_equal (whole m) (whole k) ≡ (m == k)
same_kind m k = ap is_eq (value_cmp-Int (pos m) (pos k)) ∙ grind (arith, nat_tests)

abbrev of_kind : ℕ → ℕ → Row → Bool
of_kind n k = is_object_between k (first_number 1) (last_number n)

numbered : (n k : ℕ) (row : Row) → IsRegisteredWithin n row → IsNumbered object_columns (is_object_between k) row
numbered n k row is = (
  is_equal (column row 1) (whole k),
  is.1.0,
  λ f l. ap (λ b. is_equal (column row 1) (whole k) && b) (column_test 2 row is.1.0 is.1.1 f l),
)

kind_test : (n k : ℕ) (row : Row) (is : IsRegisteredWithin n row) → of_kind n k row ≡ (is.0.0 == k)
kind_test n k row is =
    ap₂ (λ a b. a && b) (ap (λ v. is_equal v (whole k)) is.0.1 ∙ same_kind is.0.0 k)
    (column_test 2 row is.1.0 is.1.1 (first_number 1) (last_number n) ∙ is.1.2) ∙ only_true _

abbrev of_two : ℕ → Row → Bool
of_two n row = of_kind n 1 row || of_kind n 2 row

abbrev of_three : ℕ → Row → Bool
of_three n row = of_two n row || of_kind n 3 row

two_parted : (n : ℕ) (row : Row) → IsRegisteredWithin n row
    → IsParted object_columns (of_two n) (of_kind n 1) (of_kind n 2) row
two_parted n row is = (
  refl,
  ap₂ (λ a b. a && b) (kind_test n 1 row is) (kind_test n 2 row is)
      ∙ grind (arith, nat_tests),
)

three_parted : (n : ℕ) (row : Row) → IsRegisteredWithin n row
    → IsParted object_columns (of_three n) (of_two n) (of_kind n 3) row
three_parted n row is = (
  refl,
  ap₂ (λ a b. a && b) (ap₂ (λ a b. a || b) (kind_test n 1 row is) (kind_test n 2 row is))
      (kind_test n 3 row is) ∙ grind (arith, nat_tests),
)

passes_three : (n : ℕ) (row : Row) → IsRegisteredWithin n row → of_three n row ≡ true
passes_three n row is =
    let among = is.0.2 in
    ap₂ (λ a b. a || b) (ap₂ (λ a b. a || b) (kind_test n 1 row is) (kind_test n 2 row is)) (kind_test n 3 row is)
    ∙ grind (arith, nat_tests, among)

module _ (rows : List Row) (lists : ℕ → ℕ → List ObjectRow) (n : ℕ) (tree : IsTree rows)
    (ranges : AreObjectRanges rows lists n) (within : AllByRecursion (IsRegisteredWithin n) rows) where
  one_kind : (k : ℕ) → 0 < k → k ≤ 3 → HoldsEntries object_columns (filter (of_kind n k) rows) (joined (lists k) n)
  one_kind k some few =
      entries_joined object_columns (is_object_between k) rows (lists k) n tree
      (all_weaker (IsRegisteredWithin n) (IsNumbered object_columns (is_object_between k))
      (numbered n k) rows within) (λ u some_u low. (ranges k some few u some_u low).kept)

  all_fit : (k : ℕ) → 0 < k → k ≤ 3 → AllByRecursion IsKeepable (joined (lists k) n)
  all_fit k some few = joined_all IsKeepable (lists k) n (λ u some_u low. (ranges k some few u some_u low).numbers)

  two_kinds : HoldsEntries object_columns (filter (of_two n) rows) (joined (lists 1) n ++ joined (lists 2) n)
  two_kinds =
      both_hold object_columns (of_two n) (of_kind n 1) (of_kind n 2) rows _ _ tree
      (all_weaker (IsRegisteredWithin n) (IsParted object_columns (of_two n) (of_kind n 1) (of_kind n 2))
      (two_parted n) rows within) (one_kind 1 (omega arith) (omega arith)) (one_kind 2 (omega arith) (omega arith))

  three_kinds : HoldsEntries object_columns (filter (of_three n) rows)
      ((joined (lists 1) n ++ joined (lists 2) n) ++ joined (lists 3) n)
  three_kinds =
      both_hold object_columns (of_three n) (of_two n) (of_kind n 3) rows _ _ tree
      (all_weaker (IsRegisteredWithin n) (IsParted object_columns (of_three n) (of_two n) (of_kind n 3))
      (three_parted n) rows within) two_kinds (one_kind 3 (omega arith) (omega arith))

pub objects_joined : (rows : List Row) (lists : ℕ → ℕ → List ObjectRow) (n : ℕ) → IsTree rows
    → AreObjectRanges rows lists n → AllByRecursion (IsRegisteredWithin n) rows
    → KeepsObjects rows ((joined (lists 1) n ++ joined (lists 2) n) ++ joined (lists 3) n)
objects_joined rows lists n tree ranges within =
    let passes = all_weaker (IsRegisteredWithin n) (λ row. of_three n row ≡ true) (passes_three n) rows within in
    record {
      kept = subst (λ rs. HoldsEntries object_columns rs
          ((joined (lists 1) n ++ joined (lists 2) n) ++ joined (lists 3) n)) (filter_all (of_three n) rows passes)
          (three_kinds rows lists n tree ranges within);
      numbers = all-append IsKeepable (joined (lists 1) n ++ joined (lists 2) n) (joined (lists 3) n)
          (all-append IsKeepable (joined (lists 1) n) (joined (lists 2) n)
          (all_fit rows lists n tree ranges within 1 (omega arith) (omega arith))
          (all_fit rows lists n tree ranges within 2 (omega arith) (omega arith)))
          (all_fit rows lists n tree ranges within 3 (omega arith) (omega arith));
    }

pub objects_tree : (rows : List Row) (objects : List ObjectRow) → HoldsObjects rows objects → IsTree rows
objects_tree = entries_tree object_columns
