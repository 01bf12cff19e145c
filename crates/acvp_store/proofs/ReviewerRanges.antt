-- Reviewers by ranges of their sessions' numbers.
use Rattle.std.proofs.Common.{◌≡◌, ◌<◌, ◌≤◌, ◌^◌, ℕ, ℤ, List, [], ◌∷◌, map, length, Bool, true, false, None, Result}
use Rattle.std.proofs.Common.{IfOk, IsOk, IsTrue, refl, ap, subst, ◌∙◌, arith}
use Rattle.acvp_store.proofs.Words.{all-map, all-permutation, all_both, all_from_map, all_weaker, AllByRecursion}
use Rattle.acvp_store.proofs.Words.{are_present, are_typed, AreLedBy, AreReviewerRanges, AreShown, column}
use Rattle.acvp_store.proofs.Words.{columns_of_reviewer, Database, drop, Entry, entry_row, filter, filter_all}
use Rattle.acvp_store.proofs.Words.{first_number, FitsReviewer, HasNumberBetween, HasRowOutside, HoldsEntries}
use Rattle.acvp_store.proofs.Words.{HoldsReviewers, is_column_between, is_ge, is_int, is_le, IsAnswer, IsDatabase}
use Rattle.acvp_store.proofs.Words.{IsPermutation, IsReviewerRow, IsTree, joined, last_number, Layout, NotNull, overlay}
use Rattle.acvp_store.proofs.Words.{passes, reviewer_columns, reviewer_table, reviewer_tree, ReviewerRow, Row}
use Rattle.acvp_store.proofs.Words.{schema_of, Shown, State, value_cmp, whole, ⊤}
use Rattle.acvp_store.proofs.ColumnNumbers.{is_whole, number_within, not_outside, all_fail, column_test}
use Rattle.acvp_store.proofs.EntryRanges.{shown_exactly, entries_hold, each_entry, entries_joined, entries_tree}
use Rattle.acvp_store.proofs.EntryRanges.{joined_all, IsNumbered}
use Rattle.acvp_store.proofs.QueryForms.{first_where, not_between, within}
use Rattle.acvp_store.proofs.Readings.{ReviewerOutside, ReviewerRange, answers, reading_text, reviewer_terms}
use Rattle.acvp_store.proofs.Places.{reviewers_at, reviewers_seen}
use Rattle.acvp_store.proofs.QueryRows.{selected_in_order}
use Rattle.acvp_store.proofs.RangeColumns.{left_true, not_longer, obeyed, typed_at}
use Rattle.acvp_store.proofs.RangeOutside.{is_outside, none_passing, first_told, test_column}
use Rattle.acvp_store.proofs.RangeRows.{test_between, right_true, all_passed, within_last}
use Rattle.acvp_store.proofs.Versions.{map_same}
use Rattle.acvp_store.proofs.Writings.{reviewer_place}
use Rattle.acvp_store.proofs.Told.{told}

-- ---- what the schema says of a row

abbrev pub IsReviewerTyped : Row → Type 0
IsReviewerTyped row = (are_typed None 0 (reviewer_table 8).columns (drop 1 row) ≡ true)
    × (are_present None 0 (reviewer_table 8).columns row ≡ true)

pub reviewers_typed : (layout : Layout) (db : Database) → db.schema ≡ schema_of layout → IsDatabase db
    → AllByRecursion IsReviewerTyped (db.trees (reviewer_tree layout))
reviewers_typed layout db schema sound =
    let tree = reviewer_tree layout in
    all_both (λ row. are_typed None 0 (reviewer_table tree).columns (drop 1 row) ≡ true)
    (λ row. passes NotNull (schema_of layout) db.trees (reviewer_table tree) row ≡ true) IsReviewerTyped
    (λ row is there. (is, there)) (db.trees tree)
    (typed_at layout db schema sound (reviewer_place layout) (reviewer_table tree) (reviewers_at layout))
    (obeyed layout db schema sound (reviewer_place layout) (reviewer_table tree) (reviewers_at layout) NotNull)

pub reviewer_is : (row : Row) (r : ReviewerRow) → IsReviewerTyped row → columns_of_reviewer row ≡ reviewer_columns r
    → row ≡ column row 0 ∷ reviewer_columns r
reviewer_is (a ∷ b ∷ c ∷ []) r typed is = ap (λ cs. a ∷ cs) is
reviewer_is (a ∷ b ∷ c ∷ d ∷ row) r typed is =
    absurd (let few = not_longer None 0 (reviewer_table 8).columns (b ∷ c ∷ d ∷ row) typed.0 in omega (arith, few))
reviewer_is _ r typed is = absurd (cc)

session_is_whole : (row : Row) → IsReviewerTyped row → IsTrue (is_int (column row 1))
session_is_whole (a ∷ b ∷ row) typed = is_whole b (left_true _ _ typed.0) (left_true _ _ typed.1)
session_is_whole _ typed = absurd (let no = typed.1 in cc)

-- ---- what the queries meet

module _ (layout : Layout) (f l : ℕ) (old new : State) (rows : List Row) (schema : old.now.schema ≡ schema_of layout)
    (h : Shown (reading_text ReviewerRange) (whole f ∷ whole l ∷ []) old new rows) where
  abbrev params : Row
  params = whole f ∷ whole l ∷ []

  pub reviewers_met : IsPermutation
      (map columns_of_reviewer (filter (is_column_between 1 f l) (old.now.trees (reviewer_tree layout)))) rows
  reviewers_met =
      selected_in_order params (λ (r : Row). r) (is_column_between 1 f l) (within 1)
      (λ r. test_between (column r 1) f l) 1 (reviewer_tree layout) reviewer_terms columns_of_reviewer (λ r. refl)
      (overlay old.now.trees []) (old.now.trees (reviewer_tree layout)) rows
      (reviewers_seen layout old.now.trees ∙ map_same _)
      (answers ReviewerRange layout params old new rows schema h)

abbrev pub is_elsewhere : Row → Bool
is_elsewhere row = is_outside 1000000 9999999999 (column row 1)

abbrev pub Within : Row → Type 0
Within = HasNumberBetween 1 (first_number 1) (last_number 9999)

module _ (layout : Layout) (old new : State) (rows : List Row) (schema : old.now.schema ≡ schema_of layout)
    (h : Shown (reading_text ReviewerOutside) [] old new rows) where
  outside_answer : IsAnswer (first_where (reviewer_tree layout) 1 (not_between 1 1000000 9999999999))
      (overlay old.now.trees []) [] rows
  outside_answer = answers ReviewerOutside layout [] old new rows schema h

  pub reviewers_outside : rows ≡ [] → filter is_elsewhere (old.now.trees (reviewer_tree layout)) ≡ []
  reviewers_outside = none_passing (reviewer_tree layout) 1 (not_between 1 1000000 9999999999) is_elsewhere
      (test_column 1 1000000 9999999999) (overlay old.now.trees []) (old.now.trees (reviewer_tree layout)) rows
      (reviewers_seen layout old.now.trees ∙ map_same _) outside_answer

  pub reviewer_told : (number : ℤ) → AreLedBy number rows
      → HasRowOutside Within 1 number (old.now.trees (reviewer_tree layout))
  reviewer_told = first_told (reviewer_tree layout) 1 (not_between 1 1000000 9999999999) is_elsewhere
      (test_column 1 1000000 9999999999) (overlay old.now.trees []) (old.now.trees (reviewer_tree layout)) rows
      (reviewers_seen layout old.now.trees ∙ map_same _) outside_answer Within
      (not_outside 1 (first_number 1) (last_number 9999))

pub all_within : (table : List Row) → AllByRecursion IsReviewerTyped table → filter is_elsewhere table ≡ []
    → AllByRecursion Within table
all_within table typed none =
    all_both IsReviewerTyped (λ row. is_elsewhere row ≡ false) Within
    (λ row is inside. number_within (first_number 1) (last_number 9999) (column row 1) (session_is_whole row is) inside)
    table typed (all_fail is_elsewhere table none)

-- ---- the rows of a range stand for what is told

two : (rows : List Row) → AllByRecursion (λ r. length r ≡ 2) (map columns_of_reviewer rows)
two [] = tt
two (r ∷ rows) = (refl, two rows)

module _ (f l : ℕ) (low : l < 2 ^ 63) where
  abbrev p : Row → Bool
  p = is_column_between 1 f l

  fits : (e : Entry ReviewerRow) → p (entry_row reviewer_columns e) ≡ true → e.row.session < 2 ^ 63
  fits e is =
      let at_most : is_le (value_cmp (whole e.row.session) (whole l)) ≡ true =
      right_true (is_ge (value_cmp (whole e.row.session) (whole f)))
      (is_le (value_cmp (whole e.row.session) (whole l))) is in
      let most : e.row.session ≤ l = within_last e.row.session l at_most in
      omega (arith, most, low)

  pub reviewers_hold : (Good : ReviewerRow → Type 0) (table rows : List Row) (found : List ReviewerRow) → IsTree table
      → AllByRecursion IsReviewerTyped table → IsPermutation (map columns_of_reviewer (filter p table)) rows
      → AreShown Good reviewer_columns rows found → HoldsReviewers (filter p table) found
  reviewers_hold Good table rows found tree typed same shows =
      let full = all-permutation (λ (r : Row). length r ≡ 2) _ rows same (two (filter p table)) in
      let kept = entries_hold reviewer_columns columns_of_reviewer IsReviewerTyped reviewer_is p table rows found tree
      typed same (shown_exactly reviewer_columns 2 (λ r. refl) Good rows found full shows) in
      let passed = all_from_map (λ row. p row ≡ true) (entry_row reviewer_columns) kept.entries
      (subst (AllByRecursion (λ row. p row ≡ true)) kept.rows_are (all_passed p table)) in
      let members = all-map (λ (r : ReviewerRow). r.session < 2 ^ 63) (λ (e : Entry ReviewerRow). e.row) kept.entries
      (all_weaker (λ (e : Entry ReviewerRow). p (entry_row reviewer_columns e) ≡ true)
      (λ (e : Entry ReviewerRow). e.row.session < 2 ^ 63) fits kept.entries passed) in
      record { kept = kept; fits = all-permutation (λ (r : ReviewerRow). r.session < 2 ^ 63) _ found kept.same members }

  pub rows_told : {X B E F : Type 0} (Good : ReviewerRow → Type 0) (table : List Row) (outcome : Result X E)
      (rows_in : X → List Row) (result : Result B F) (items : B → List ReviewerRow) → (IsOk result → IsOk outcome)
      → IfOk result (λ b. IfOk outcome (λ x. AreShown Good reviewer_columns (rows_in x) (items b)))
      → AllByRecursion IsReviewerTyped table
      → IfOk outcome (λ x. IsPermutation (map columns_of_reviewer (filter p table)) (rows_in x))
      → IfOk result (λ b. IsTree table → HoldsReviewers (filter p table) (items b))
  rows_told Good table outcome rows_in result items ok shows typed =
      told outcome result ok _ _ _
      (λ x b shows rows tree. reviewers_hold Good table (rows_in x) (items b) tree typed rows shows) shows

-- ---- a row that is of no reviewer

abbrev IsHad : ReviewerRow → Type 0
IsHad r = FitsReviewer r × (r.session < 2 ^ 63)

pub each : (table : List Row) (list : List ReviewerRow) → AllByRecursion FitsReviewer list → HoldsReviewers table list
    → AllByRecursion (λ row. (r : ReviewerRow) × FitsReviewer r × IsReviewerRow row r) table
each table list fits holds =
    all_weaker (λ row. (r : ReviewerRow) × IsHad r
    × ((id : ℤ) × (row ≡ entry_row reviewer_columns (record { id = id; row = r }))))
    (λ row. (r : ReviewerRow) × FitsReviewer r × IsReviewerRow row r)
    (λ row is. (is.0, is.1.0, (is.2, is.1.1))) table
    (each_entry reviewer_columns IsHad table list
    (all_both FitsReviewer (λ r. r.session < 2 ^ 63) IsHad (λ r a b. (a, b)) list fits holds.fits) holds.kept)

pub shows : (row : Row) (r : ReviewerRow) → FitsReviewer r → IsReviewerRow row r → (t : ReviewerRow)
    × (⊤ × FitsReviewer t) × (columns_of_reviewer row ≡ reviewer_columns t)
shows row r fits is = (r, (tt, fits), ap columns_of_reviewer is.0.1)

-- ---- ranges, joined

numbered : (n : ℕ) (row : Row) → HasNumberBetween 1 (first_number 1) (last_number n) row
    → IsNumbered reviewer_columns (is_column_between 1) row
numbered n row is = (true, is.0, column_test 1 row is.0 is.1)

pub reviewers_joined : (rows : List Row) (lists : ℕ → List ReviewerRow) (n : ℕ) → IsTree rows
    → AreReviewerRanges rows lists n → AllByRecursion (HasNumberBetween 1 (first_number 1) (last_number n)) rows
    → HoldsReviewers rows (joined lists n)
reviewers_joined rows lists n tree ranges within =
    let test = is_column_between 1 in
    let passes = all_weaker (HasNumberBetween 1 (first_number 1) (last_number n))
    (λ row. test (first_number 1) (last_number n) row ≡ true)
    (λ row is. column_test 1 row is.0 is.1 (first_number 1) (last_number n) ∙ is.2) rows within in
    let kept = entries_joined reviewer_columns test rows lists n tree
    (all_weaker (HasNumberBetween 1 (first_number 1) (last_number n)) (IsNumbered reviewer_columns test)
    (numbered n) rows within) (λ u some low. (ranges u some low).kept) in
    record {
      kept = subst (λ rs. HoldsEntries reviewer_columns rs (joined lists n))
          (filter_all (test (first_number 1) (last_number n)) rows passes) kept;
      fits = joined_all (λ (r : ReviewerRow). r.session < 2 ^ 63) lists n (λ u some low. (ranges u some low).fits);
    }

pub reviewers_tree : (rows : List Row) (list : List ReviewerRow) → HoldsReviewers rows list → IsTree rows
reviewers_tree rows list holds = entries_tree reviewer_columns rows list holds.kept
