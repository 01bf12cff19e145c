-- The statements on reviewers.
use Rattle.acvp_store.proofs.QueryRows.{IsFitting, IsTooLarge}
use Rattle.std.proofs.Common.{inl, inr, ◌<◌, ◌≤◌, ◌^◌, ℤ, negsuc, ◌≡◌, ℕ, List, [], ◌∷◌, ◌++◌, map, length, Bool}
use Rattle.std.proofs.Common.{true, false, not, Option, None, Ok, Result, IfOk, IsOk, refl, sym, ap, subst, ◌∙◌, arith}
use Rattle.std.proofs.Common.{◌+◌, zero, suc}
use Rattle.std.specs.Prelude.{◌==◌, ◌&&◌, if◌then◌else◌}
use Rattle.sqlite_value.specs.Keys.{first_key}
use Rattle.acvp_tables.specs.Content.{account_numbers, reviewers_of}
use Rattle.acvp_store.proofs.Words.{⊤}
use Rattle.acvp_store.proofs.Words.{agree, all-append, all-filter, all-permutation, AllByRecursion, Alters, append-nil}
use Rattle.acvp_store.proofs.Words.{AreWellNumbered, ascending-filter, AtPlace, cases_Bool, cast_row, Chosen, clashes}
use Rattle.acvp_store.proofs.Words.{Content, Created, Database, Delete, Does, edit_of, Enforced, Entry, entry_row}
use Rattle.acvp_store.proofs.Words.{filter, Given, holds, HoldsEntries, HoldsReviewers, ids_of, Insert, Int, is_pair}
use Rattle.acvp_store.proofs.Words.{is_reviewer, IsAscending, IsPermutation, IsPermutation-append_comm}
use Rattle.acvp_store.proofs.Words.{IsPermutation-append_left, IsPermutation-append_right, IsPermutation-cons}
use Rattle.acvp_store.proofs.Words.{IsPermutation-filter, IsPermutation-map, IsPermutation-middle, IsPermutation-refl}
use Rattle.acvp_store.proofs.Words.{IsPermutation-sym, IsPermutation-trans, Layout, length_permutation, list_all}
use Rattle.acvp_store.proofs.Words.{list_any, map-map, Migrated, nat_le, nat_lt, nat_tests, Null, OnRows, overlay}
use Rattle.acvp_store.proofs.Words.{passes, plain, range_with_len, reviewer_columns, reviewer_table, reviewer_tree}
use Rattle.acvp_store.proofs.Words.{ReviewerRow, Row, schema_of, Shown, State, Table, Tally, Trees, Unique, Values}
use Rattle.acvp_store.proofs.Words.{whole, with_reviewer, without_all, Writes, Value}
use Rattle.acvp_store.proofs.Effects.{deleted_rows, inserted_rows, mode, task_of, under_schema, not_false}
use Rattle.acvp_store.proofs.Entries.{entry_for, map_last, rows_put, puts, was_free, removed, takes}
use Rattle.acvp_store.proofs.Idle.{applied}
use Rattle.acvp_store.proofs.Parts.{cast_null, cast_whole, both_true, and_true}
use Rattle.acvp_store.proofs.SelectedRows.{test_equals, test_none, selected}
use Rattle.acvp_store.proofs.Keyed.{none_passes, small_or_large, none_left}
use Rattle.acvp_store.proofs.Places.{reviewers_at, of_reviewers, reviewers_seen}
use Rattle.acvp_store.proofs.Readings.{ReviewerAt, answers, reading_query, reading_text, ReviewersOf}
use Rattle.acvp_store.proofs.Writings.{Effects, ReviewerAdded, ReviewerRemoved, remove_query, reviewer_place}
use Rattle.acvp_store.proofs.Writings.{writing_command, writing_terms}
use Rattle.sqlite_keyed.proofs.ListLemmas.{filter-map}
use Rattle.acvp_tables.specs.Private.Ascending.{with_number, ascending}
use Rattle.acvp_tables.proofs.Reviewers.{accounts_in, reviewers_read}
use Rattle.acvp_store.proofs.Told.{told, unread}
use Rattle.acvp_store.proofs.OrderedRows.{ranged}

-- ---- whether one is there

abbrev pub pair_params : Value → ℕ → Row
pair_params k account = k ∷ whole account ∷ []

abbrev FitsColumn : ReviewerRow → Type 0
FitsColumn r = r.session < 2 ^ 63

-- what is so of the members is so of their entries
pub each_entry : (P : ReviewerRow → Type 0) (es : List (Entry ReviewerRow))
    → AllByRecursion P (map (λ (e : Entry ReviewerRow). e.row) es)
    → AllByRecursion (λ (e : Entry ReviewerRow). P e.row) es
each_entry P [] h = tt
each_entry P (e ∷ es) h = (h.0, each_entry P es h.1)

pub entries_fit : (rows : List Row) (list : List ReviewerRow) (h : HoldsReviewers rows list)
    → AllByRecursion (λ (e : Entry ReviewerRow). e.row.session < 2 ^ 63) h.kept.entries
entries_fit rows list h =
    each_entry FitsColumn h.kept.entries
    (all-permutation FitsColumn list (map (λ (e : Entry ReviewerRow). e.row) h.kept.entries)
    (IsPermutation-sym _ _ h.kept.same) h.fits)

-- a session with a number that no column keeps has none
none_paired : (r : ReviewerRow) (es : List (Entry ReviewerRow)) → 2 ^ 63 ≤ r.session
    → AllByRecursion (λ (e : Entry ReviewerRow). e.row.session < 2 ^ 63) es
    → filter (λ (e : Entry ReviewerRow). is_pair r e.row) es ≡ []
none_paired r [] high low = refl
none_paired r (e ∷ es) high low =
    let under = low.0 in
    let apart : (e.row.session == r.session) ≡ false = grind (arith, nat_tests, under, high) in
    rw apart (none_paired r es high low.1)

module _ (layout : Layout) (r : ReviewerRow) (old new : State) (rows : List Row)
    (schema : old.now.schema ≡ schema_of layout) (list : List ReviewerRow)
    (h : HoldsReviewers (old.now.trees (reviewer_tree layout)) list) where
  rows_by : (k : Value) (p : Entry ReviewerRow → Bool)
      → ((e : Entry ReviewerRow) → list_all (holds (pair_params k r.account ∷ entry_row reviewer_columns e ∷ []))
      (reading_query ReviewerAt layout).filter ≡ p e)
      → Shown (reading_text ReviewerAt) (pair_params k r.account) old new rows
      → IsPermutation (map (λ (e : Entry ReviewerRow). whole e.row.account ∷ []) (filter p h.kept.entries)) rows
  rows_by k p tests shown =
      selected (pair_params k r.account) (entry_row reviewer_columns) p (reading_query ReviewerAt layout).filter tests
      (reviewer_tree layout) (reading_query ReviewerAt layout).project (λ e. whole e.row.account ∷ []) (λ e. refl)
      (overlay old.now.trees []) h.kept.entries rows (reviewers_seen layout old.now.trees ∙ h.kept.rows_are)
      (answers ReviewerAt layout (pair_params k r.account) old new rows schema shown)

  pub reviewer_rows : (k : Value) → IsFitting r.session k → IsTooLarge r.session k
      → Shown (reading_text ReviewerAt) (pair_params k r.account) old new rows
      → IsPermutation (map (λ (e : Entry ReviewerRow). whole e.row.account ∷ [])
      (filter (λ e. is_pair r e.row) h.kept.entries)) rows
  reviewer_rows k fits large shown = elim (small_or_large r.session) [
    | inl low ↦
        let at = subst (λ k. Shown (reading_text ReviewerAt) (pair_params k r.account) old new rows) (fits low) shown in
        rows_by (whole r.session) (λ e. is_pair r e.row)
        (λ e. both_true _ _ (e.row.session == r.session) (e.row.account == r.account)
        (test_equals e.row.session r.session) (test_equals e.row.account r.account)) at
    | inr high ↦
        let at = subst (λ k. Shown (reading_text ReviewerAt) (pair_params k r.account) old new rows) (large high)
        shown in
        let none = rows_by (Int (negsuc 0)) (λ e. false)
        (λ e. both_true _ _ false (e.row.account == r.account) (test_none e.row.session)
        (test_equals e.row.account r.account)) at in
        let empty : filter (λ (e : Entry ReviewerRow). false) h.kept.entries
        ≡ filter (λ (e : Entry ReviewerRow). is_pair r e.row) h.kept.entries = none_passes h.kept.entries
        ∙ sym (none_paired r h.kept.entries high (entries_fit (old.now.trees (reviewer_tree layout)) list h)) in
        subst (λ es. IsPermutation (map (λ (e : Entry ReviewerRow). whole e.row.account ∷ []) es) rows) empty none
  ]

-- there is one exactly where one passes
counted : {A : Type 0} (shown : A → Row) (p : A → Bool) (xs : List A)
    → nat_lt 0 (length (map shown (filter p xs))) ≡ list_any p xs
counted shown p [] = refl
counted shown p (x ∷ xs) = elim (cases_Bool (p x)) [
  | inl hit ↦ let some : nat_lt 0 (length (shown x ∷ map shown (filter p xs))) ≡ true = grind (arith, nat_tests) in
      rw hit some
  | inr miss ↦ rw miss (counted shown p xs)
]

pub any_passes : {A : Type 0} (shown : A → Row) (p : A → Bool) (xs : List A) (rows : List Row)
    → IsPermutation (map shown (filter p xs)) rows → nat_lt 0 (length rows) ≡ list_any p xs
any_passes shown p xs rows same = ap (nat_lt 0) (length_permutation _ _ same) ∙ counted shown p xs

pub any_row : (p : ReviewerRow → Bool) (es : List (Entry ReviewerRow))
    → list_any (λ (e : Entry ReviewerRow). p e.row) es ≡ list_any p (map (λ (e : Entry ReviewerRow). e.row) es)
any_row p [] = refl
any_row p (e ∷ es) = elim (cases_Bool (p e.row)) [
  | inl hit ↦ rw hit refl
  | inr miss ↦ rw miss (any_row p es)
]

-- ---- one who is put in

cast_given : (tree : ℕ) (r : ReviewerRow) → cast_row (reviewer_table tree) (Null ∷ reviewer_columns r) ≡ Null
    ∷ reviewer_columns r
cast_given tree r = rw (cast_null, cast_whole r.session, cast_whole r.account) refl

agrees : (r a : ReviewerRow) (i j : ℤ)
    → agree plain (1 ∷ 2 ∷ []) (Int i ∷ reviewer_columns a) (1 ∷ 2 ∷ []) (Int j ∷ reviewer_columns r) ≡ is_pair r a
unfolding first_key
agrees r a i j = both_true _ _ (a.session == r.session) (a.account == r.account) (test_equals a.session r.session)
    (test_equals a.account r.account)

all_last : (P : Row → Type 0) (xs : List Row) (r : Row) → AllByRecursion P (xs ++ r ∷ []) → P r
all_last P [] r h = h.0
all_last P (x ∷ xs) r h = all_last P xs r h.1

only_index : (layout : Layout) (db : Trees) (row : Row)
    → passes Unique (schema_of layout) db (reviewer_table (reviewer_tree layout)) row
    ≡ (not (clashes plain (1 ∷ 2 ∷ []) (db (reviewer_tree layout)) row) && true)
only_index Created db row = refl
only_index Migrated db row = refl

module _ (layout : Layout) (r : ReviewerRow) (trees next : Trees)
    (wrote : Writes (schema_of layout) Enforced trees
    (edit_of trees (reviewer_table (reviewer_tree layout)) [] Chosen 0 ((Null ∷ reviewer_columns r) ∷ [])) (Ok next))
    (list : List ReviewerRow) (held : HoldsReviewers (trees (reviewer_tree layout)) list)
    (low : r.session < 2 ^ 63) where
  abbrev h : HoldsEntries reviewer_columns (trees (reviewer_tree layout)) list
  h = held.kept

  abbrev new : Entry ReviewerRow
  new = entry_for reviewer_columns h.entries r

  clear : clashes plain (1 ∷ 2 ∷ []) (next (reviewer_tree layout)) (entry_row reviewer_columns new) ≡ false
  clear =
      let it = applied layout trees next
      (edit_of trees (reviewer_table (reviewer_tree layout)) [] Chosen 0 ((Null ∷ reviewer_columns r) ∷ []))
      wrote in
      let rows = rows_put reviewer_columns layout (reviewer_table (reviewer_tree layout)) r
      (cast_given (reviewer_tree layout) r) trees next list h wrote ∙ map_last reviewer_columns new h.entries in
      let unique = subst (λ rows.
      AllByRecursion (λ row. passes Unique (schema_of layout) next (reviewer_table (reviewer_tree layout)) row
      ≡ true) rows) rows (of_reviewers layout
      (λ t. AllByRecursion (λ row. passes Unique (schema_of layout) next t row ≡ true) (next t.tree))
      (it.fits.rules Unique (λ e. absurd (cc)))) in
      not_false _ (sym (only_index layout next (entry_row reviewer_columns new))
      ∙ all_last _ (map (entry_row reviewer_columns) h.entries) (entry_row reviewer_columns new) unique)

  joins : HoldsReviewers (next (reviewer_tree layout)) (with_reviewer r list)
  joins =
      let free = was_free reviewer_columns layout (reviewer_table (reviewer_tree layout)) r
      (cast_given (reviewer_tree layout) r) trees next list h wrote (1 ∷ 2 ∷ []) (is_pair r) (agrees r) clear in
      record {
        kept = subst (λ b. HoldsEntries reviewer_columns (next (reviewer_tree layout))
            (if b then list else list ++ r ∷ [])) (sym free)
            (puts reviewer_columns layout (reviewer_table (reviewer_tree layout)) r
            (cast_given (reviewer_tree layout) r) trees next list h wrote);
        fits = subst (λ b. AllByRecursion FitsColumn (if b then list else list ++ r ∷ [])) (sym free)
            (all-append FitsColumn list (r ∷ []) held.fits (low, tt));
      }

adds : (layout : Layout) (limit : Option ℕ) (text : List ℕ) (r : ReviewerRow) → r.session < 2 ^ 63
    → (trees : Trees) (tally : Tally) (after : Database)
    → Does limit (record { keys = Enforced; in_doubt = false; may_wait = false }) (reviewer_columns r)
    (record { schema = schema_of layout; trees = trees }) text None
    (Insert (reviewer_place layout) (Values (writing_terms ReviewerAdded) 3)) (Ok (tally, after))
    → Alters layout (reviewer_tree layout) HoldsReviewers (with_reviewer r)
    (record { schema = schema_of layout; trees = trees }) after
adds layout limit text r low trees tally after does =
    let tree = reviewer_tree layout in
    let q = Insert (reviewer_place layout) (Values (writing_terms ReviewerAdded) 3) in
    let on = subst (λ (o : Option Table).
    AtPlace (λ t. OnRows (task_of layout limit t (reviewer_columns r)) mode None q trees) o (Ok (tally, after)))
    (reviewers_at layout) does in
    let it = inserted_rows layout limit (reviewer_table tree) (reviewer_columns r) trees tally after
    (reviewer_place layout) (Values (writing_terms ReviewerAdded) 3) on in
    let wrote = subst (λ rs. Writes (schema_of layout) Enforced trees
    (edit_of trees (reviewer_table tree) [] Chosen 0 rs) (Ok after.trees)) it.1.1 it.2.writes in
    record {
      schema = it.2.schema;
      kept = λ list h. joins layout r trees after.trees wrote list h low;
      others = (applied layout trees after.trees
          (edit_of trees (reviewer_table tree) [] Chosen 0 ((Null ∷ reviewer_columns r) ∷ [])) wrote).tables;
    }

pub add_reviewer_effect : (layout : Layout) (old : State) (r : ReviewerRow) → r.session < 2 ^ 63
    → Effects ReviewerAdded layout (reviewer_columns r) old (Alters layout (reviewer_tree layout) HoldsReviewers
    (with_reviewer r))
add_reviewer_effect layout old r low =
    under_schema (schema_of layout) old (reviewer_columns r) [] (writing_command ReviewerAdded layout)
    (Alters layout (reviewer_tree layout) HoldsReviewers (with_reviewer r))
    (λ limit trees tally after does. adds layout limit [] r low trees tally after does)

-- ---- one who is taken out

removes : (layout : Layout) (limit : Option ℕ) (text : List ℕ) (r : ReviewerRow) (trees : Trees) (tally : Tally)
    (after : Database)
    → Does limit (record { keys = Enforced; in_doubt = false; may_wait = false }) (reviewer_columns r)
    (record { schema = schema_of layout; trees = trees }) text None
    (Delete (reviewer_place layout) (record { lets = []; body = (remove_query layout) })) (Ok (tally, after))
    → Alters layout (reviewer_tree layout) HoldsReviewers (filter (λ row. not (is_pair r row)))
    (record { schema = schema_of layout; trees = trees }) after
removes layout limit text r trees tally after does =
    let tree = reviewer_tree layout in
    let q = Delete (reviewer_place layout) (record { lets = []; body = remove_query layout }) in
    let on = subst (λ (o : Option Table).
    AtPlace (λ t. OnRows (task_of layout limit t (reviewer_columns r)) mode None q trees) o (Ok (tally, after)))
    (reviewers_at layout) does in
    let deleted = deleted_rows layout limit (reviewer_table tree) (reviewer_columns r) trees tally after
    (reviewer_place layout) _ on in
    let it = applied layout trees after.trees (edit_of trees (reviewer_table tree) (ids_of deleted.0) Given 0 [])
    deleted.2.writes in
    record {
      schema = deleted.2.schema;
      kept = λ list held.
          let h = held.kept in
          let rows = selected (reviewer_columns r) (entry_row reviewer_columns) (λ e. is_pair r e.row)
          (remove_query layout).filter
          (λ e. both_true _ _ (e.row.session == r.session) (e.row.account == r.account)
          (test_equals e.row.session r.session) (test_equals e.row.account r.account))
          tree (remove_query layout).project (λ e. Int e.id ∷ []) (λ e. refl) (overlay trees []) h.entries deleted.0
          (reviewers_seen layout trees ∙ h.rows_are) (deleted.1.answer Null) in
          let left = it.rows ∙ ap (λ all. without_all all (ids_of deleted.0)) h.rows_are
          ∙ removed reviewer_columns (λ e. is_pair r e.row) h.entries deleted.0 h.rising rows in
          record {
            kept = takes reviewer_columns (is_pair r) trees after.trees tree list h left;
            fits = all-filter FitsColumn (λ row. not (is_pair r row)) list held.fits;
          };
      others = it.tables;
    }

pub remove_reviewer_effect : (layout : Layout) (old : State) (r : ReviewerRow)
    → Effects ReviewerRemoved layout (reviewer_columns r) old
    (Alters layout (reviewer_tree layout) HoldsReviewers (filter (λ row. not (is_pair r row))))
remove_reviewer_effect layout old r =
    under_schema (schema_of layout) old (reviewer_columns r) [] (writing_command ReviewerRemoved layout)
    (Alters layout (reviewer_tree layout) HoldsReviewers (filter (λ row. not (is_pair r row))))
    (λ limit trees tally after does. removes layout limit [] r trees tally after does)

-- ---- the reviewers of a session, in the order of their numbers

abbrev pub account_shown : ℕ → Row
account_shown n = whole n ∷ []

abbrev pub Rising : List ℕ → Type 0
Rising = IsAscending (λ m n. m < n)

-- ---- the rows that the query gives

-- a session with a number that no column keeps has none
none_reviews : (s : ℕ) (list : List ReviewerRow) → 2 ^ 63 ≤ s
    → AllByRecursion (λ (r : ReviewerRow). r.session < 2 ^ 63) list → accounts_in s list ≡ []
none_reviews s [] high low = refl
none_reviews s (r ∷ list) high low =
    let under = low.0 in
    let apart : (r.session == s) ≡ false = grind (arith, nat_tests, under, high) in
    rw apart (none_reviews s list high low.1)

module _ (layout : Layout) (s : ℕ) (old new : State) (rows : List Row) (schema : old.now.schema ≡ schema_of layout)
    (list : List ReviewerRow) (h : HoldsReviewers (old.now.trees (reviewer_tree layout)) list) (numbers : List ℕ)
    (rise : Rising numbers) where
  listed_by : (k : Value) (p : Entry ReviewerRow → Bool)
      → ((e : Entry ReviewerRow) → list_all (holds ((k ∷ []) ∷ entry_row reviewer_columns e ∷ []))
      (reading_query ReviewersOf layout).filter ≡ p e)
      → Shown (reading_text ReviewersOf) (k ∷ []) old new rows
      → IsPermutation (map (λ (e : Entry ReviewerRow). e.row.account) (filter p h.kept.entries)) numbers
      → rows ≡ map account_shown numbers
  listed_by k p tests shown same =
      ranged (k ∷ []) (entry_row reviewer_columns) p (reading_query ReviewersOf layout).filter tests
      (λ e. e.row.account) (λ n. n) account_shown
      2 (reviewer_tree layout) (reading_query ReviewersOf layout).project (λ e. refl) (λ e. refl)
      (overlay old.now.trees []) h.kept.entries numbers rows (reviewers_seen layout old.now.trees ∙ h.kept.rows_are)
      same rise
      (answers ReviewersOf layout (k ∷ []) old new rows schema shown)

  pub session_rows : (k : Value) → IsFitting s k → IsTooLarge s k
      → Shown (reading_text ReviewersOf) (k ∷ []) old new rows → IsPermutation (accounts_in s list) numbers
      → rows ≡ map account_shown numbers
  session_rows k fits large shown same = elim (small_or_large s) [
    | inl low ↦
        let at = subst (λ k. Shown (reading_text ReviewersOf) (k ∷ []) old new rows) (fits low) shown in
        listed_by (whole s) (λ e. e.row.session == s)
        (λ e. rw test_equals (and_true _)) at (IsPermutation-trans _ (accounts_in s list) _
        (told h.kept.entries h.kept.same) same)
    | inr high ↦
        let at = subst (λ k. Shown (reading_text ReviewersOf) (k ∷ []) old new rows) (large high) shown in
        let none = none_left numbers (rw (none_reviews s list high h.fits) at same) in
        let empty : filter (λ (e : Entry ReviewerRow). false) h.kept.entries ≡ [] = none_passes h.kept.entries in
        listed_by (Int (negsuc 0)) (λ e. false) (λ e. rw test_none refl) at (rw (empty, none) (IsPermutation-refl []))
  ]
    where
      told : (es : List (Entry ReviewerRow)) → IsPermutation (map (λ e. e.row) es) list
          → IsPermutation (map (λ e. e.row.account) (filter (λ e. e.row.session == s) es)) (accounts_in s list)
      told es same =
          let kept = IsPermutation-map (λ (r : ReviewerRow). r.account) _ _
          (IsPermutation-filter (λ (r : ReviewerRow). r.session == s) _ _ same) in
          let is = ap (map (λ (r : ReviewerRow). r.account))
          (filter-map (λ (r : ReviewerRow). r.session == s) (λ (e : Entry ReviewerRow). e.row) es)
          ∙ map-map (λ (r : ReviewerRow). r.account) (λ (e : Entry ReviewerRow). e.row)
          (filter (λ e. e.row.session == s) es) in
          subst (λ accounts. IsPermutation accounts (accounts_in s list)) is kept

-- ---- numbers put in order

placed_same : (n : ℕ) (placed : List ℕ) → IsPermutation (n ∷ placed) (with_number n placed)
placed_same n [] = IsPermutation-refl _
placed_same n (m ∷ placed) = go (placed_same n placed) (nat_le n m)
  where
    go : IsPermutation (n ∷ placed) (with_number n placed) → (b : Bool)
        → IsPermutation (n ∷ m ∷ placed) (if b then n ∷ m ∷ placed else m ∷ with_number n placed)
    go more true = IsPermutation-refl _
    go more false = IsPermutation-trans _ (m ∷ n ∷ placed) _
        (IsPermutation-append_left placed (n ∷ m ∷ []) (m ∷ n ∷ []) (IsPermutation-append_comm (n ∷ []) (m ∷ [])))
        (IsPermutation-cons m _ _ more)

ordered_same : (placed numbers : List ℕ) → IsPermutation (numbers ++ placed) (ascending placed numbers)
ordered_same placed [] = IsPermutation-refl _
ordered_same placed (n ∷ numbers) =
    let front = IsPermutation-sym _ _ (IsPermutation-middle numbers n placed) in
    IsPermutation-trans _ (numbers ++ n ∷ placed) _ front
    (IsPermutation-trans _ (numbers ++ with_number n placed) _
    (IsPermutation-append_right numbers (n ∷ placed) (with_number n placed) (placed_same n placed))
    (ordered_same (with_number n placed) numbers))

-- ---- of well numbered rows they are the session's

reviewers_same : (s : ℕ) (c : Content) → AreWellNumbered c
    → IsPermutation (accounts_in s c.reviewers) (reviewers_of s c.reviewers)
reviewers_same s c sound =
    subst (IsPermutation (accounts_in s c.reviewers)) (reviewers_read s c c.reviewers _ sound refl refl)
    (rw append-nil at (ordered_same [] (accounts_in s c.reviewers)))

above_range : (m a k : ℕ) → m < a → AllByRecursion (λ n. m < n) (range_with_len a k)
above_range m a zero low = tt
above_range m a (suc k) low = (low, above_range m (a + 1) k (omega arith))

rise_range : (a k : ℕ) → Rising (range_with_len a k)
rise_range a zero = tt
rise_range a (suc k) = (above_range a (a + 1) k (omega arith), rise_range (a + 1) k)

reviewers_rise : (s : ℕ) (rows : List ReviewerRow) → Rising (reviewers_of s rows)
unfolding reviewers_of account_numbers
reviewers_rise s rows = ascending-filter (λ m n. m < n) (λ account. is_reviewer s account rows) (range_with_len 1 9999)
    (rise_range 1 9999)

-- ---- the whole

module _ {X L E F : Type 0} (s : ℕ) (table : List Row) (rows_in : X → List Row) (listed : L → List ℕ) where
  pub find_all : (outcome : Result X E) (result : Result L F) → (IsOk result → IsOk outcome)
      → IfOk result (λ l. IfOk outcome (λ x. (list : List ℕ) → AllByRecursion (λ _. ⊤) list
      → rows_in x ≡ map account_shown list → listed l ≡ list))
      → IfOk outcome (λ x. (list : List ReviewerRow) → HoldsReviewers table list → (numbers : List ℕ) → Rising numbers
      → IsPermutation (accounts_in s list) numbers → rows_in x ≡ map account_shown numbers)
      → IfOk result (λ l. (c : Content) → AreWellNumbered c → HoldsReviewers table c.reviewers
      → listed l ≡ reviewers_of s c.reviewers)
  find_all outcome result ok =
      told outcome result ok _ _ _
      (λ x l lists rows. λ c sound h. lists (reviewers_of s c.reviewers) (unread _)
      (rows c.reviewers h (reviewers_of s c.reviewers) (reviewers_rise s c.reviewers) (reviewers_same s c sound)))
