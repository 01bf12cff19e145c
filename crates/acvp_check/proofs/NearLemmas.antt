-- A session's rows are those at their place, where all ascend by their sessions.
use Rattle.std.proofs.Common.{◌≡◌, ℕ, zero, suc, ◌+◌, ◌≤◌, ◌<◌, List, [], ◌∷◌, ◌++◌, Bool, true, false, refl, sym, ap, ◌∙◌}
use Rattle.std.proofs.Common.{length, arith}
use Rattle.std.specs.Prelude.{None, Some, drop, filter, find, is_some, nat_le, nat_lt, take, ◌==◌, ◌&&◌, ◌||◌}
use Rattle.std.specs.List.{list_any, slice_index_or}
use Rattle.std.specs.List.Sorted.{IsPartitionedBy}
use Rattle.std.proofs.lemmas.Bool.Decides.{nat_tests}
use Rattle.std.proofs.lemmas.List.{append-nil, get_or-drop, get_or-take, length-drop, length-take, take-append-drop}
use Rattle.std.proofs.lemmas.List.Elements.{filter-append}
use Rattle.std.proofs.lemmas.List.Folds.{list_any-append}
use Rattle.acvp_tables.specs.Content.{is_live_in, session_at}
use Rattle.acvp_tables.specs.Counted.{is_passed_in, live_count, passed_count}
use Rattle.acvp_tables.specs.declared.rows.ReviewerRow.{ReviewerRow}
use Rattle.acvp_tables.specs.declared.rows.SessionRow.{SessionRow}
use Rattle.acvp_tables.specs.declared.rows.SetRow.{SetRow}
use Rattle.acvp_check.proofs.Joins.{same_at}
use Rattle.acvp_check.specs.Conditions.{reviewers_at, reviewers_in}
use Rattle.acvp_check.specs.Near.{AreItsRows, AreItsSets, Ascend, Rise}

-- what no row passes is passed nowhere
abbrev None-pass : {R : Type 0} → (R → Bool) → List R → Type 0
None-pass {R} q rows = (k : ℕ) (d : R) → k < length rows → q (slice_index_or rows k d) ≡ false

none_left : {R : Type 0} (q : R → Bool) (rows : List R) → None-pass q rows → filter q rows ≡ []
none_left q [] none = refl
none_left q (r ∷ rows) none =
    let first : q r ≡ false = none 0 r (omega arith) in
    rw first (none_left q rows (λ k d few. none (suc k) d (omega (arith, few))))

none_any : {R : Type 0} (q : R → Bool) (rows : List R) → None-pass q rows → list_any q rows ≡ false
none_any q [] none = refl
none_any q (r ∷ rows) none =
    let first : q r ≡ false = none 0 r (omega arith) in
    rw first (none_any q rows (λ k d few. none (suc k) d (omega (arith, few))))

-- a list is what stands before two places, between them, and behind
parts : {R : Type 0} (rows : List R) (m n : ℕ)
    → rows ≡ (take m (take n rows) ++ drop m (take n rows)) ++ drop n rows
parts rows m n =
    sym (ap (λ front. front ++ drop n rows) (take-append-drop m (take n rows)) ∙ take-append-drop n rows)

module _ {R : Type 0} (q : R → Bool) (rows : List R) (m n : ℕ) (before : None-pass q (take m (take n rows)))
    (behind : None-pass q (drop n rows)) where
  abbrev between : List R
  between = drop m (take n rows)

  -- what is passed by none of the rows before and behind is passed by those between
  left_between : filter q rows ≡ filter q between
  left_between =
      ap (filter q) (parts rows m n) ∙ filter-append q (take m (take n rows) ++ between) (drop n rows)
      ∙ rw (
        filter-append q (take m (take n rows)) between,
        none_left q (take m (take n rows)) before,
        none_left q (drop n rows) behind,
      ) (append-nil (filter q between))

  any_between : list_any q rows ≡ list_any q between
  any_between =
      ap (list_any q) (parts rows m n) ∙ list_any-append q (take m (take n rows) ++ between) (drop n rows)
      ∙ rw (
        list_any-append q (take m (take n rows)) between,
        none_any q (take m (take n rows)) before,
        none_any q (drop n rows) behind,
      ) (or_false (list_any q between))
    where
      or_false : (b : Bool) → (b || false) ≡ b
      or_false true = refl
      or_false false = refl

module _ {R : Type 0} (session : R → ℕ) (number : ℕ) (rows : List R) (lo m n : ℕ) (low : m ≤ lo) (in_front : m ≤ n)
    (bound : n ≤ length rows)
    (before : (k : ℕ) (d : R) → k < lo → session (slice_index_or rows k d) < number)
    (behind : (k : ℕ) (d : R) → n ≤ k → k < length rows → number < session (slice_index_or rows k d)) where
  none_before : (q : R → Bool) → ((r : R) → (session r == number) ≡ false → q r ≡ false)
      → None-pass q (take m (take n rows))
  none_before q its k d few =
      let place : k < m = omega (arith, few, length-take m (take n rows)) in
      let same : slice_index_or (take m (take n rows)) k d ≡ slice_index_or rows k d =
      get_or-take m (take n rows) k d place ∙ get_or-take n rows k d (omega (arith, place, in_front)) in
      let low_one : session (slice_index_or rows k d) < number = before k d (omega (arith, place, low)) in
      let apart : (session (slice_index_or rows k d) == number) ≡ false = grind (arith, nat_tests, low_one) in
      rw same (its (slice_index_or rows k d) apart)

  none_behind : (q : R → Bool) → ((r : R) → (session r == number) ≡ false → q r ≡ false) → None-pass q (drop n rows)
  none_behind q its k d few =
      let same : slice_index_or (drop n rows) k d ≡ slice_index_or rows (n + k) d = get_or-drop n rows k d in
      let place : n + k < length rows = omega (arith, few, length-drop n rows) in
      let high_one : number < session (slice_index_or rows (n + k) d) = behind (n + k) d (omega arith) place in
      let apart : (session (slice_index_or rows (n + k) d) == number) ≡ false =
      grind (arith, nat_tests, high_one) in
      rw same (its (slice_index_or rows (n + k) d) apart)

  pub its_rows : AreItsRows session number rows (drop m (take n rows))
  its_rows = record {
    any = λ q its. any_between q rows m n (none_before q its) (none_behind q its);
    left = λ q its. left_between q rows m n (none_before q its) (none_behind q its);
  }

-- all rows are some of them
pub all_rows : {R : Type 0} (session : R → ℕ) (number : ℕ) (rows : List R) → AreItsRows session number rows rows
all_rows session number rows = record {
  any = λ q its. refl;
  left = λ q its. refl;
}

-- what is asked of a session's vector sets
pub its_sets : (row : SessionRow) (all some : List SetRow)
    → AreItsRows (λ set. set.session) row.number all some → AreItsSets row all some
its_sets row all some its = record {
  any = its.any (λ set. set.session == row.number) (λ set apart. apart);
  sets = its.left (λ set. set.session == row.number) (λ set apart. apart);
  counted = ap (λ live. (row.live == length live) && (row.passed == passed_count row.number all)) live
      ∙ ap (λ passed. (row.live == live_count row.number some) && (row.passed == length passed)) passed;
}
  where
    live : filter (is_live_in row.number) all ≡ filter (is_live_in row.number) some
    live = its.left (is_live_in row.number) (λ set apart. rw apart refl)

    passed : filter (is_passed_in row.number) all ≡ filter (is_passed_in row.number) some
    passed = its.left (is_passed_in row.number) (λ set apart. rw apart refl)

-- and of its reviewers
pub its_reviewers : (n : ℕ) (all some : List ReviewerRow) → AreItsRows (λ row. row.session) n all some
    → reviewers_in n all ≡ reviewers_in n some
its_reviewers n all some its = its.left (λ row. row.session == n) (λ row apart. apart)

pub its_reviewer : (n account : ℕ) (all some : List ReviewerRow) → AreItsRows (λ row. row.session) n all some
    → reviewers_at n account all ≡ reviewers_at n account some
its_reviewer n account all some its =
    its.left (λ row. (row.session == n) && (row.account == account)) (λ row apart. rw apart refl)

-- ---- the places of rows that ascend

module _ {R : Type 0} (of : R → ℕ) where
  pub parted_before : (rows : List R) (session : ℕ) → Ascend of rows
      → IsPartitionedBy (λ row. nat_lt (of row) session) rows
  parted_before rows session ascends i j d behind few below =
      grind (arith, nat_tests, ascends i j d behind few, below)

  pub parted_through : (rows : List R) (session : ℕ) → Ascend of rows
      → IsPartitionedBy (λ row. nat_le (of row) session) rows
  parted_through rows session ascends i j d behind few below =
      grind (arith, nat_tests, ascends i j d behind few, below)

pub is_below : (a b : ℕ) → nat_lt a b ≡ true → a < b
is_below a b tested = grind (arith, nat_tests, tested)

pub is_above : (a b : ℕ) → nat_le a b ≡ false → b < a
is_above a b tested = grind (arith, nat_tests, tested)

pub is_at_least : (a b : ℕ) → nat_lt a b ≡ false → b ≤ a
is_at_least a b tested = grind (arith, nat_tests, tested)

-- one row more ascends, too
pub ascends_more : {R : Type 0} (of : R → ℕ) (rows : List R) (i last : ℕ)
    → ((k : ℕ) (d : R) → k < i → of (slice_index_or rows k d) ≤ last)
    → ((a b : ℕ) (d : R) → a ≤ b → b < i → of (slice_index_or rows a d) ≤ of (slice_index_or rows b d))
    → ((d : R) → last ≤ of (slice_index_or rows i d))
    → (a b : ℕ) (d : R) → a ≤ b → b < i + 1
    → of (slice_index_or rows a d) ≤ of (slice_index_or rows b d)
ascends_more {R} of rows i last most ascends next a b d behind few = by_place (nat_lt b i) refl (nat_lt a i) refl
  where
    by_place : (within : Bool) → nat_lt b i ≡ within → (before : Bool) → nat_lt a i ≡ before
        → of (slice_index_or rows a d) ≤ of (slice_index_or rows b d)
    by_place true is before front = ascends a b d behind (is_below b i is)
    by_place false is true front =
        let same : b ≡ i = grind (arith, nat_tests, is, few) in
        rw same (omega (arith, most a d (is_below a i front), next d))
    by_place false is false front =
        let same : b ≡ i = grind (arith, nat_tests, is, few) in
        let too : a ≡ i = grind (arith, nat_tests, front, behind, few) in
        rw (same, too) (omega arith)

-- ---- a row at a place

pub any_at_place : {R : Type 0} (test passes : R → Bool) (rows : List R) (k : ℕ) (row : R) → k < length rows
    → row ≡ slice_index_or rows k row → test row ≡ true → passes row ≡ true
    → list_any (λ row. test row && passes row) rows ≡ true
any_at_place test passes [] k row few there is passed = absurd (omega (arith, few))
any_at_place test passes (r ∷ rows) zero row few there is passed =
    let same : row ≡ r = there in
    rw (← same, is, passed) refl
any_at_place test passes (r ∷ rows) (suc k) row few there is passed =
    behind (test r && passes r) (list_any (λ row. test row && passes row) rows)
    (any_at_place test passes rows k row (omega (arith, few)) there is passed)
  where
    behind : (first rest : Bool) → rest ≡ true → (first || rest) ≡ true
    behind true rest is = refl
    behind false rest is = is

-- a session that passes any test by its number is there
pub there_by_any : (n : ℕ) (rows : List SessionRow) → list_any (λ row. (row.number == n) && true) rows ≡ true
    → is_some (session_at n rows) ≡ true
there_by_any n [] any = absurd (cc)
there_by_any n (r ∷ rows) any = grind (arith, nat_tests, any, there_by_any n rows)

-- ---- rows whose numbers rise

module _ {R : Type 0} (number : R → ℕ) where
  pub parted_lower : (rows : List R) (n : ℕ) → Rise number rows → IsPartitionedBy (λ row. nat_lt (number row) n) rows
  parted_lower rows n rise i j d behind few below = by_place (nat_lt i j) refl
    where
      by_place : (apart : Bool) → nat_lt i j ≡ apart → nat_lt (number (slice_index_or rows i d)) n ≡ true
      by_place true is = grind (arith, nat_tests, rise i j d (is_below i j is) few, below)
      by_place false is =
          let same : i ≡ j = grind (arith, nat_tests, is, behind) in
          rw same below

  pub rises_more : (rows : List R) (i least : ℕ)
      → ((k : ℕ) (d : R) → k < i → number (slice_index_or rows k d) < least)
      → ((a b : ℕ) (d : R) → a < b → b < i → number (slice_index_or rows a d) < number (slice_index_or rows b d))
      → ((d : R) → least ≤ number (slice_index_or rows i d))
      → (a b : ℕ) (d : R) → a < b → b < i + 1
      → number (slice_index_or rows a d) < number (slice_index_or rows b d)
  rises_more rows i least lower rise next a b d before few = by_place (nat_lt b i) refl
    where
      by_place : (within : Bool) → nat_lt b i ≡ within
          → number (slice_index_or rows a d) < number (slice_index_or rows b d)
      by_place true is = rise a b d before (is_below b i is)
      by_place false is =
          let same : b ≡ i = grind (arith, nat_tests, is, few) in
          rw same (omega (arith, lower a d (omega (arith, before, same)), next d))

  -- what no row has isn't found
  pub none_found : (n : ℕ) (rows : List R)
      → ((k : ℕ) (d : R) → k < length rows → (number (slice_index_or rows k d) == n) ≡ false)
      → None ≡ find (λ row. number row == n) rows
  none_found n [] none = refl
  none_found n (r ∷ rows) none =
      let first : (number r == n) ≡ false = none 0 r (omega arith) in
      rw first (none_found n rows (λ k d few. none (suc k) d (omega (arith, few))))

  -- the row behind all lower ones is found by its number
  pub found_behind : (n : ℕ) (rows : List R) (place : ℕ) (row : R) → place < length rows
      → row ≡ slice_index_or rows place row → number row ≡ n
      → ((k : ℕ) (d : R) → k < place → number (slice_index_or rows k d) < n)
      → Some row ≡ find (λ row. number row == n) rows
  found_behind n [] place row few there is lower = absurd (omega (arith, few))
  found_behind n (r ∷ rows) zero row few there is lower =
      let found : (number r == n) ≡ true = grind (arith, nat_tests, there, is) in
      rw found (ap (λ r. Some r) there)
  found_behind n (r ∷ rows) (suc place) row few there is lower =
      let below : number r < n = lower 0 r (omega arith) in
      let apart : (number r == n) ≡ false = grind (arith, nat_tests, below) in
      rw apart (found_behind n rows place row (omega (arith, few)) there is (λ k d before.
      lower (suc k) d (omega (arith, before))))

  pub other_at : (n : ℕ) (rows : List R) (place : ℕ) (row d : R) → place < length rows
      → row ≡ slice_index_or rows place row → (number row ≡ n → ⊥)
      → (number (slice_index_or rows place d) == n) ≡ false
  other_at n rows place row d few there other =
      let same : slice_index_or rows place d ≡ row = same_at rows place d row few ∙ sym there in
      rw same (by_test (number row) other)
    where
      by_test : (m : ℕ) → (m ≡ n → ⊥) → (m == n) ≡ false
      by_test m other = grind (arith, nat_tests, other)

  -- if the row there has another number, no row has it
  pub apart_found : (n : ℕ) (rows : List R) (place : ℕ) → Rise number rows
      → ((k : ℕ) (d : R) → k < place → number (slice_index_or rows k d) < n)
      → ((k : ℕ) (d : R) → place ≤ k → k < length rows → n ≤ number (slice_index_or rows k d))
      → (place < length rows → (d : R) → (number (slice_index_or rows place d) == n) ≡ false)
      → None ≡ find (λ row. number row == n) rows
  apart_found n rows place rise lower behind apart = none_found n rows none
    where
      by_place : (k : ℕ) (d : R) → k < length rows → (before : Bool) → nat_lt k place ≡ before → (after : Bool)
          → nat_lt place k ≡ after → (number (slice_index_or rows k d) == n) ≡ false
      by_place k d few true is after rest = grind (arith, nat_tests, lower k d (is_below k place is))
      by_place k d few false is true rest =
          let above = rise place k d (is_below place k rest) few in
          let least = behind place d (omega arith) (omega (arith, few, is_below place k rest)) in
          grind (arith, nat_tests, above, least)
      by_place k d few false is false rest =
          let same : k ≡ place = grind (arith, nat_tests, is, rest) in
          rw same (apart (omega (arith, few, same)) d)

      none : (k : ℕ) (d : R) → k < length rows → (number (slice_index_or rows k d) == n) ≡ false
      none k d few = by_place k d few (nat_lt k place) refl (nat_lt place k) refl
