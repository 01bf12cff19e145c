-- The lists of ranges, joined, stand for all rows of these; and each is the part of any list that stands for the rows.
use Rattle.std.proofs.Common.{◌≡◌, inl, inr, ◌<◌, ◌≤◌, ◌^◌, ◌+◌, ℕ, zero, suc, pos, negsuc, List, [], ◌∷◌, ◌++◌, map}
use Rattle.std.proofs.Common.{length, Bool, true, false, Option, Some, None, IsTrue, refl, sym, ap, ap₂, subst, ◌∙◌}
use Rattle.std.proofs.Common.{arith, Less}
use Rattle.std.specs.Prelude.{◌&&◌}
use Rattle.acvp_store.specs.Ranges.{joined}
use Rattle.acvp_store.proofs.Words.{account_key, account_row, AccountRow, all-append, all-map, all_of, all_weaker}
use Rattle.acvp_store.proofs.Words.{AllByRecursion, AreFull, AreKept, AreRanges, AreRangesBetween, ascending-filter}
use Rattle.acvp_store.proofs.Words.{ascending-map, ascending_weaker, cases_Bool, filter, filter-map, filter_all}
use Rattle.acvp_store.proofs.Words.{filter_none, filter_same, first_number, first_set, flag, HoldsAccounts}
use Rattle.acvp_store.proofs.Words.{HoldsSessions, Int, is_between, is_ge, is_int, is_le, is_number_between}
use Rattle.acvp_store.proofs.Words.{IsPermutation, IsPermutation-append, IsPermutation-filter, IsPermutation-refl}
use Rattle.acvp_store.proofs.Words.{IsPermutation-sym, IsPermutation-trans, IsRange, IsTable, IsTree, last_number}
use Rattle.acvp_store.proofs.Words.{last_set, map-append, nat_tests, or_null, Row, rowid, session_key, session_row}
use Rattle.acvp_store.proofs.Words.{SessionRow, Value, value_cmp, value_cmp-Int, whole}
use Rattle.acvp_store.proofs.RangeRows.{lower, keys_rise}

-- ---- two ranges beside one another

-- what passes p passes q or r, and r only behind what passes q
module _ (p q r : Row → Bool) (Sound : Row → Type 0) (first : (x : Row) → Sound x → q x ≡ true → p x ≡ true)
    (apart : (x : Row) → Sound x → q x ≡ true → r x ≡ false) (second : (x : Row) → Sound x → r x ≡ true → p x ≡ true)
    (other : (x : Row) → Sound x → q x ≡ false → r x ≡ false → p x ≡ false) (behind : (x y : Row) → Sound x → Sound y
    → r x ≡ true → value_cmp (rowid x) (rowid y) ≡ Less → q y ≡ false) where
  none_behind : (x : Row) (rows : List Row) → Sound x → r x ≡ true → AllByRecursion Sound rows
      → AllByRecursion (λ y. value_cmp (rowid x) (rowid y) ≡ Less) rows → filter q rows ≡ []
  none_behind x [] good is sound above = refl
  none_behind x (y ∷ rows) good is sound above =
      rw (behind x y good sound.0 is above.0) (none_behind x rows good is sound.1 above.1)

  pub parted : (rows : List Row) → AllByRecursion Sound rows → IsTable rows
      → filter p rows ≡ filter q rows ++ filter r rows
  parted [] sound rise = refl
  parted (x ∷ rows) sound rise =
      let more = parted rows sound.1 rise.1 in
      elim (cases_Bool (q x)) [
        | inl is ↦ rw (first x sound.0 is, is, apart x sound.0 is) (ap (λ l. x ∷ l) more)
        | inr isnt ↦ elim (cases_Bool (r x)) [
          | inl later ↦ let none = none_behind x rows sound.0 later sound.1 rise.0 in
              rw (second x sound.0 later, isnt, later, none)
              (ap (λ l. x ∷ l) (more ∙ ap (λ l. l ++ filter r rows) none))
          | inr neither ↦ rw (other x sound.0 isnt neither, isnt, neither) more
        ]
      ]

-- ---- whole numbers

abbrev between : ℕ → ℕ → Value → Bool
between f l v = is_ge (value_cmp v (whole f)) && is_le (value_cmp v (whole l))

pub between_whole : (f l n : ℕ) → between f l (Int (pos n)) ≡ is_number_between f l n
between_whole f l n = ap₂ (λ a b. is_ge a && is_le b) (value_cmp-Int (pos n) (pos f)) (value_cmp-Int (pos n) (pos l))
    ∙ grind (arith, nat_tests)

pub between_none : (f l n : ℕ) → between f l (Int (negsuc n)) ≡ false
between_none f l n = ap (λ a. is_ge a && is_le (value_cmp (Int (negsuc n)) (whole l)))
    (value_cmp-Int (negsuc n) (pos f))

abbrev IsWhole : Value → Type 0
IsWhole v = IsTrue (is_int v)

module _ (f m l : ℕ) (low : f ≤ m + 1) (high : m ≤ l) where
  first_in : (v : Value) → IsWhole v → between f m v ≡ true → between f l v ≡ true
  first_in (Int (pos n)) good is = let at = sym (between_whole f m n) ∙ is in
      between_whole f l n ∙ grind (arith, nat_tests, at, high)
  first_in (Int (negsuc n)) good is = absurd (let e : false ≡ true = sym (between_none f m n) ∙ is in cc)
  first_in _ good is = absurd (cc)

  apart_in : (v : Value) → IsWhole v → between f m v ≡ true → between (m + 1) l v ≡ false
  apart_in (Int (pos n)) good is = let at = sym (between_whole f m n) ∙ is in
      between_whole (m + 1) l n ∙ grind (arith, nat_tests, at)
  apart_in (Int (negsuc n)) good is = between_none (m + 1) l n
  apart_in _ good is = absurd (cc)

  second_in : (v : Value) → IsWhole v → between (m + 1) l v ≡ true → between f l v ≡ true
  second_in (Int (pos n)) good is = let at = sym (between_whole (m + 1) l n) ∙ is in
      between_whole f l n ∙ grind (arith, nat_tests, at, low)
  second_in (Int (negsuc n)) good is = absurd (let e : false ≡ true = sym (between_none (m + 1) l n) ∙ is in cc)
  second_in _ good is = absurd (cc)

  other_in : (v : Value) → IsWhole v → between f m v ≡ false → between (m + 1) l v ≡ false → between f l v ≡ false
  other_in (Int (pos n)) good a b = let c = sym (between_whole f m n) ∙ a in
      let d = sym (between_whole (m + 1) l n) ∙ b in between_whole f l n ∙ grind (arith, nat_tests, c, d)
  other_in (Int (negsuc n)) good a b = between_none f l n
  other_in _ good a b = absurd (cc)

  behind_in : (v w : Value) → IsWhole v → IsWhole w → between (m + 1) l v ≡ true → value_cmp v w ≡ Less
      → between f m w ≡ false
  behind_in (Int (negsuc n)) w good fine is less = absurd (let e : false ≡ true = sym (between_none (m + 1) l n) ∙ is in
      cc)
  behind_in (Int (pos n)) (Int (negsuc k)) good fine is less = between_none f m k
  behind_in (Int (pos n)) (Int (pos k)) good fine is less = let at = sym (between_whole (m + 1) l n) ∙ is in
      let up = lower n k less in between_whole f m k ∙ grind (arith, nat_tests, at, up)
  behind_in (Int (pos n)) _ good fine is less = absurd (cc)
  behind_in _ w good fine is less = absurd (cc)

  pub two_ranges : (rows : List Row) → IsTree rows → filter (is_between f l) rows ≡ filter (is_between f m) rows
      ++ filter (is_between (m + 1) l) rows
  two_ranges rows tree =
      parted (is_between f l) (is_between f m) (is_between (m + 1) l) (λ x. IsWhole (rowid x)) (λ x. first_in (rowid x))
      (λ x. apart_in (rowid x)) (λ x. second_in (rowid x)) (λ x. other_in (rowid x))
      (λ x y. behind_in (rowid x) (rowid y))
      rows tree.1 tree.0

none_between : (f l : ℕ) → l < f → (v : Value) → IsWhole v → between f l v ≡ false
none_between f l low (Int (pos n)) good = between_whole f l n ∙ grind (arith, nat_tests, low)
none_between f l low (Int (negsuc n)) good = between_none f l n
none_between f l low _ good = absurd (cc)

-- ---- ranges, joined, of rows that stand for lists in any way in which two parts of the rows stand for both lists

module _ {A : Type 0} (Holds : List Row → List A → Type 0) (key : A → ℕ) (nothing : Holds [] [])
    (both : (first second : List Row) (xs ys : List A) → Holds first xs → Holds second ys → IsTable (first ++ second)
    → Holds (first ++ second) (xs ++ ys)) where
  module _ (first_of last_of : ℕ → ℕ) (start : last_of zero < first_of 1) (low : (n : ℕ) → first_of 1 ≤ last_of n + 1)
      (high : (n : ℕ) → last_of n ≤ last_of (suc n)) (next : (n : ℕ) → last_of n + 1 ≡ first_of (suc n)) where
    abbrev within : ℕ → List Row → List Row
    within n = filter (is_between (first_of 1) (last_of n))

    ranges_joined : (rows : List Row) (lists : ℕ → List A) (n : ℕ) → IsTree rows
        → AreRangesBetween first_of last_of Holds key rows lists n → Holds (within n rows) (joined lists n)
    unfolding joined
    ranges_joined rows lists zero tree ranges =
        let none = filter_none (is_between (first_of 1) (last_of zero)) rows
        (all_weaker (λ (r : Row). IsTrue (is_int (rowid r))) (λ r. is_between (first_of 1) (last_of zero) r ≡ false)
        (λ r. none_between (first_of 1) (last_of zero) start (rowid r)) rows tree.1) in
        subst (λ rs. Holds rs []) (sym none) nothing
    ranges_joined rows lists (suc n) tree ranges =
        let earlier = ranges_joined rows lists n tree (λ u some few. ranges u some (omega arith)) in
        let last = (ranges (suc n) (omega arith) (omega arith)).holds in
        let parts = two_ranges (first_of 1) (last_of n) (last_of (suc n)) (low n) (high n) rows tree in
        let is : within (suc n) rows ≡ within n rows ++ filter (is_between (first_of (suc n)) (last_of (suc n))) rows =
        parts ∙ ap (λ k. within n rows ++ filter (is_between k (last_of (suc n))) rows) (next n) in
        let rise = ascending-filter (λ (x y : Row). value_cmp (rowid x) (rowid y) ≡ Less)
        (is_between (first_of 1) (last_of (suc n))) rows tree.0 in
        subst (λ rs. Holds rs (joined lists n ++ lists (suc n))) (sym is)
        (both _ _ (joined lists n) (lists (suc n)) earlier last (subst IsTable is rise))

    -- where no row lies outside, they stand for all rows
    pub joined_whole : (rows : List Row) (lists : ℕ → List A) (n : ℕ) → IsTree rows
        → AreRangesBetween first_of last_of Holds key rows lists n
        → AllByRecursion (λ row. is_between (first_of 1) (last_of n) row ≡ true) rows → Holds rows (joined lists n)
    joined_whole rows lists n tree ranges inside =
        subst (λ rs. Holds rs (joined lists n)) (filter_all (is_between (first_of 1) (last_of n)) rows inside)
        (ranges_joined rows lists n tree ranges)

  pub numbers_whole : (rows : List Row) (lists : ℕ → List A) (n : ℕ) → IsTree rows → AreRanges Holds key rows lists n
      → AllByRecursion (λ row. is_between (first_number 1) (last_number n) row ≡ true) rows
      → Holds rows (joined lists n)
  numbers_whole = joined_whole first_number last_number (omega arith) (λ n. omega arith) (λ n. omega arith)
      (λ n. omega arith)

  -- of vector sets
  pub sets_whole : (rows : List Row) (lists : ℕ → List A) (n : ℕ) → IsTree rows
      → AreRangesBetween first_set last_set Holds key rows lists n
      → AllByRecursion (λ row. is_between (first_set 1) (last_set n) row ≡ true) rows → Holds rows (joined lists n)
  sets_whole = joined_whole first_set last_set (omega arith) (λ n. omega arith) (λ n. omega arith) (λ n. omega arith)

-- ---- a list that rises is the one that is kept

module _ {A : Type 0} (key : A → ℕ) (stored : A → Row) (rowid_is : (a : A) → rowid (stored a) ≡ whole (key a)) where
  above : (a b : A) → key a < key b → value_cmp (rowid (stored a)) (rowid (stored b)) ≡ Less
  above a b low =
      subst (λ v. value_cmp v (rowid (stored b)) ≡ Less) (sym (rowid_is a))
      (subst (λ v. value_cmp (whole (key a)) v ≡ Less) (sym (rowid_is b)) (value_cmp-Int (pos (key a)) (pos (key b))
      ∙ grind (arith, nat_tests)))

  -- rows that are kept lie as those of a tree do
  pub kept_tree : (rows : List Row) (list : List A) → AreKept key stored rows list → IsTree rows
  kept_tree rows list kept =
      let rise = ascending-map (λ (x y : Row). value_cmp (rowid x) (rowid y) ≡ Less) stored kept.ordered
      (ascending_weaker (λ a b. key a < key b)
      (λ a b. value_cmp (rowid (stored a)) (rowid (stored b)) ≡ Less) above kept.ordered kept.rising) in
      let ints = all-map (λ (r : Row). IsTrue (is_int (rowid r))) stored kept.ordered
      (all_of (λ a. IsTrue (is_int (rowid (stored a))))
      (λ a. subst (λ v. IsTrue (is_int v)) (sym (rowid_is a)) refl) kept.ordered) in
      subst IsTree (sym kept.rows_are) (rise, ints)

  test_is : (f l : ℕ) (a : A) → is_between f l (stored a) ≡ is_number_between f l (key a)
  test_is f l a = ap (λ v. is_ge (value_cmp v (whole f)) && is_le (value_cmp v (whole l))) (rowid_is a)
      ∙ between_whole f l (key a)

  kept_range : (f l : ℕ) (rows : List Row) (list : List A) (kept : AreKept key stored rows list)
      → filter (is_between f l) rows ≡ map stored (filter (λ a. is_number_between f l (key a)) kept.ordered)
  kept_range f l rows list kept =
      ap (filter (is_between f l)) kept.rows_are ∙ filter-map (is_between f l) stored kept.ordered
      ∙ ap (map stored) (filter_same (λ a. is_between f l (stored a))
      (λ a. is_number_between f l (key a)) kept.ordered
      (all_of (λ a. is_between f l (stored a) ≡ is_number_between f l (key a)) (test_is f l) kept.ordered))

  -- ---- ranges, joined

  pub kept_nothing : AreKept key stored [] []
  kept_nothing = record { ordered = []; rows_are = refl; rising = tt; fits = tt; same = IsPermutation-refl [] }

  pub kept_both : (first second : List Row) (xs ys : List A) → AreKept key stored first xs
      → AreKept key stored second ys → IsTable (first ++ second) → AreKept key stored (first ++ second) (xs ++ ys)
  kept_both first second xs ys a b rise =
      let ordered = a.ordered ++ b.ordered in
      let is : first ++ second ≡ map stored ordered = ap₂ (λ p q. p ++ q) a.rows_are b.rows_are
      ∙ sym (map-append stored a.ordered b.ordered) in
      record {
        ordered = ordered;
        rows_are = is;
        rising = keys_rise key stored rowid_is ordered (subst IsTable is rise);
        fits = all-append (λ a. key a < 2 ^ 63) a.ordered b.ordered a.fits b.fits;
        same = IsPermutation-append a.ordered xs b.ordered ys a.same b.same;
      }

  -- where no row lies outside, they stand for all rows
  pub ranges_whole : (rows : List Row) (lists : ℕ → List A) (n : ℕ) → IsTree rows
      → AreRanges (AreKept key stored) key rows lists n
      → AllByRecursion (λ row. is_between (first_number 1) (last_number n) row ≡ true) rows
      → AreKept key stored rows (joined lists n)
  ranges_whole = numbers_whole (AreKept key stored) key kept_nothing kept_both

  -- ---- rows that stand for one list

  module _ (once : (a b : A) → stored a ≡ stored b → a ≡ b) where
    one_list : (xs ys : List A) → map stored xs ≡ map stored ys → xs ≡ ys
    one_list [] [] is = refl
    one_list (x ∷ xs) (y ∷ ys) is =
        let head : stored x ≡ stored y = cc in
        let rest : map stored xs ≡ map stored ys = cc in
        ap₂ (λ a l. a ∷ l) (once x y head) (one_list xs ys rest)
    one_list _ _ is = absurd (cc)

    -- what is read of a range is the part of any list that stands for the rows
    pub range_known : (f l : ℕ) (rows : List Row) (found list : List A) → AreKept key stored rows list
        → IsRange (AreKept key stored) key f l rows found
        → IsPermutation found (filter (λ a. is_number_between f l (key a)) list)
    range_known f l rows found list kept range =
        let same = one_list range.holds.ordered _ (sym range.holds.rows_are ∙ kept_range f l rows list kept) in
        IsPermutation-trans _ range.holds.ordered _ (IsPermutation-sym _ _ range.holds.same)
        (subst (λ xs. IsPermutation xs (filter (λ a. is_number_between f l (key a)) list)) (sym same)
        (IsPermutation-filter (λ a. is_number_between f l (key a)) kept.ordered list kept.same))

-- ---- sessions

pub flag_once : (a b : Bool) → flag a ≡ flag b → a ≡ b
flag_once true true is = refl
flag_once false false is = refl
flag_once true false is = absurd (cc)
flag_once false true is = absurd (cc)

pub option_once : (a b : Option ℕ) → or_null whole a ≡ or_null whole b → a ≡ b
option_once None None is = refl
option_once (Some m) (Some n) is = cc
option_once _ _ is = absurd (cc)

session_once : (a b : SessionRow) → session_row a ≡ session_row b → a ≡ b
session_once a b is =
    let number : a.number ≡ b.number = cc (is) in
    let account : a.account ≡ b.account = cc (is) in
    let sample = flag_once a.sample b.sample (cc (is)) in
    let created : a.created ≡ b.created = cc (is) in
    let cancelled = flag_once a.cancelled b.cancelled (cc (is)) in
    let last_request = option_once a.last_request b.last_request (cc (is)) in
    let live : a.live ≡ b.live = cc (is) in
    let passed : a.passed ≡ b.passed = cc (is) in
    λ i. record {
      number = number i;
      account = account i;
      sample = sample i;
      created = created i;
      cancelled =
          cancelled i;
      last_request = last_request i;
      live = live i;
      passed = passed i;
    }

pub sessions_tree : (rows : List Row) (list : List SessionRow) → HoldsSessions rows list → IsTree rows
sessions_tree = kept_tree session_key session_row (λ s. refl)

pub sessions_known : (f l : ℕ) (rows : List Row) (found list : List SessionRow) → HoldsSessions rows list
    → IsRange HoldsSessions session_key f l rows found
    → IsPermutation found (filter (λ s. is_number_between f l s.number) list)
sessions_known = range_known session_key session_row (λ s. refl) session_once

pub sessions_whole : (rows : List Row) (lists : ℕ → List SessionRow) (n : ℕ) → IsTree rows
    → AreRanges HoldsSessions session_key rows lists n
    → AllByRecursion (λ row. is_between (first_number 1) (last_number n) row ≡ true) rows
    → HoldsSessions rows (joined lists n)
sessions_whole = ranges_whole session_key session_row (λ s. refl)

-- ---- accounts

account_once : (a b : AccountRow) → account_row a ≡ account_row b → a ≡ b
account_once a b is =
    let number : a.number ≡ b.number = cc (is) in
    let secret : a.secret ≡ b.secret = cc (is) in
    let enabled = flag_once a.enabled b.enabled (cc (is)) in
    let last_step = option_once a.last_step b.last_step (cc (is)) in
    λ i. record { number = number i; secret = secret i; enabled = enabled i; last_step = last_step i }

pub accounts_tree : (rows : List Row) (list : List AccountRow) → HoldsAccounts rows list → IsTree rows
accounts_tree = kept_tree account_key account_row (λ s. refl)

pub accounts_known : (f l : ℕ) (rows : List Row) (found list : List AccountRow) → HoldsAccounts rows list
    → IsRange HoldsAccounts account_key f l rows found
    → IsPermutation found (filter (λ a. is_number_between f l a.number) list)
accounts_known = range_known account_key account_row (λ s. refl) account_once

-- where no row lies outside, the range is the whole
pub accounts_whole : (f l : ℕ) (rows : List Row) (found : List AccountRow)
    → IsRange HoldsAccounts account_key f l rows found → AllByRecursion (λ row. is_between f l row ≡ true) rows
    → HoldsAccounts rows found
accounts_whole f l rows found range inside =
    subst (λ rs. HoldsAccounts rs found) (filter_all (is_between f l) rows inside) range.holds

full_row : (a : AccountRow) → length (account_row a) ≡ 5
full_row a = refl

pub accounts_full : (rows : List Row) (list : List AccountRow) → HoldsAccounts rows list → AreFull 5 rows
accounts_full rows list kept =
    subst (AreFull 5) (sym kept.rows_are)
    (all-map (λ (r : Row). length r ≡ 5) account_row kept.ordered
    (all_of (λ a. length (account_row a) ≡ 5) full_row kept.ordered))
