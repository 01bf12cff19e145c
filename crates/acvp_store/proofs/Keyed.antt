-- Rows of a tree by the numbers that are their keys.
use Rattle.std.proofs.Common.{◌≡◌, ◌⊎◌, inl, inr, ℕ, ◌<◌, ◌≤◌, ◌^◌, pos, List, [], ◌∷◌, ◌++◌, map, Bool, true, false}
use Rattle.std.proofs.Common.{not, slice_get, refl, sym, ap, subst, ◌∙◌, arith}
use Rattle.std.specs.Prelude.{◌==◌, if◌then◌else◌}
use Rattle.acvp_store.proofs.Words.{AllByRecursion, AreKept, cases_Bool, filter, find, has_rowid, is_eq, IsAscending}
use Rattle.acvp_store.proofs.Words.{IsPermutation, IsPermutation-append_comm, IsPermutation-append_left}
use Rattle.acvp_store.proofs.Words.{IsPermutation-cons, IsPermutation-filter, IsPermutation-map, IsPermutation-refl}
use Rattle.acvp_store.proofs.Words.{IsPermutation-sym, IsPermutation-to_front, IsPermutation-trans, length_permutation}
use Rattle.acvp_store.proofs.Words.{list_any, match_ordering, nat_lt, nat_tests, one_permutation, put_row, Row, rowid}
use Rattle.acvp_store.proofs.Words.{value_cmp, value_cmp-Int, whole, without_rowid}

pub same_whole : (m n : ℕ) → is_eq (value_cmp (whole m) (whole n)) ≡ (m == n)
same_whole m n = ap is_eq (value_cmp-Int (pos m) (pos n)) ∙ grind (arith, nat_tests)

pub eq_of : (m n : ℕ) → (m == n) ≡ true → m ≡ n
eq_of m n h = grind (arith, nat_tests)

pub order_whole : {X : Type 0} (m n : ℕ) (x y z : X)
    → match_ordering (value_cmp (whole m) (whole n)) x y z ≡ (if nat_lt m n then x else (if m == n then y else z))
order_whole m n x y z = ap (λ o. match_ordering o x y z) (value_cmp-Int (pos m) (pos n)) ∙ grind (arith, nat_tests)

pub none_left : {X : Type 0} (ys : List X) → IsPermutation [] ys → ys ≡ []
none_left [] h = refl
none_left (y ∷ ys) h = absurd (omega (arith, length_permutation _ _ h))

pub small_or_large : (n : ℕ) → (n < 2 ^ 63) ⊎ (2 ^ 63 ≤ n)
small_or_large n = search arith

pub none_passes : {A : Type 0} (xs : List A) → filter (λ x. false) xs ≡ []
none_passes [] = refl
none_passes (x ∷ xs) = none_passes xs

module _ {A : Type 0} (key : A → ℕ) where
  abbrev pub keyed : ℕ → List A → List A
  keyed n all = filter (λ a. key a == n) all

  abbrev pub Rise : List A → Type 0
  Rise all = IsAscending (λ a b. key a < key b) all

  -- the member is in its place
  abbrev pub with_row : A → List A → List A
  with_row new [] = new ∷ []
  with_row new (a ∷ all) = if nat_lt (key a) (key new) then a ∷ with_row new all else new ∷ a ∷ all

  abbrev pub changing : ℕ → (A → A) → A → A
  changing n f a = if key a == n then f a else a

  pub none_beyond : (n : ℕ) (all : List A) → AllByRecursion (λ y. n < key y) all → keyed n all ≡ []
  none_beyond n [] h = refl
  none_beyond n (x ∷ all) h = let more = none_beyond n all h.1 in grind (arith, nat_tests, more, h.0)

  all_beyond : (n : ℕ) (all : List A) → AllByRecursion (λ y. n < key y) all → filter (λ a. not (key a == n)) all ≡ all
  all_beyond n [] h = refl
  all_beyond n (x ∷ all) h = let more = all_beyond n all h.1 in grind (arith, nat_tests, more, h.0)

  pub none_changing : (n : ℕ) (f : A → A) (all : List A) → keyed n all ≡ [] → map (changing n f) all ≡ all
  none_changing n f [] h = refl
  none_changing n f (x ∷ all) h = elim (cases_Bool (key x == n)) [
    | inl same ↦ absurd (let e = rw same at h in cc)
    | inr apart ↦ let more = none_changing n f all (rw apart at h) in grind (arith, apart, more)
  ]

  first_beyond : (new : A) (all : List A) → AllByRecursion (λ y. key new < key y) all → with_row new all ≡ new ∷ all
  first_beyond new [] h = refl
  first_beyond new (x ∷ all) h = grind (arith, nat_tests, h.0)

  -- one has the number, and each is above
  above : (m n : ℕ) (all : List A) (a : A) → AllByRecursion (λ y. m < key y) all → keyed n all ≡ a ∷ [] → m < n
  above m n [] a h one = absurd (cc)
  above m n (x ∷ all) a h one = elim (cases_Bool (key x == n)) [
    | inl same ↦ let e = eq_of (key x) n same in let k = h.0 in omega arith
    | inr apart ↦ above m n all a h.1 (rw apart at one)
  ]

  pub few_keyed : (n : ℕ) (all : List A) → Rise all → (keyed n all ≡ [])
      ⊎ ((a : A) × (keyed n all ≡ a ∷ []) × (key a ≡ n))
  few_keyed n [] rise = inl refl
  few_keyed n (x ∷ all) rise = elim (cases_Bool (key x == n)) [
    | inl same ↦
        let e = eq_of (key x) n same in
        let none = none_beyond n all (subst (λ k. AllByRecursion (λ y. k < key y) all) e rise.0) in
        inr (x, rw (same, none) refl, e)
    | inr apart ↦ rw apart (few_keyed n all rise.1)
  ]

  keyed_is : (n : ℕ) (all : List A) (a : A) → keyed n all ≡ a ∷ [] → key a ≡ n
  keyed_is n [] a one = absurd (cc)
  keyed_is n (x ∷ all) a one = elim (cases_Bool (key x == n)) [
    | inl same ↦ let it : x ≡ a = let o = rw same at one in cc in ap key (sym it) ∙ eq_of (key x) n same
    | inr apart ↦ keyed_is n all a (rw apart at one)
  ]

  pub gone_keyed : (n : ℕ) (all : List A) → keyed n (filter (λ a. not (key a == n)) all) ≡ []
  gone_keyed n [] = refl
  gone_keyed n (x ∷ all) = elim (cases_Bool (key x == n)) [
    | inl same ↦ rw same (gone_keyed n all)
    | inr apart ↦ rw (apart, apart) (gone_keyed n all)
  ]

  -- the changed member in its place, among the others
  module _ (n : ℕ) (f : A → A) (keeps : (a : A) → key (f a) ≡ key a) where
    pub rechanged : (all : List A) (a : A) → Rise all → keyed n all ≡ a ∷ []
        → with_row (f a) (filter (λ a. not (key a == n)) all) ≡ map (changing n f) all
    rechanged [] a rise one = absurd (cc)
    rechanged (x ∷ all) a rise one = elim (cases_Bool (key x == n)) [
      | inl same ↦
          let e = eq_of (key x) n same in
          let up = subst (λ k. AllByRecursion (λ y. k < key y) all) e rise.0 in
          let none = none_beyond n all up in
          let it : x ≡ a = let o = rw same at one in cc in
          let rest = all_beyond n all up in
          let still = none_changing n f all none in
          let low : key (f a) ≡ key x = keeps a ∙ ap key (sym it) in
          let head : with_row (f a) all ≡ f a ∷ all =
          first_beyond (f a) all (subst (λ k. AllByRecursion (λ y. k < key y) all) (sym low) rise.0) in
          grind (arith, nat_tests, same, it, rest, still, head)
      | inr apart ↦
          let low = above (key x) n all a rise.0 (rw apart at one) in
          let more = rechanged all a rise.1 (rw apart at one) in
          let its : key (f a) ≡ n = keeps a ∙ keyed_is n all a (rw apart at one) in
          grind (arith, nat_tests, apart, low, more, its)
    ]

    key_changing : (x : A) → key (changing n f x) ≡ key x
    key_changing x = go (key x == n)
      where
        go : (b : Bool) → key (if b then f x else x) ≡ key x
        go true = keeps x
        go false = refl

    pub rise_changed : (all : List A) → Rise all → Rise (map (changing n f) all)
    rise_changed [] rise = tt
    rise_changed (x ∷ all) rise = (below all rise.0, rise_changed all rise.1)
      where
        below : (all : List A) → AllByRecursion (λ y. key x < key y) all
            → AllByRecursion (λ y. key (changing n f x) < key y) (map (changing n f) all)
        below [] h = tt
        below (y ∷ all) h = (
          let a = key_changing x in let b = key_changing y in let low = h.0 in
              omega arith,
          below all h.1,
        )

    pub fits_changed : (all : List A) → AllByRecursion (λ a. key a < 2 ^ 63) all
        → AllByRecursion (λ a. key a < 2 ^ 63) (map (changing n f) all)
    fits_changed [] h = tt
    fits_changed (x ∷ all) h = (subst (λ k. k < 2 ^ 63) (sym (key_changing x)) h.0, fits_changed all h.1)

  -- a number that doesn't fit is that of none
  pub none_fits : (n : ℕ) (all : List A) → 2 ^ 63 ≤ n → AllByRecursion (λ a. key a < 2 ^ 63) all → keyed n all ≡ []
  none_fits n [] high h = refl
  none_fits n (x ∷ all) high h = let more = none_fits n all high h.1 in let low = h.0 in
      grind (arith, nat_tests, more, low, high)

  all_with : (P : A → Type 0) (new : A) (all : List A) → P new → AllByRecursion P all
      → AllByRecursion P (with_row new all)
  all_with P new [] p h = (p, tt)
  all_with P new (x ∷ all) p h = go (all_with P new all p h.1) (nat_lt (key x) (key new))
    where
      go : AllByRecursion P (with_row new all) → (b : Bool)
          → AllByRecursion P (if b then x ∷ with_row new all else new ∷ x ∷ all)
      go more true = (h.0, more)
      go more false = (p, h)

  all_above : (m n : ℕ) (all : List A) → m < n → AllByRecursion (λ y. n < key y) all
      → AllByRecursion (λ y. m < key y) all
  all_above m n [] low h = tt
  all_above m n (y ∷ all) low h = (let k = h.0 in omega arith, all_above m n all low h.1)

  apart_from : (new x : A) (all : List A) → keyed (key new) (x ∷ all) ≡ [] → (key x == key new) ≡ false
  apart_from new x all free =
      elim (cases_Bool (key x == key new)) [ inl same ↦ absurd (let e = rw same at free in cc) | inr apart ↦ apart ]

  pub rise_with : (new : A) (all : List A) → keyed (key new) all ≡ [] → Rise all → Rise (with_row new all)
  rise_with new [] free rise = (tt, tt)
  rise_with new (x ∷ all) free rise =
      let apart = apart_from new x all free in
      let more = rise_with new all (rw apart at free) rise.1 in
      elim (cases_Bool (nat_lt (key x) (key new))) [
        | inl low ↦ let below : key x < key new = grind (arith, nat_tests, low) in
            rw low (all_with (λ y. key x < key y) new all below rise.0, more)
        | inr high ↦ let over : key new < key x = grind (arith, nat_tests, high, apart) in
            rw high ((over, all_above (key new) (key x) all over rise.0), rise)
      ]

  -- ---- in any order

  with_shuffles : (new : A) (all : List A) → IsPermutation (new ∷ all) (with_row new all)
  with_shuffles new [] = IsPermutation-refl _
  with_shuffles new (x ∷ all) = elim (cases_Bool (nat_lt (key x) (key new))) [
    | inl low ↦ rw low (IsPermutation-trans _ (x ∷ new ∷ all) _
        (IsPermutation-append_left all (new ∷ x ∷ []) (x ∷ new ∷ []) (IsPermutation-append_comm (new ∷ []) (x ∷ [])))
        (IsPermutation-cons x _ _ (with_shuffles new all)))
    | inr high ↦ rw high (IsPermutation-refl _)
  ]

  -- the member in its place, or behind all others
  pub same_with : (new : A) (ordered list : List A) → IsPermutation ordered list
      → IsPermutation (with_row new ordered) (list ++ new ∷ [])
  same_with new ordered list same =
      IsPermutation-trans _ (new ∷ ordered) _ (IsPermutation-sym _ _ (with_shuffles new ordered))
      (IsPermutation-trans _ (new ∷ list) _ (IsPermutation-cons new _ _ same)
      (IsPermutation-sym _ _ (IsPermutation-to_front list new)))

  -- what is found of a list is the one row that has the number
  pub find_is : (n : ℕ) (list : List A) → find (λ a. key a == n) list ≡ slice_get (keyed n list) 0
  find_is n [] = refl
  find_is n (a ∷ list) = elim (cases_Bool (key a == n)) [
    | inl same ↦ rw same refl
    | inr apart ↦ rw apart (find_is n list)
  ]

  pub keyed_same : (n : ℕ) (ordered list : List A) → Rise ordered → IsPermutation ordered list
      → keyed n ordered ≡ keyed n list
  keyed_same n ordered list rise same =
      let its = IsPermutation-filter (λ a. key a == n) ordered list same in
      elim (few_keyed n ordered rise) [
        | inl none ↦ none ∙ sym (none_left (keyed n list) (rw none at its))
        | inr one ↦ one.1 ∙ sym (one_permutation one.0 (keyed n list) (rw one.1 at its))
      ]

-- ---- rows that stand for members

module _ {A : Type 0} (key : A → ℕ) (stored : A → Row) (rowid_is : (a : A) → rowid (stored a) ≡ whole (key a)) where
  has_key : (n : ℕ) (a : A) → has_rowid (pos n) (stored a) ≡ (key a == n)
  has_key n a = ap (λ v. is_eq (value_cmp v (whole n))) (rowid_is a) ∙ same_whole (key a) n

  pub without_key : (n : ℕ) (all : List A)
      → without_rowid (pos n) (map stored all) ≡ map stored (filter (λ a. not (key a == n)) all)
  without_key n [] = refl
  without_key n (a ∷ all) = grind (arith, has_key n a, without_key n all)

  order_rows : {X : Type 0} (a b : A) (x y z : X)
      → match_ordering (value_cmp (rowid (stored a)) (rowid (stored b))) x y z
      ≡ (if nat_lt (key a) (key b) then x else (if key a == key b then y else z))
  order_rows a b x y z = rw (rowid_is a, rowid_is b) (order_whole (key a) (key b) x y z)

  -- a row with a number that isn't there
  pub put_new : (new : A) (all : List A) → keyed key (key new) all ≡ []
      → put_row (stored new) (map stored all) ≡ map stored (with_row key new all)
  put_new new [] none = refl
  put_new new (a ∷ all) none =
      let later : (key a == key new) ≡ false → keyed key (key new) all ≡ [] = λ apart. rw apart at none in
      order_rows a new _ _ _ ∙ elim (cases_Bool (key a == key new)) [
        | inl same ↦ absurd (let e = rw same at none in cc)
        | inr apart ↦ let more = put_new new all (later apart) in grind (arith, nat_tests, apart, more)
      ]

  pub free_key : (n : ℕ) (all : List A) → list_any (λ r. is_eq (value_cmp (rowid r) (whole n))) (map stored all) ≡ false
      → keyed key n all ≡ []
  free_key n [] h = refl
  free_key n (x ∷ all) h = elim (cases_Bool (key x == n)) [
    | inl same ↦ absurd (let e = rw (has_key n x, same) at h in cc)
    | inr apart ↦ rw apart (free_key n all (rw (has_key n x, apart) at h))
  ]

  -- ---- what a table keeps

  pub kept_with : (rows next : List Row) (list : List A) (new : A) (kept : AreKept key stored rows list)
      → keyed key (key new) kept.ordered ≡ [] → next ≡ map stored (with_row key new kept.ordered) → key new < 2 ^ 63
      → AreKept key stored next (list ++ new ∷ [])
  kept_with rows next list new kept free is low = record {
    ordered = with_row key new kept.ordered;
    rows_are = is;
    rising = rise_with key new kept.ordered free kept.rising;
    fits = all_with key (λ a. key a < 2 ^ 63) new kept.ordered low kept.fits;
    same = same_with key new kept.ordered list kept.same;
  }

  pub kept_changed : (n : ℕ) (f : A → A) → ((a : A) → key (f a) ≡ key a)
      → (rows next : List Row) (list : List A) (kept : AreKept key stored rows list)
      → next ≡ map stored (map (changing key n f) kept.ordered) → AreKept key stored next (map (changing key n f) list)
  kept_changed n f keeps rows next list kept is = record {
    ordered = map (changing key n f) kept.ordered;
    rows_are = is;
    rising = rise_changed key n f keeps kept.ordered kept.rising;
    fits = fits_changed key n f keeps kept.ordered kept.fits;
    same = IsPermutation-map (changing key n f) kept.ordered list kept.same;
  }
