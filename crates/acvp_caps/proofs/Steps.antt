-- A walk upwards through an ascending list, from each number to the next that passes a test.
use Rattle.std.proofs.Common.{◌≡◌, ℕ, zero, suc, ◌+◌, ◌<◌, ◌≤◌, List, length, get_or, Bool, true, false, nat_eq, Option}
use Rattle.std.proofs.Common.{None, Some, refl, sym, ◌∙◌, ap, arith}
use Rattle.std.specs.List.{list_any, slice_get}
use Rattle.std.specs.List.Sorted.{IsStrictlyIncreasing}
use Rattle.std.proofs.lemmas.Grind.{get_or_default_zero}
use Rattle.std.proofs.lemmas.List.Kept.{AllPairs-from_increasing}
use Rattle.std.proofs.lemmas.List.Folds.{Any-from_list_any, list_any-from_Any}
use Rattle.std.proofs.lemmas.Option.{slice_get-get_or, slice_get_past, slice_get_within, get_or_from_slice_get}
use Rattle.std.proofs.lemmas.Bool.Decides.{nat_tests}
use Rattle.acvp_caps.specs.Private.Walk.{IsLeastFrom, IsNextMember}

-- an ascending list of exactly the numbers that pass
pub record IsListOf (p : ℕ → Bool) (xs : List ℕ) : Type 0 where
  pub ascending : IsStrictlyIncreasing xs
  pub exact : (n : ℕ) → list_any (λ m. nat_eq m n) xs ≡ p n

same_number : (a b : ℕ) → nat_eq a b ≡ true → a ≡ b
same_number a b h = grind (arith, nat_tests)

itself : (a : ℕ) → nat_eq a a ≡ true
itself a = grind (arith, nat_tests)

-- each place's number passes
pub passes-at : (p : ℕ → Bool) (xs : List ℕ) → IsListOf p xs → (k : ℕ) → k < length xs → p (get_or xs k 0) ≡ true
passes-at p xs l k lt =
    let n = get_or xs k 0 in
    sym (l.exact n) ∙ list_any-from_Any (λ m. nat_eq m n) xs (k, n, lt, get_or_default_zero xs k n lt, itself n)

-- the place of a number that passes
pub record IsPlace (xs : List ℕ) (n : ℕ) : Type 0 where
  pub place : ℕ
  pub within : place < length xs
  pub number : get_or xs place 0 ≡ n

pub place-of : (p : ℕ → Bool) (xs : List ℕ) → IsListOf p xs → (n : ℕ) → p n ≡ true → IsPlace xs n
place-of p xs l n h =
    let any = Any-from_list_any (λ m. nat_eq m n) xs (l.exact n ∙ h) in
    let same : any.1 ≡ n = same_number any.1 n any.4 in
    record { place = any.0; within = any.2; number = sym (get_or_default_zero xs any.0 any.1 any.2) ∙ any.3 ∙ same }

-- numbers rise with their places
pub rises : (xs : List ℕ) → IsStrictlyIncreasing xs → (i j : ℕ) → i < j → j < length xs → get_or xs i 0 < get_or xs j 0
rises xs h i j less within = AllPairs-from_increasing xs h i j 0 less within

neither : (a b : ℕ) → (a < b → ⊥) → (b < a → ⊥) → a ≡ b
neither a b low high = omega (arith, low, high)

-- k splits the list at `start`
pub record IsSplitAt (xs : List ℕ) (start k : ℕ) : Type 0 where
  pub below : (j : ℕ) → j < k → j < length xs → get_or xs j 0 < start
  pub above : (j : ℕ) → k ≤ j → j < length xs → start ≤ get_or xs j 0

-- the number at k is the next one
same-next : (p : ℕ → Bool) (xs : List ℕ) → IsListOf p xs → (start k n : ℕ) → IsSplitAt xs start k
    → IsLeastFrom p start n → Some n ≡ slice_get xs k
same-next p xs l start k n split next =
    let at = place-of p xs l n next.passes in
    let not_below : at.place < k → ⊥ =
    λ less. omega (arith, split.below at.place less at.within, at.number, next.from_start) in
    let within : k < length xs = omega (arith, not_below, at.within) in
    let most : n ≤ get_or xs k 0 =
    next.below (get_or xs k 0) (split.above k (omega arith) within) (passes-at p xs l k within) in
    let not_above : k < at.place → ⊥ = λ less. omega (
      arith,
      rises xs l.ascending k at.place less at.within,
      at.number,
      most,
    ) in
    let same_place : at.place ≡ k = neither at.place k not_below not_above in
    let same : n ≡ get_or xs k 0 = sym at.number ∙ ap (λ j. get_or xs j 0) same_place in
    ap Some same ∙ sym (slice_get-get_or xs k 0 within)

no-next : (p : ℕ → Bool) (xs : List ℕ) → IsListOf p xs → (start k : ℕ) → IsSplitAt xs start k
    → ((m : ℕ) → start ≤ m → p m ≡ false) → None ≡ slice_get xs k
no-next p xs l start k split none =
    let past : k < length xs → ⊥ =
    λ within. absurd_bool (p (get_or xs k 0)) (passes-at p xs l k within)
    (none (get_or xs k 0) (split.above k (omega arith) within)) in
    sym (slice_get_past xs k (omega (arith, past)))
  where
    absurd_bool : (b : Bool) → b ≡ true → b ≡ false → ⊥
    absurd_bool b h e = cc

-- the next number that passes is the one at k
pub next-at : (p : ℕ → Bool) (xs : List ℕ) → IsListOf p xs → (start k : ℕ) (o : Option ℕ) → IsSplitAt xs start k
    → IsNextMember p start o → o ≡ slice_get xs k
next-at p xs l start k None split next = no-next p xs l start k split next
next-at p xs l start k (Some n) split next = same-next p xs l start k n split next

up_to : (xs : List ℕ) → IsStrictlyIncreasing xs → (k n : ℕ) → k < length xs → get_or xs k 0 ≡ n → (j : ℕ) → j ≤ k
    → (b : Bool) → nat_eq j k ≡ b → get_or xs j 0 < n + 1
up_to xs h k n within here j le true e = omega (arith, ap (λ i. get_or xs i 0) (same_number j k e))
up_to xs h k n within here j le false e =
    let less : j < k = grind (arith, nat_tests) in
    omega (arith, rises xs h j k less within)

-- the first step
pub next-first : (p : ℕ → Bool) (xs : List ℕ) → IsListOf p xs → (o : Option ℕ) → IsNextMember p 0 o → o ≡ slice_get xs 0
next-first p xs l o next =
    next-at p xs l 0 0 o (record {
      below = λ j less within. absurd (omega arith);
      above = λ j le within. omega arith;
    }) next

-- a step from the number at k
pub next-more : (p : ℕ → Bool) (xs : List ℕ) → IsListOf p xs → (k n : ℕ) (o : Option ℕ) → slice_get xs k ≡ Some n
    → IsNextMember p (n + 1) o → o ≡ slice_get xs (k + 1)
next-more p xs l k n o at next =
    let within : k < length xs = slice_get_within xs k n at in
    let here : get_or xs k 0 ≡ n = get_or_from_slice_get xs k n 0 at in
    next-at p xs l (n + 1) (k + 1) o (record {
      below = λ j less inside. up_to xs l.ascending k n within here j (omega arith) (nat_eq j k) refl;
      above = λ j le inside. omega (arith, rises xs l.ascending k j (omega arith) inside);
    }) next

-- a number is not below its place
pub place-below : (xs : List ℕ) → IsStrictlyIncreasing xs → (k : ℕ) → k < length xs → k ≤ get_or xs k 0
place-below xs h zero within = omega arith
place-below xs h (suc k) within =
    omega (arith, place-below xs h k (omega arith), rises xs h k (suc k) (omega arith) within)
