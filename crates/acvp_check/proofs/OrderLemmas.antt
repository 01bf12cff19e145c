-- Rows in the order of their keys are well numbered where they are in any order.
use Rattle.std.proofs.Common.{◌≡◌, ℕ, suc, ◌+◌, ◌≤◌, Bool, true, false, List, [], ◌∷◌, length, map, refl, sym, ap, ◌∙◌}
use Rattle.std.proofs.Common.{inl, inr, cond, arith}
use Rattle.std.specs.Prelude.{filter, find, not, ◌&&◌, ◌==◌, nat_lt, is_some}
use Rattle.std.specs.List.{list_all, list_any}
use Rattle.std.specs.List.Sorted.{IsPermutation}
use Rattle.std.proofs.lemmas.Bool.{cases_Bool}
use Rattle.std.proofs.lemmas.Bool.Decides.{nat_tests}
use Rattle.std.proofs.lemmas.List.Sorted.{sum_by-IsPermutation}
use Rattle.std.proofs.lemmas.List.Sums.{length-filter}
use Rattle.acvp_tables.specs.State.{IsNumbered}
use Rattle.acvp_tables.proofs.Numbers.{filter_both}
use Rattle.acvp_check.specs.Order.{rises}
use Rattle.acvp_check.proofs.Joins.{found_any, all_selected}
use Rattle.acvp_check.proofs.Holds.{both, joint}

-- ---- lists of which as many pass each test

abbrev pub Alike : {R : Type 0} → List R → List R → Type 0
Alike {R} xs ys = (p : R → Bool) → length (filter p xs) ≡ length (filter p ys)

pub permuted : {R : Type 0} (xs ys : List R) → IsPermutation xs ys → Alike xs ys
permuted xs ys same p = length-filter p xs ∙ sym (sum_by-IsPermutation (λ y. cond (p y) 1 0) xs ys same)
    ∙ sym (length-filter p ys)

all_none : {R : Type 0} (p : R → Bool) (xs : List R) → list_all p xs ≡ true → length (filter (λ r. not (p r)) xs) ≡ 0
all_none p [] e = refl
all_none p (r ∷ xs) e = grind (arith, nat_tests, e, all_none p xs)

none_all : {R : Type 0} (p : R → Bool) (xs : List R) → length (filter (λ r. not (p r)) xs) ≡ 0 → list_all p xs ≡ true
none_all p [] e = refl
none_all p (r ∷ xs) e = grind (arith, nat_tests, e, none_all p xs)

pub alike_all : {R : Type 0} (p : R → Bool) (xs ys : List R) → Alike xs ys → list_all p xs ≡ true → list_all p ys ≡ true
alike_all p xs ys alike e = none_all p ys (sym (alike (λ r. not (p r))) ∙ all_none p xs e)

any_counted : {R : Type 0} (p : R → Bool) (xs : List R) → list_any p xs ≡ nat_lt 0 (length (filter p xs))
any_counted p [] = grind (arith, nat_tests)
any_counted p (r ∷ xs) = grind (arith, nat_tests, any_counted p xs)

pub alike_any : {R : Type 0} (p : R → Bool) (xs ys : List R) → Alike xs ys → list_any p xs ≡ list_any p ys
alike_any p xs ys alike = any_counted p xs ∙ ap (λ n. nat_lt 0 n) (alike p) ∙ sym (any_counted p ys)

pub alike_found : {R : Type 0} (p : R → Bool) (xs ys : List R) → Alike xs ys → is_some (find p xs) ≡ is_some (find p ys)
alike_found p xs ys alike = found_any p xs ∙ alike_any p xs ys alike ∙ sym (found_any p ys)

pub alike_length : {R : Type 0} (xs ys : List R) → Alike xs ys → length xs ≡ length ys
alike_length xs ys alike = sym (ap length (all_selected xs)) ∙ alike (λ _. true) ∙ ap length (all_selected ys)

pub alike_filter : {R : Type 0} (q : R → Bool) (xs ys : List R) → Alike xs ys → Alike (filter q xs) (filter q ys)
alike_filter q xs ys alike p = sym (ap length (filter_both p q xs)) ∙ alike (λ r. q r && p r)
    ∙ ap length (filter_both p q ys)

filtered_map : {R Q : Type 0} (h : R → Q) (p : Q → Bool) (xs : List R)
    → length (filter p (map h xs)) ≡ length (filter (λ r. p (h r)) xs)
filtered_map h p [] = refl
filtered_map h p (r ∷ xs) = grind (arith, nat_tests, filtered_map h p xs)

pub alike_map : {R Q : Type 0} (h : R → Q) (xs ys : List R) → Alike xs ys → Alike (map h xs) (map h ys)
alike_map h xs ys alike p = filtered_map h p xs ∙ alike (λ r. p (h r)) ∙ sym (filtered_map h p ys)

-- ---- rising numbers

pub rises_filter : {R : Type 0} (number : R → ℕ) (p : R → Bool) (xs : List R) → rises number xs ≡ true
    → rises number (filter p xs) ≡ true
rises_filter number p [] e = refl
rises_filter number p (r ∷ xs) e =
    let two = both (list_all (λ later. nat_lt (number r) (number later)) xs) (rises number xs) e in
    go (p r) refl (rises_filter number p xs two.1) (later xs two.0)
  where
    later : (ys : List _) → list_all (λ later. nat_lt (number r) (number later)) ys ≡ true
        → list_all (λ later. nat_lt (number r) (number later)) (filter p ys) ≡ true
    later [] e = refl
    later (y ∷ ys) e = grind (arith, nat_tests, e, later ys)

    go : (b : Bool) → p r ≡ b → rises number (filter p xs) ≡ true
        → list_all (λ later. nat_lt (number r) (number later)) (filter p xs) ≡ true
        → rises number (filter p (r ∷ xs)) ≡ true
    go true on rest all = rw on
        (joint (list_all (λ later. nat_lt (number r) (number later)) (filter p xs))
        (rises number (filter p xs)) all rest)
    go false off rest all = rw off rest

pub rises_map : {R Q : Type 0} (h : R → Q) (number : Q → ℕ) (xs : List R) → rises (λ r. number (h r)) xs ≡ true
    → rises number (map h xs) ≡ true
rises_map h number [] e = refl
rises_map h number (r ∷ xs) e =
    let two = both (list_all (λ later. nat_lt (number (h r)) (number (h later))) xs) (rises (λ r. number (h r)) xs) e in
    joint (list_all (λ later. nat_lt (number (h r)) (number later)) (map h xs)) (rises number (map h xs))
    (later xs two.0) (rises_map h number xs two.1)
  where
    later : (ys : List _) → list_all (λ later. nat_lt (number (h r)) (number (h later))) ys ≡ true
        → list_all (λ later. nat_lt (number (h r)) (number later)) (map h ys) ≡ true
    later [] e = refl
    later (y ∷ ys) e = grind (arith, nat_tests, e, later ys)

pub filter_swap : {R : Type 0} (p q : R → Bool) (xs : List R) → filter p (filter q xs) ≡ filter q (filter p xs)
filter_swap p q [] = refl
filter_swap p q (r ∷ xs) = grind (arith, nat_tests, filter_swap p q xs)

-- ---- numbered in any order, and rising

none_low : {R : Type 0} (number : R → ℕ) (j i : ℕ) (xs : List R) → j ≤ i → IsNumbered number i xs
    → length (filter (λ r. nat_lt (number r) j) xs) ≡ 0
none_low number j i [] low e = refl
none_low number j i (r ∷ xs) low e =
    let here : number r ≡ i = cc (e) in
    let rest : IsNumbered number (i + 1) xs = cc (e) in
    let off : nat_lt (number r) j ≡ false = grind (arith, nat_tests, here, low) in
    let low' : j ≤ i + 1 = omega arith in
    rw off (none_low number j (i + 1) xs low' rest)

none_past : {R : Type 0} (number : R → ℕ) (i k : ℕ) (ys : List R) → i ≤ k
    → list_all (λ later. nat_lt k (number later)) ys ≡ true → length (filter (λ r. number r == i) ys) ≡ 0
none_past number i k [] low all = refl
none_past number i k (y ∷ ys) low all =
    let two = both (nat_lt k (number y)) (list_all (λ later. nat_lt k (number later)) ys) all in
    let off : (number y == i) ≡ false = grind (arith, nat_tests, two.0, low) in
    rw off (none_past number i k ys low two.1)

-- as many have each kind of number
abbrev pub NumbersAlike : {R : Type 0} → (R → ℕ) → List R → List R → Type 0
NumbersAlike {R} number xs ys = (p : ℕ → Bool)
    → length (filter (λ (r : R). p (number r)) xs) ≡ length (filter (λ (r : R). p (number r)) ys)

first_is : {R : Type 0} (number : R → ℕ) (i : ℕ) (r : R) (xs : List R) (y : R) (ys : List R)
    → NumbersAlike number (r ∷ xs) (y ∷ ys) → IsNumbered number i (r ∷ xs)
    → list_all (λ later. nat_lt (number y) (number later)) ys ≡ true → number y ≡ i
first_is number i r xs y ys alike e later = elim (cases_Bool (nat_lt (number y) i)) [
  | inl low ↦
      let none : length (filter (λ r. nat_lt (number r) i) (y ∷ ys)) ≡ 0 = sym (alike (λ n. nat_lt n i))
      ∙ none_low number i i (r ∷ xs) (omega arith) e in
      let some : length (filter (λ r. nat_lt (number r) i) (y ∷ ys))
      ≡ suc (length (filter (λ r. nat_lt (number r) i) ys)) = rw low refl in
      absurd (omega (arith, none, some))
  | inr high ↦ elim (cases_Bool (number y == i)) [
    | inl same ↦ grind (arith, nat_tests, same)
    | inr other ↦
        let here : number r ≡ i = cc (e) in
        let on : (number r == i) ≡ true = grind (arith, nat_tests, here) in
        let low : i ≤ number y = grind (arith, nat_tests, high) in
        let some : length (filter (λ r. number r == i) (r ∷ xs)) ≡ suc (length (filter (λ r. number r == i) xs)) =
        rw on refl in
        let none : length (filter (λ r. number r == i) (y ∷ ys)) ≡ 0 =
        rw other (none_past number i (number y) ys low later) in
        absurd (omega (arith, some, none, alike (λ n. n == i)))
  ]
]

tails_alike : {R : Type 0} (number : R → ℕ) (r : R) (xs : List R) (y : R) (ys : List R) → number r ≡ number y
    → NumbersAlike number (r ∷ xs) (y ∷ ys) → NumbersAlike number xs ys
tails_alike number r xs y ys same alike p = go (p (number y)) refl (alike p)
  where
    go : (b : Bool) → p (number y) ≡ b
        → length (filter (λ r. p (number r)) (r ∷ xs)) ≡ length (filter (λ r. p (number r)) (y ∷ ys))
        → length (filter (λ r. p (number r)) xs) ≡ length (filter (λ r. p (number r)) ys)
    go true is e =
        let first : p (number r) ≡ true = ap p same ∙ is in
        let left : length (filter (λ r. p (number r)) (r ∷ xs)) ≡ suc (length (filter (λ r. p (number r)) xs)) =
        rw first refl in
        let right : length (filter (λ r. p (number r)) (y ∷ ys)) ≡ suc (length (filter (λ r. p (number r)) ys)) =
        rw is refl in
        omega (arith, left, right, e)
    go false is e =
        let first : p (number r) ≡ false = ap p same ∙ is in
        let left : length (filter (λ r. p (number r)) (r ∷ xs)) ≡ length (filter (λ r. p (number r)) xs) =
        rw first refl in
        let right : length (filter (λ r. p (number r)) (y ∷ ys)) ≡ length (filter (λ r. p (number r)) ys) =
        rw is refl in
        sym left ∙ e ∙ right

pub in_order : {R : Type 0} (number : R → ℕ) (i : ℕ) (xs ys : List R) → NumbersAlike number xs ys
    → IsNumbered number i xs → rises number ys ≡ true → IsNumbered number i ys
in_order number i [] [] alike e up = refl
in_order number i [] (y ∷ ys) alike e up = let more = alike (λ _. true) in absurd (omega (arith, more))
in_order number i (r ∷ xs) [] alike e up = let more = alike (λ _. true) in absurd (omega (arith, more))
in_order number i (r ∷ xs) (y ∷ ys) alike e up =
    let two = both (list_all (λ later. nat_lt (number y) (number later)) ys) (rises number ys) up in
    let here : number r ≡ i = cc (e) in
    let rest : IsNumbered number (i + 1) xs = cc (e) in
    let first = first_is number i r xs y ys alike e two.0 in
    let tails = tails_alike number r xs y ys (here ∙ sym first) alike in
    rw first (ap (λ more. i ∷ more) (in_order number (i + 1) xs ys tails rest two.1))
