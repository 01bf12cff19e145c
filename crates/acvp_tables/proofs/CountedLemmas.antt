-- Changes keep each session's counters right.
use Rattle.std.proofs.Common.{◌≡◌, ◌+◌, ◌≤◌, Bool, true, false, List, [], ◌∷◌, ◌++◌, length, filter, find, Some, None}
use Rattle.std.proofs.Common.{refl, ap, subst, arith}
use Rattle.std.specs.Prelude.{not}
use Rattle.std.specs.List.{list_all}
use Rattle.std.proofs.lemmas.Bool.Decides.{nat_tests}
use Rattle.std.proofs.lemmas.Option.{same_Some}
use Rattle.acvp_tables.specs.Counted.{one_if}
use Rattle.acvp_tables.specs.Changes.{changed}

-- ---- lists

-- what is found passes the test, and whatever all pass
pub found_passes : {R : Type 0} (p : R → Bool) (rows : List R) (x : R) → find p rows ≡ Some x → p x ≡ true
found_passes p [] x found = cc
found_passes p (r ∷ rows) x found = go (p r) refl (found_passes p rows x)
  where
    go : (b : Bool) → p r ≡ b → (find p rows ≡ Some x → p x ≡ true) → p x ≡ true
    go true e later = let same : r ≡ x = same_Some r x (rw e at found) in subst (λ z. p z ≡ true) same e
    go false e later = later (rw e at found)

pub found_all : {R : Type 0} (p q : R → Bool) (rows : List R) (x : R) → find p rows ≡ Some x → list_all q rows ≡ true
    → q x ≡ true
found_all p q [] x found all = cc
found_all p q (r ∷ rows) x found all =
    let here : q r ≡ true = grind (arith, nat_tests, all) in
    let rest : list_all q rows ≡ true = grind (arith, nat_tests, all) in
    go (p r) refl here (λ f. found_all p q rows x f rest)
  where
    go : (b : Bool) → p r ≡ b → q r ≡ true → (find p rows ≡ Some x → q x ≡ true) → q x ≡ true
    go true e here later = let same : r ≡ x = same_Some r x (rw e at found) in subst (λ z. q z ≡ true) same here
    go false e here later = later (rw e at found)

-- how many pass q, where the rows that pass t, of which there is none, are changed
none_changed : {R : Type 0} (q t : R → Bool) (f : R → R) (rows : List R) → length (filter t rows) ≤ 0
    → length (filter q (changed t f rows)) ≡ length (filter q rows)
none_changed q t f [] none = refl
none_changed q t f (r ∷ rows) none = grind (arith, nat_tests, none, none_changed q t f rows)

-- and where it is one
pub one_changed : {R : Type 0} (q t : R → Bool) (f : R → R) (rows : List R) (x : R) → length (filter t rows) ≤ 1
    → find t rows ≡ Some x
    → length (filter q (changed t f rows)) + one_if (q x) ≡ length (filter q rows) + one_if (q (f x))
one_changed q t f [] x once found = cc
one_changed q t f (r ∷ rows) x once found = go (t r) refl (one_changed q t f rows x)
  where
    go : (b : Bool) → t r ≡ b
        → (length (filter t rows) ≤ 1 → find t rows ≡ Some x
        → length (filter q (changed t f rows)) + one_if (q x) ≡ length (filter q rows) + one_if (q (f x)))
        → length (filter q (changed t f (r ∷ rows))) + one_if (q x) ≡ length (filter q (r ∷ rows)) + one_if (q (f x))
    go true e later =
        let same : r ≡ x = same_Some r x (rw e at found) in
        let none : length (filter t rows) ≤ 0 = grind (arith, nat_tests, e, once) in
        let rest : length (filter q (changed t f rows)) ≡ length (filter q rows) = none_changed q t f rows none in
        let one : q r ≡ q x = ap q same in
        let two : q (f r) ≡ q (f x) = ap (λ z. q (f z)) same in
        grind (arith, nat_tests, e, rest, one, two)
    go false e later =
        let few : length (filter t rows) ≤ 1 = grind (arith, nat_tests, e, once) in
        let rest : length (filter q (changed t f rows)) + one_if (q x) ≡ length (filter q rows) + one_if (q (f x)) =
        later few (rw e at found) in
        grind (arith, nat_tests, e, rest)

-- how many pass q, where what is changed passes as before
pub same_passed : {R : Type 0} (q t keyed : R → Bool) (f : R → R)
    → ((r : R) → keyed r ≡ true → t r ≡ true → q (f r) ≡ q r) → (rows : List R)
    → list_all keyed rows ≡ true → length (filter q (changed t f rows)) ≡ length (filter q rows)
same_passed q t keyed f keeps [] all = refl
same_passed q t keyed f keeps (r ∷ rows) all =
    grind (arith, nat_tests, all, keeps r, same_passed q t keyed f keeps rows)

-- all rows pass after a change
pub all_changed : {R : Type 0} (p after t : R → Bool) (f : R → R)
    → ((r : R) → p r ≡ true → t r ≡ true → after (f r) ≡ true)
    → ((r : R) → p r ≡ true → t r ≡ false → after r ≡ true) → (rows : List R) → list_all p rows ≡ true
    → list_all after (changed t f rows) ≡ true
all_changed p after t f here there [] all = refl
all_changed p after t f here there (r ∷ rows) all =
    grind (arith, nat_tests, all, here r, there r, all_changed p after t f here there rows)

-- all rows pass where each that passed does
pub all_weaker : {R : Type 0} (p q keyed : R → Bool) → ((r : R) → keyed r ≡ true → p r ≡ true → q r ≡ true)
    → (rows : List R)
    → list_all keyed rows ≡ true → list_all p rows ≡ true → list_all q rows ≡ true
all_weaker p q keyed gives [] keys all = refl
all_weaker p q keyed gives (r ∷ rows) keys all =
    grind (arith, nat_tests, all, keys, gives r, all_weaker p q keyed gives rows)

-- no row has the number that is looked for in vain
pub none_has : {R : Type 0} (p : R → Bool) (rows : List R) → find p rows ≡ None → list_all (λ r. not (p r)) rows ≡ true
none_has p [] none = refl
none_has p (r ∷ rows) none = go (p r) refl (none_has p rows)
  where
    go : (b : Bool) → p r ≡ b → (find p rows ≡ None → list_all (λ r. not (p r)) rows ≡ true)
        → list_all (λ r. not (p r)) (r ∷ rows) ≡ true
    go true e later = absurd (let f = rw e at none in cc)
    go false e later = rw e (later (rw e at none))

pub all_append : {R : Type 0} (p : R → Bool) (xs ys : List R) → list_all p xs ≡ true → list_all p ys ≡ true
    → list_all p (xs ++ ys) ≡ true
all_append p [] ys ax ay = ay
all_append p (x ∷ xs) ys ax ay = grind (arith, nat_tests, ax, ay, all_append p xs ys)
