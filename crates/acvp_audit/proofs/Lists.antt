-- Lists of rows, the accounts that their numbers begin with, and lists joined.
use Rattle.std.proofs.Common.{◌≡◌, ℕ, zero, suc, ◌+◌, ◌*◌, ◌/◌, ◌<◌, ◌≤◌, Bool, true, false, List, [], ◌∷◌, ◌++◌}
use Rattle.std.proofs.Common.{length, map, Option, Some, refl, sym, ap, ap₂, subst, ◌∙◌, inl, inr, arith}
use Rattle.std.specs.Prelude.{filter, ◌==◌, nat_lt}
use Rattle.std.specs.List.{list_all, AllByRecursion}
use Rattle.std.proofs.lemmas.Bool.{cases_Bool}
use Rattle.std.proofs.lemmas.Bool.Decides.{nat_tests}
use Rattle.std.proofs.lemmas.List.Folds.{list_all-append}
use Rattle.sqlite_trees.specs.Tree.{IsAscending}
use Rattle.acvp_tables.specs.State.{is_account_number, owner_of}
use Rattle.acvp_check.specs.Order.{rises}
use Rattle.acvp_check.proofs.Holds.{both, joint}
use Rattle.acvp_store.specs.Ranges.{is_number_between, first_number, last_number, first_set, last_set, joined}
use Rattle.acvp_audit.specs.Private.Climbs.{is_above, climbs}

-- ---- whose a number is

pub same_bool : (a b : Bool) → (a ≡ true → b ≡ true) → (b ≡ true → a ≡ true) → a ≡ b
same_bool true b to from = sym (to refl)
same_bool false true to from = from refl
same_bool false false to from = refl

pub of_account : (u n : ℕ) → is_number_between (first_number u) (last_number u) n ≡ (owner_of n == u)
of_account u n = same_bool _ _ to from
  where
    to : is_number_between (first_number u) (last_number u) n ≡ true → (owner_of n == u) ≡ true
    to e =
        let low : u * 1000000 ≤ n = grind (arith, nat_tests, e) in
        let high : n ≤ u * 1000000 + 999999 = grind (arith, nat_tests, e) in
        let is : n / 1000000 ≡ u = omega (arith, low, high) in
        grind (arith, nat_tests, is)

    from : (owner_of n == u) ≡ true → is_number_between (first_number u) (last_number u) n ≡ true
    from e =
        let is : n / 1000000 ≡ u = grind (arith, nat_tests, e) in
        let low : u * 1000000 ≤ n = omega (arith, is) in
        let high : n ≤ u * 1000000 + 999999 = omega (arith, is) in
        grind (arith, nat_tests, low, high)

pub set_of_account : (u n : ℕ) → is_number_between (first_set u) (last_set u) n ≡ (owner_of (n / 100) == u)
set_of_account u n = same_bool _ _ to from
  where
    to : is_number_between (first_set u) (last_set u) n ≡ true → (owner_of (n / 100) == u) ≡ true
    to e =
        let low : u * 100000000 ≤ n = grind (arith, nat_tests, e) in
        let high : n ≤ u * 100000000 + 99999999 = grind (arith, nat_tests, e) in
        let is : (n / 100) / 1000000 ≡ u = omega (arith, low, high) in
        grind (arith, nat_tests, is)

    from : (owner_of (n / 100) == u) ≡ true → is_number_between (first_set u) (last_set u) n ≡ true
    from e =
        let is : (n / 100) / 1000000 ≡ u = grind (arith, nat_tests, e) in
        let low : u * 100000000 ≤ n = omega (arith, is) in
        let high : n ≤ u * 100000000 + 99999999 = omega (arith, is) in
        grind (arith, nat_tests, low, high)

pub itself : (u n : ℕ) → is_number_between u u n ≡ (n == u)
itself u n = grind (arith, nat_tests)

-- ---- what all members are

pub all_tested : {A : Type 0} (p : A → Bool) (xs : List A) → list_all p xs ≡ true → AllByRecursion (λ x. p x ≡ true) xs
all_tested p [] e = tt
all_tested p (x ∷ xs) e = let two = both (p x) (list_all p xs) e in (two.0, all_tested p xs two.1)

pub tested_all : {A : Type 0} (p : A → Bool) (xs : List A) → AllByRecursion (λ x. p x ≡ true) xs → list_all p xs ≡ true
tested_all p [] h = refl
tested_all p (x ∷ xs) h = joint (p x) (list_all p xs) h.0 (tested_all p xs h.1)

pub same_filter : {A : Type 0} (p q : A → Bool) → ((x : A) → p x ≡ q x) → (xs : List A) → filter p xs ≡ filter q xs
same_filter p q same [] = refl
same_filter p q same (x ∷ xs) = grind (arith, nat_tests, same x, same_filter p q same xs)

shorter : {A : Type 0} (p : A → Bool) (xs : List A) → length (filter p xs) ≤ length xs
shorter p [] = omega arith
shorter p (x ∷ xs) = grind (arith, nat_tests, shorter p xs)

-- what a test takes none away of passes it
pub all_pass : {A : Type 0} (p : A → Bool) (xs : List A) → length (filter p xs) ≡ length xs → list_all p xs ≡ true
all_pass p [] e = refl
all_pass p (x ∷ xs) e = elim (cases_Bool (p x)) [
  | inl is ↦
      let long : suc (length (filter p xs)) ≡ suc (length xs) = rw is at e in
      joint (p x) (list_all p xs) is (all_pass p xs (omega (arith, long)))
  | inr isnt ↦ absurd (let long : length (filter p xs) ≡ suc (length xs) = rw isnt at e in
      omega (arith, long, shorter p xs))
]

pub all_kept : {A : Type 0} (p : A → Bool) (xs : List A) → list_all p xs ≡ true → filter p xs ≡ xs
all_kept p [] e = refl
all_kept p (x ∷ xs) e = let two = both (p x) (list_all p xs) e in rw two.0 (ap (λ l. x ∷ l) (all_kept p xs two.1))

pub filter_joined : {A : Type 0} (p : A → Bool) (xs ys : List A) → filter p (xs ++ ys) ≡ filter p xs ++ filter p ys
filter_joined p [] ys = refl
filter_joined p (x ∷ xs) ys = elim (cases_Bool (p x)) [
  | inl is ↦ rw is (ap (λ l. x ∷ l) (filter_joined p xs ys))
  | inr isnt ↦ rw isnt (filter_joined p xs ys)
]

-- ---- numbers that rise

pub rising : {A : Type 0} (number : A → ℕ) (xs : List A) → IsAscending (λ a b. number a < number b) xs
    → rises number xs ≡ true
rising number [] up = refl
rising number (x ∷ xs) up = joint _ (rises number xs) (later xs up.0) (rising number xs up.1)
  where
    later : (ys : List _) → AllByRecursion (λ b. number x < number b) ys
        → list_all (λ y. nat_lt (number x) (number y)) ys ≡ true
    later [] h = refl
    later (y ∷ ys) h = let low : number x < number y = h.0 in joint _ _ (grind (arith, nat_tests, low)) (later ys h.1)

pub climbing : {A : Type 0} (number : A → ℕ) (xs : List A) (before : Option ℕ) → climbs before (map number xs) ≡ true
    → rises number xs ≡ true
climbing number [] before up = refl
climbing number (x ∷ xs) before up =
    let two = both (is_above before (number x)) (climbs (Some (number x)) (map number xs)) up in
    joint _ (rises number xs) (later (number x) xs (number x) (omega arith) two.1)
    (climbing number xs (Some (number x)) two.1)
  where
    later : (low : ℕ) (ys : List _) (before : ℕ) → low ≤ before → climbs (Some before) (map number ys) ≡ true
        → list_all (λ y. nat_lt low (number y)) ys ≡ true
    later low [] before few e = refl
    later low (y ∷ ys) before few e =
        let parts = both (nat_lt before (number y)) (climbs (Some (number y)) (map number ys)) e in
        let above : before < number y = grind (arith, nat_tests, parts.0) in
        joint _ _ (grind (arith, nat_tests, above, few)) (later low ys (number y) (omega (arith, above, few)) parts.1)

-- ---- lists of the accounts, joined

module _ {A : Type 0} (class : A → ℕ) (lists : ℕ → List A) where
  abbrev pub AreClasses : ℕ → Type 0
  AreClasses n = (v : ℕ) → 0 < v → v ≤ n → list_all (λ a. class a == v) (lists v) ≡ true

  none_of : (u v : ℕ) (xs : List A) → (v == u) ≡ false → list_all (λ a. class a == v) xs ≡ true
      → filter (λ a. class a == u) xs ≡ []
  none_of u v [] other all = refl
  none_of u v (x ∷ xs) other all =
      let two = both (class x == v) (list_all (λ a. class a == v) xs) all in
      let is : class x ≡ v = grind (arith, nat_tests, two.0) in
      let off : (class x == u) ≡ false = ap (λ k. k == u) is ∙ other in
      rw off (none_of u v xs other two.1)

  none_joined : (n u : ℕ) → n < u → AreClasses n → filter (λ a. class a == u) (joined lists n) ≡ []
  unfolding joined
  none_joined zero u low are = refl
  none_joined (suc n) u low are =
      let other : (suc n == u) ≡ false = grind (arith, nat_tests, low) in
      filter_joined (λ a. class a == u) (joined lists n) (lists (suc n))
      ∙ ap₂ (λ x y. x ++ y) (none_joined n u (omega (arith, low)) (λ v some few. are v some (omega (arith, few))))
      (none_of u (suc n) (lists (suc n)) other (are (suc n) (omega arith) (omega arith)))

  empty_after : (xs : List A) → xs ++ [] ≡ xs
  empty_after [] = refl
  empty_after (x ∷ xs) = ap (λ l. x ∷ l) (empty_after xs)

  -- an account's are those of its list
  pub of_joined : (n u : ℕ) → 0 < u → u ≤ n → AreClasses n → filter (λ a. class a == u) (joined lists n) ≡ lists u
  unfolding joined
  of_joined zero u some few are = absurd (omega (arith, some, few))
  of_joined (suc n) u some few are = elim (cases_Bool (suc n == u)) [
    | inl is ↦
        let at : suc n ≡ u = grind (arith, nat_tests, is) in
        let first = none_joined n u (omega (arith, at)) (λ v there low. are v there (omega (arith, low))) in
        let last : filter (λ a. class a == u) (lists (suc n)) ≡ lists (suc n) =
        subst (λ k. filter (λ a. class a == k) (lists (suc n)) ≡ lists (suc n)) at (all_kept (λ a. class a == suc n)
        (lists (suc n)) (are (suc n) (omega arith) (omega arith))) in
        filter_joined (λ a. class a == u) (joined lists n) (lists (suc n)) ∙ ap₂ (λ x y. x ++ y) first last
        ∙ ap lists at
    | inr isnt ↦
        let low : u ≤ n = grind (arith, nat_tests, isnt, few) in
        filter_joined (λ a. class a == u) (joined lists n) (lists (suc n))
        ∙ ap₂ (λ x y. x ++ y) (of_joined n u some low (λ v there least. are v there (omega (arith, least))))
        (none_of u (suc n) (lists (suc n)) isnt (are (suc n) (omega arith) (omega arith)))
        ∙ empty_after (lists u)
  ]

  -- each is one of an account's
  pub numbered_joined : (n : ℕ) → n ≤ 9999 → AreClasses n → list_all (λ a. is_account_number (class a)) (joined lists n)
      ≡ true
  unfolding joined
  numbered_joined zero few are = refl
  numbered_joined (suc n) few are =
      list_all-append (λ a. is_account_number (class a)) (joined lists n) (lists (suc n))
      ∙ joint _ _ (numbered_joined n (omega (arith, few)) (λ v some low. are v some (omega (arith, low))))
      (of_last (lists (suc n)) (are (suc n) (omega arith) (omega arith)))
    where
      of_last : (xs : List A) → list_all (λ a. class a == suc n) xs ≡ true
          → list_all (λ a. is_account_number (class a)) xs ≡ true
      of_last [] e = refl
      of_last (x ∷ xs) e =
          let two = both (class x == suc n) (list_all (λ a. class a == suc n) xs) e in
          let is : class x ≡ suc n = grind (arith, nat_tests, two.0) in
          joint _ _ (grind (arith, nat_tests, is, few)) (of_last xs two.1)
