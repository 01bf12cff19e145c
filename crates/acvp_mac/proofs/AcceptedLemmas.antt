-- The accepted step is the only one of its kind, so it is a value.
use Rattle.std.proofs.Common.{◌≡◌, ◌≢◌, ℕ, zero, suc, ◌+◌, ◌≤◌, Bool, true, false, cond, ◌||◌, ◌&&◌, nat_eq, Option}
use Rattle.std.proofs.Common.{None, Some, List, ◌⊎◌, inl, inr, refl, ap, arith}
use Rattle.std.proofs.lemmas.Bool.Decides.{nat_tests}
use Rattle.acvp_mac.specs.Codes.{step_of, IsUnused, IsAcceptable, IsAcceptedStep, greatest_where, is_unused}
use Rattle.acvp_mac.specs.Codes.{is_acceptable, accepted}

unused-test : (last : Option ℕ) (s : ℕ) → IsUnused last s → is_unused last s ≡ true
unused-test None s h = refl
unused-test (Some used) s h = grind (arith, nat_tests)

test-unused : (last : Option ℕ) (s : ℕ) → is_unused last s ≡ true → IsUnused last s
test-unused None s h = tt
test-unused (Some used) s h = grind (arith, nat_tests)

recent-test : (s now : ℕ) → (s ≡ now) ⊎ (s + 1 ≡ now) → (nat_eq s now || nat_eq (s + 1) now) ≡ true
recent-test s now h = grind (arith, nat_tests)

test-recent : (s now : ℕ) → (nat_eq s now || nat_eq (s + 1) now) ≡ true → (s ≡ now) ⊎ (s + 1 ≡ now)
test-recent s now h = grind (arith, nat_tests)

three-true : (a b c : Bool) → a ≡ true → b ≡ true → c ≡ true → (a && b && c) ≡ true
three-true a b c p q r = rw (p, q, r) refl

true-three : (a b c : Bool) → (a && b && c) ≡ true → (a ≡ true) × (b ≡ true) × (c ≡ true)
true-three true true true h = (refl, refl, refl)
true-three true true false h = cc
true-three true false c h = cc
true-three false b c h = cc

-- an acceptable step passes the test
pub acceptable-test : (secret : List ℕ) (last : Option ℕ) (moment code s : ℕ) →
    IsAcceptable secret last moment code s → is_acceptable secret last moment code s ≡ true
acceptable-test secret last moment code s h =
    three-true _ _ _ (recent-test s (step_of moment) h.recent) (unused-test last s h.unused)
    (rw h.right (grind (arith, nat_tests)))

-- a step that passes the test is acceptable
pub test-acceptable : (secret : List ℕ) (last : Option ℕ) (moment code s : ℕ) →
    is_acceptable secret last moment code s ≡ true → IsAcceptable secret last moment code s
test-acceptable secret last moment code s h =
    let parts = true-three _ _ _ h in
    record {
      recent = test-recent s (step_of moment) parts.0;
      unused = test-unused last s parts.1;
      right = grind (arith, nat_tests, parts.2);
    }

le-recent : (s now : ℕ) → (s ≡ now) ⊎ (s + 1 ≡ now) → s ≤ now
le-recent s now (inl e) = omega arith
le-recent s now (inr e) = omega arith

none-step : (n : ℕ) (r : Option ℕ) (b : Bool) → (b ≡ true → ⊥) → None ≡ r → None ≡ cond b (Some n) r
none-step n r true h e = absurd (h refl)
none-step n r false h e = e

some-here : (n : ℕ) (r : Option ℕ) (s : ℕ) (b : Bool) → s ≡ n → b ≡ true → Some s ≡ cond b (Some n) r
some-here n r s true e h = ap (λ (k : ℕ). Some k) e
some-here n r s false e h = cc

below : (test : ℕ → Bool) (n s : ℕ) → test (suc n) ≡ false → s ≤ suc n → test s ≡ true → s ≤ n
below test n s e le pass =
    let other : s ≢ suc n = λ same. let last : test (suc n) ≡ true = rw same at pass in cc in
    omega (arith, other)

some-step : (test : ℕ → Bool) (n s : ℕ) (b : Bool) → test (suc n) ≡ b → s ≤ suc n → test s ≡ true →
    ((t : ℕ) → t ≤ suc n → test t ≡ true → t ≤ s) → (s ≤ n → Some s ≡ greatest_where test n) →
    Some s ≡ cond b (Some (suc n)) (greatest_where test n)
some-step test n s true e le pass above rest =
    let at_least : suc n ≤ s = above (suc n) (omega arith) e in
    let here : s ≡ suc n = omega arith in
    ap (λ (k : ℕ). Some k) here
some-step test n s false e le pass above rest = rest (below test n s e le pass)

-- where no number up to n passes, there is no greatest one
none-greatest : (test : ℕ → Bool) (n : ℕ) → ((s : ℕ) → s ≤ n → test s ≡ true → ⊥) → None ≡ greatest_where test n
none-greatest test zero h = none-step zero None (test zero) (h zero (omega arith)) refl
none-greatest test (suc n) h =
    none-step (suc n) (greatest_where test n) (test (suc n)) (h (suc n) (omega arith))
    (none-greatest test n (λ s le. h s (omega arith)))

-- a number that passes, and that no other one up to n which passes is above, is the greatest
some-greatest : (test : ℕ → Bool) (n s : ℕ) → s ≤ n → test s ≡ true → ((t : ℕ) → t ≤ n → test t ≡ true → t ≤ s) →
    Some s ≡ greatest_where test n
some-greatest test zero s le pass above =
    let e : s ≡ zero = omega arith in
    some-here zero None s (test zero) e (rw e at pass)
some-greatest test (suc n) s le pass above =
    some-step test n s (test (suc n)) refl le pass above
    (λ below. some-greatest test n s below pass (λ t h. above t (omega arith)))

-- what is accepted is one value
pub accepted-unique : (secret : List ℕ) (last : Option ℕ) (moment code : ℕ) (r : Option ℕ) →
    IsAcceptedStep secret last moment code r → r ≡ accepted secret last moment code
unfolding accepted
accepted-unique secret last moment code None none =
    none-greatest (is_acceptable secret last moment code) (step_of moment)
    (λ s _ pass. none s (test-acceptable secret last moment code s pass))
accepted-unique secret last moment code (Some s) is =
    let recent = is.acceptable.recent in
    some-greatest (is_acceptable secret last moment code) (step_of moment) s (le-recent s (step_of moment) recent)
    (acceptable-test secret last moment code s is.acceptable)
    (λ t _ pass. is.greatest t (test-acceptable secret last moment code t pass))
