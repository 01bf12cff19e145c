-- The numbers of a range.
use Rattle.std.proofs.Common.{◌≡◌, ℕ, ◌+◌, ◌-◌, ◌*◌, ◌/◌, ◌%◌, ◌<◌, ◌≤◌, Bool, true, false, nat_eq, ◌&&◌, refl, ◌∙◌, ap}
use Rattle.std.proofs.Common.{arith}
use Rattle.std.specs.Prelude.{nat_le}
use Rattle.std.proofs.Math.Nat.{mod-add-div, mul-le-mul_left, mul-mod_right}
use Rattle.std.proofs.lemmas.Bool.Decides.{nat_tests}
use Rattle.acvp_caps.specs.declared.item.Item.TheVariants.{Range}
use Rattle.acvp_caps.specs.Items.{has}
use Rattle.acvp_caps.specs.Private.Walk.{IsLeastFrom}

-- what is missing to the next multiple of k
pub missing_whole : (d k : ℕ) → d % k ≤ k → (d + (k - d % k)) % k ≡ 0
missing_whole d k h =
    let e : d + (k - d % k) ≡ k * (d / k + 1) = omega (arith, mod-add-div d k) in
    ap (λ n. n % k) e ∙ mul-mod_right k (d / k + 1)

-- a larger quotient from a larger number that leaves nothing
larger : (d k m : ℕ) → d ≤ m → m % k ≡ 0 → 0 < d % k → m / k ≤ d / k → ⊥
larger d k m le whole part small =
    let narrow : k * (m / k) ≤ k * (d / k) = mul-le-mul_left k small in
    omega (arith, mod-add-div d k, mod-add-div m k)

-- no multiple of k lies between
pub missing_least : (d k m : ℕ) → d % k ≤ k → d ≤ m → m % k ≡ 0 → 0 < d % k → d + (k - d % k) ≤ m
missing_least d k m h le whole part =
    let no : m / k ≤ d / k → ⊥ = larger d k m le whole part in
    let more : d / k + 1 ≤ m / k = omega (arith, no) in
    let wide : k * (d / k + 1) ≤ k * (m / k) = mul-le-mul_left k more in
    omega (arith, mod-add-div d k, mod-add-div m k)

-- what a range has
pub has-range : (min max increment n : ℕ) → min ≤ n → n ≤ max → (n - min) % increment ≡ 0
    → has (Range min max increment) n ≡ true
has-range min max increment n low high whole = grind (arith, nat_tests)

pub record IsInRange (min max increment n : ℕ) : Type 0 where
  pub low : min ≤ n
  pub high : n ≤ max
  pub whole : (n - min) % increment ≡ 0

both : (a b : Bool) → (a && b) ≡ true → (a ≡ true) × (b ≡ true)
both true b h = (refl, h)
both false b h = cc

from_le : (a b : ℕ) → nat_le a b ≡ true → a ≤ b
from_le a b h = grind (arith, nat_tests)

from_eq : (a b : ℕ) → nat_eq a b ≡ true → a ≡ b
from_eq a b h = grind (arith, nat_tests)

pub range-has : (min max increment n : ℕ) → has (Range min max increment) n ≡ true → IsInRange min max increment n
range-has min max increment n h =
    let outer = both (nat_le min n && nat_le n max) (nat_eq ((n - min) % increment) 0) h in
    let inner = both (nat_le min n) (nat_le n max) outer.0 in
    record { low = from_le _ _ inner.0; high = from_le _ _ inner.1; whole = from_eq _ _ outer.1 }

-- the step from a number between two of the range's to the next
pub range_step : (min max increment start : ℕ) → min < start → 0 < (start - min) % increment
    → (start - min) % increment ≤ increment → start + (increment - (start - min) % increment) ≤ max
    → IsLeastFrom (has (Range min max increment)) start (start + (increment - (start - min) % increment))
range_step min max increment start above part less fits = record {
  from_start = omega arith;
  passes =
      let e : start + (increment - (start - min) % increment) - min
      ≡ (start - min) + (increment - (start - min) % increment) = omega arith in
      has-range min max increment _ (omega arith) fits (ap (λ n. n % increment) e
      ∙ missing_whole (start - min) increment less);
  below = λ m from there.
      let parts = range-has min max increment m there in
      let least : (start - min) + (increment - (start - min) % increment) ≤ m - min =
      missing_least (start - min) increment (m - min) less (omega arith) parts.whole part in
      omega (arith, parts.low, parts.high);
}
