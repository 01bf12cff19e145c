-- Lemmas on the numbers of the command line.
use Rattle.std.proofs.Common.{◌≡◌, ◌≢◌, ◌<◌, ◌≤◌, ◌^◌, ◌⊎◌, inl, inr, ℕ, List, decimal, arith, sym, ◌∙◌}
use Rattle.std.proofs.lemmas.Fmt.{decimal_injective}
use Rattle.acvp_commands.specs.Numbers.{IsNumber}

-- a text that is the decimal of no number is none from 1 to the most either
pub no_number : (most : ℕ) (text : List ℕ) → most < 10 ^ 19 → ((n : ℕ) → n < 10 ^ 19 → text ≢ decimal n) → (n : ℕ)
    → IsNumber most text n → ⊥
no_number most text small none n h = none n (omega (arith, h.1)) h.2

-- nor is that of a number that isn't from 1 to the most
pub other_number : (most : ℕ) (text : List ℕ) (m : ℕ) → most < 10 ^ 19 → m < 10 ^ 19 → text ≡ decimal m
    → (1 ≤ m → m ≤ most → ⊥) → (n : ℕ) → IsNumber most text n → ⊥
other_number most text m small fits is out n h =
    let same : m ≡ n = decimal_injective m n (omega arith) (omega (arith, h.1)) (sym is ∙ h.2) in
    out (omega (arith, h.0, same)) (omega (arith, h.1, same))

-- a number above the most, or below 1
pub outside : (most n : ℕ) → ((1 ≤ n) × (most < n)) ⊎ (n < 1) → 1 ≤ n → n ≤ most → ⊥
outside most n (inl h) low high = omega (arith, h.1)
outside most n (inr h) low high = omega arith
