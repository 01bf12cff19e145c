-- The parts of what a statement does, and what a column makes of a value.
use Rattle.std.proofs.Common.{◌≡◌, ◌≢◌, ◌⊎◌, inl, inr, ℕ, List, Bool, true, false, cond, Option, Some, None, Ok, Err}
use Rattle.std.proofs.Common.{Result, refl, ◌∙◌, arith}
use Rattle.std.specs.Prelude.{◌==◌, ◌&&◌}
use Rattle.sqlite.specs.Ops.{unary}
use Rattle.sqlite.specs.Kind.TheVariants as kind
use Rattle.sqlite.specs.Kind.TheVariants.{Integer}
use Rattle.acvp_store.proofs.Words.{cast, flag, nat_tests, Null, or_null, Text, Value, whole}

-- a part that gave a value didn't stop on the way
pub went : {B E R : Type 0} {b : B} {Stops : E → Type 0} → ((stop : E) × Stops stop × (Ok b ≡ Err stop)) ⊎ R → R
went (inl stopped) = absurd (let e = stopped.2 in cc)
went (inr on) = on

pub same_value : {B E : Type 0} {a b : B} → ◌≡◌ {A = Result B E} (Ok a) (Ok b) → a ≡ b
same_value e = cc

pub and_true : (b : Bool) → (b && true) ≡ b
and_true true = refl
and_true false = refl

-- two tests that both hold
pub both_true : (a b c d : Bool) → a ≡ c → b ≡ d → (a && (b && true)) ≡ (c && d)
both_true true b true d e f = and_true b ∙ f
both_true false b false d e f = refl
both_true true b false d e f = absurd (cc)
both_true false b true d e f = absurd (cc)

pub apart : (m n : ℕ) → (m == n) ≡ false → m ≢ n
apart m n h e = absurd (let same : (m == n) ≡ true = grind (arith, nat_tests, e) in cc)

-- ---- a column of integers

either : (b : Bool) (x : Value) → cond b x x ≡ x
either true x = refl
either false x = refl

pub cast_null : cast Integer Null ≡ Null
unfolding unary
cast_null = either _ Null

pub cast_whole : (n : ℕ) → cast Integer (whole n) ≡ whole n
unfolding unary
cast_whole n = either _ (whole n)

pub cast_flag : (b : Bool) → cast Integer (flag b) ≡ flag b
cast_flag true = cast_whole 1
cast_flag false = cast_whole 0

pub cast_option : (o : Option ℕ) → cast Integer (or_null whole o) ≡ or_null whole o
cast_option None = cast_null
cast_option (Some n) = cast_whole n

-- ---- a column of texts

pub cast_text_option : (o : Option (List ℕ)) → cast kind.Text (or_null Text o) ≡ or_null Text o
cast_text_option None = refl
cast_text_option (Some t) = refl
