-- What a text gives that a file was found to hold, or that it gives nothing.
use Rattle.std.proofs.Common.{◌≡◌, ◌⊎◌, inr, ℕ, List, Option, None, Some, refl}
use Rattle.std.specs.Prelude.{MatchOption, MatchResult, ok_or}
use Rattle.acvp_commands.specs.declared.fault.Fault.{Fault}

pub given_or : {X : Type 0} (holds : List ℕ → Type 0) (Fails : Fault → Type 0) (text : List ℕ) (found : Option X)
    (fault : Fault)
    (Is : List ℕ → X → Type 0) (IsNone : List ℕ → Type 0) → holds text → MatchOption found (IsNone text) (Is text)
    → MatchResult (ok_or found fault) (λ x. (t : List ℕ) × holds t × Is t x)
    (λ told. Fails told ⊎ ((t : List ℕ) × holds t × (told ≡ fault) × IsNone t))
given_or holds Fails text None fault Is IsNone held none = inr (text, held, refl, none)
given_or holds Fails text (Some x) fault Is IsNone held is = (text, held, is)
