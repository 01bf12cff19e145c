-- What a reader of a part answers.
use Rattle.std.specs.Prelude.{◌≡◌, ◌⊎◌, List, Option, Some, None, Result, MatchResult}
use Rattle.acvp_mac.specs.Conditions.{Condition, first_broken}
use Rattle.acvp_caps.specs.declared.CapFault.{CapFault}
use Rattle.acvp_caps.specs.declared.CapFault.TheVariants.{Memory}

-- every condition holds and this is the value, or the fault is that of the first broken one
abbrev pub IsReadBy : {X : Type 0} → List (Condition CapFault) → Option X → Result X CapFault → Type 0
IsReadBy conditions value result =
    MatchResult result (λ v. (first_broken conditions ≡ None) × (value ≡ Some v)) (λ f. (f ≡ Memory)
    ⊎ (first_broken conditions ≡ Some f))
