-- That the rules on the caller let through.
use Rattle.std.specs.Prelude.{◌≡◌, ℕ, None}
use Rattle.acvp_mac.specs.Conditions.{first_broken}
use Rattle.acvp_policy.specs.Policy.{claims_conditions}
use Rattle.acvp_policy.specs.Scope.{scope_of}
use Rattle.acvp_desk.specs.Answer.{action_in, facts_in}
use Rattle.acvp_desk.specs.declared.found.Found.{Found}

abbrev pub IsAdmitted : ℕ → Found → Type 0
IsAdmitted moment found = first_broken (claims_conditions (scope_of (action_in found)) (facts_in moment found)) ≡ None
