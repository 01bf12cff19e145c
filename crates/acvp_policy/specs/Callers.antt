-- What the conditions on a caller depend on.
use Rattle.std.specs.Prelude.{◌≡◌, ◌≤◌}
use Rattle.acvp_policy.specs.declared.rule.Rule.{Rule}
use Rattle.acvp_policy.specs.declared.facts.Facts.{Facts}
use Rattle.acvp_policy.specs.Rule.{rule_number}
use Rattle.acvp_policy.specs.Resource.{resource_of}

-- the rules on a token, its account and its session
abbrev pub IsCallerRule : Rule → Type 0
IsCallerRule rule = (11 ≤ rule_number rule) × (rule_number rule ≤ 19)

-- facts that differ at most in what was found at the path, and in the moment
pub record AgreeOnCaller (one other : Facts) : Type 0 where
  pub token : one.token ≡ other.token
  pub standing : one.standing ≡ other.standing
  pub reviewer : one.reviewer ≡ other.reviewer
  pub numbers : resource_of one.subject ≡ resource_of other.subject
