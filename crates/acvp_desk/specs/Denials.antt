-- Denials by a rule on the caller: on its token, on the account of its claims, and on the session that the path names.
use Rattle.std.specs.Prelude.{◌≡◌, ℕ, Bool, true, ◌&&◌, nat_le, Some}
use Rattle.acvp_mac.specs.Conditions.{first_broken}
use Rattle.acvp_policy.specs.Rule.{rule_number}
use Rattle.acvp_policy.specs.declared.rule.Rule.{Rule}
use Rattle.acvp_tables.specs.State.{State}
use Rattle.acvp_desk.specs.Answer.{conditions}
use Rattle.acvp_desk.specs.Request.{RequestValue}
use Rattle.acvp_desk.specs.declared.keys.Keys.{Keys}

-- the rules on the caller, 11 to 19
abbrev pub is_of_caller : Rule → Bool
is_of_caller it = nat_le 11 (rule_number it) && nat_le (rule_number it) 19

-- the records have the same accounts and reviewers, whatever else they hold
pub record HaveSameCallers (one other : State) : Type 0 where
  pub accounts : one.accounts ≡ other.accounts
  pub reviewers : one.reviewers ≡ other.reviewers

-- a request is denied over these records by this rule, which is one on the caller
pub record IsDeniedFirst (keys : Keys) (moment : ℕ) (r : RequestValue) (state : State) (broken : Rule) : Type 0 where
  pub first : first_broken (conditions keys moment r state) ≡ Some broken
  pub caller : is_of_caller broken ≡ true
