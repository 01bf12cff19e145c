-- What is decided: the rule of the first condition that doesn't hold, or the grant.
use Rattle.std.specs.Prelude.{ℕ, Option, Some, None, Result}
use Rattle.acvp_token.specs.Conditions.{judged}
use Rattle.acvp_token.specs.declared.Claims.{Claims}
use Rattle.acvp_policy.specs.declared.rule.Rule.{Rule}
use Rattle.acvp_policy.specs.declared.action.Action.{Action}
use Rattle.acvp_policy.specs.declared.facts.Facts.{Facts}
use Rattle.acvp_policy.specs.declared.facts.LoginFacts.{LoginFacts}
use Rattle.acvp_policy.specs.declared.facts.UserFacts.{UserFacts}
use Rattle.acvp_policy.specs.Conditions.{claims_of, login_of}
use Rattle.acvp_policy.specs.Resource.{resource_of}
use Rattle.acvp_policy.specs.Policy.{policy}
use Rattle.acvp_policy.specs.Granted.{Granted}

abbrev pub account_of_user : Option UserFacts → ℕ
account_of_user None = 0
account_of_user (Some u) = u.account

abbrev pub account_of_claims : Option Claims → ℕ
account_of_claims None = 0
account_of_claims (Some c) = c.account

-- the account of a login's user, or else of the token's claims
abbrev pub acting_account : Option LoginFacts → Facts → ℕ
acting_account None f = account_of_claims (claims_of f.token)
acting_account (Some l) f = account_of_user l.user

-- whom a grant is given to; 0 where nobody is named, which the policy refuses
abbrev pub account_of : Facts → ℕ
account_of f = acting_account (login_of f.subject) f

-- the grant that is given where no condition is broken
unfoldable pub granted : Action → Facts → Granted
granted action f = record { action = action; account = account_of f; resource = resource_of f.subject }

-- the rule of the first broken condition of the action's list, or else the grant
unfoldable pub decision : Action → Facts → Result Granted Rule
decision action f = judged (policy action f) (granted action f)
