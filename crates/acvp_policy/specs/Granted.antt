-- What a grant says.
use Rattle.std.specs.Prelude.{ℕ}
use Rattle.acvp_policy.specs.declared.action.Action.{Action}
use Rattle.acvp_policy.specs.declared.resource.Resource.{Resource}

-- that an account may take this action on this resource
pub record Granted : Type 0 where
  pub action : Action
  pub account : ℕ
  pub resource : Resource
