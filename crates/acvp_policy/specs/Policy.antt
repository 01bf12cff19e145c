-- The policy: for each action its conditions in their order.
use Rattle.std.specs.Prelude.{List, [], ◌∷◌, ◌++◌, if◌then◌else◌}
use Rattle.acvp_token.specs.Conditions.{Condition}
use Rattle.acvp_policy.specs.declared.rule.Rule.{Rule}
use Rattle.acvp_policy.specs.declared.action.Action.{Action}
use Rattle.acvp_policy.specs.declared.action.Action.TheVariants as action
use Rattle.acvp_policy.specs.declared.action.Scope.{Scope}
use Rattle.acvp_policy.specs.declared.action.Scope.TheVariants as scope
use Rattle.acvp_policy.specs.declared.facts.Facts.{Facts}
use Rattle.acvp_policy.specs.Scope.{scope_of}
use Rattle.acvp_policy.specs.Conditions.{token_there, token_shaped, token_signed, token_read, token_lasts}
use Rattle.acvp_policy.specs.Conditions.{account_enabled, without_session, with_session, this_session, is_reviewer}
use Rattle.acvp_policy.specs.Conditions.{account_there, algorithm_there, session_there, set_there, reviewer_there}
use Rattle.acvp_policy.specs.Conditions.{vendor_there, module_there, environment_there, request_there}
use Rattle.acvp_policy.specs.Conditions.{session_live, session_lasts, session_thawed, is_sample, is_no_sample}
use Rattle.acvp_policy.specs.Conditions.{has_passed}
use Rattle.acvp_policy.specs.Conditions.{set_live, set_lasts, is_unanswered, is_answered}
use Rattle.acvp_policy.specs.Conditions.{code_accepted, renewal_allowed}

-- what is asked of every caller with a token
abbrev pub caller_conditions : Facts → List (Condition Rule)
caller_conditions f =
    token_there f ∷ token_shaped f ∷ token_signed f ∷ token_read f ∷ token_lasts f ∷ account_enabled f ∷ []

-- what is asked of the token on a session's resources
abbrev pub session_conditions : Facts → List (Condition Rule)
session_conditions f = with_session f ∷ this_session f ∷ []

-- the conditions on the caller, which look at no session, set or row that the path names
abbrev pub claims_conditions : Scope → Facts → List (Condition Rule)
claims_conditions scope.Login f = []
claims_conditions scope.AccountRead f = caller_conditions f
claims_conditions scope.AccountChange f = caller_conditions f ++ without_session f ∷ []
claims_conditions scope.SessionResource f = caller_conditions f ++ session_conditions f
claims_conditions scope.ReviewableResource f =
    caller_conditions f ++ (if is_reviewer f then [] else session_conditions f)

-- the conditions on what the path names, and of a login those on its findings
abbrev pub resource_conditions : Action → Facts → List (Condition Rule)
resource_conditions action.Login f = code_accepted f ∷ renewal_allowed f ∷ []
resource_conditions action.ReadAccount f = account_there f ∷ []
resource_conditions action.ListAlgorithms f = account_there f ∷ []
resource_conditions action.ReadAlgorithm f = algorithm_there f ∷ []
resource_conditions action.ListSessions f = account_there f ∷ []
resource_conditions action.NewSession f = account_there f ∷ []
resource_conditions action.ReadSession f = session_there f ∷ []
resource_conditions action.Certify f =
    session_there f ∷ session_live f ∷ session_lasts f ∷ session_thawed f ∷ is_no_sample f ∷ has_passed f ∷ []
resource_conditions action.CancelSession f = session_there f ∷ session_live f ∷ session_thawed f ∷ []
resource_conditions action.SessionResults f = session_there f ∷ session_live f ∷ []
resource_conditions action.ListSets f = session_there f ∷ []
resource_conditions action.ReadSet f = set_there f ∷ session_live f ∷ session_lasts f ∷ set_live f ∷ set_lasts f ∷ []
resource_conditions action.CancelSet f = set_there f ∷ session_live f ∷ session_thawed f ∷ set_live f ∷ []
resource_conditions action.SetResults f = set_there f ∷ session_live f ∷ set_live f ∷ []
resource_conditions action.Submit f =
    set_there f ∷ session_live f ∷ session_lasts f ∷ session_thawed f ∷ set_live f ∷ set_lasts f ∷ is_unanswered f ∷ []
resource_conditions action.Resubmit f =
    set_there f ∷ session_live f ∷ session_lasts f ∷ session_thawed f ∷ set_live f ∷ set_lasts f ∷ is_answered f ∷ []
resource_conditions action.Expected f = set_there f ∷ session_live f ∷ set_live f ∷ is_sample f ∷ []
resource_conditions action.ListVendors f = account_there f ∷ []
resource_conditions action.NewVendor f = account_there f ∷ []
resource_conditions action.ReadVendor f = vendor_there f ∷ []
resource_conditions action.ListModules f = account_there f ∷ []
resource_conditions action.NewModule f = account_there f ∷ []
resource_conditions action.ReadModule f = module_there f ∷ []
resource_conditions action.ListEnvironments f = account_there f ∷ []
resource_conditions action.NewEnvironment f = account_there f ∷ []
resource_conditions action.ReadEnvironment f = environment_there f ∷ []
resource_conditions action.ListRequests f = account_there f ∷ []
resource_conditions action.ReadRequest f = request_there f ∷ []
resource_conditions action.ListReviewers f = session_there f ∷ []
resource_conditions action.AddReviewer f = session_there f ∷ session_live f ∷ []
resource_conditions action.RemoveReviewer f = reviewer_there f ∷ session_live f ∷ []

-- the whole table
unfoldable pub policy : Action → Facts → List (Condition Rule)
policy action f = claims_conditions (scope_of action) f ++ resource_conditions action f
