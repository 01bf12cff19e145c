-- What each action asks of the caller.
use Rattle.acvp_policy.specs.declared.action.Action.{Action}
use Rattle.acvp_policy.specs.declared.action.Action.TheVariants as action
use Rattle.acvp_policy.specs.declared.action.Scope.{Scope}
use Rattle.acvp_policy.specs.declared.action.Scope.TheVariants as scope

-- one scope for each of the 31 actions
abbrev pub scope_of : Action → Scope
scope_of action.Login = scope.Login
scope_of action.ReadAccount = scope.AccountRead
scope_of action.ListAlgorithms = scope.AccountRead
scope_of action.ReadAlgorithm = scope.AccountRead
scope_of action.ListSessions = scope.AccountRead
scope_of action.NewSession = scope.AccountChange
scope_of action.ReadSession = scope.SessionResource
scope_of action.Certify = scope.SessionResource
scope_of action.CancelSession = scope.SessionResource
scope_of action.SessionResults = scope.ReviewableResource
scope_of action.ListSets = scope.SessionResource
scope_of action.ReadSet = scope.SessionResource
scope_of action.CancelSet = scope.SessionResource
scope_of action.SetResults = scope.ReviewableResource
scope_of action.Submit = scope.SessionResource
scope_of action.Resubmit = scope.SessionResource
scope_of action.Expected = scope.SessionResource
scope_of action.ListVendors = scope.AccountRead
scope_of action.NewVendor = scope.AccountChange
scope_of action.ReadVendor = scope.AccountRead
scope_of action.ListModules = scope.AccountRead
scope_of action.NewModule = scope.AccountChange
scope_of action.ReadModule = scope.AccountRead
scope_of action.ListEnvironments = scope.AccountRead
scope_of action.NewEnvironment = scope.AccountChange
scope_of action.ReadEnvironment = scope.AccountRead
scope_of action.ListRequests = scope.AccountRead
scope_of action.ReadRequest = scope.AccountRead
scope_of action.ListReviewers = scope.SessionResource
scope_of action.AddReviewer = scope.SessionResource
scope_of action.RemoveReviewer = scope.SessionResource
