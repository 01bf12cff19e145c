-- The kind of resource that each action is taken on, and whose it is.
use Rattle.std.specs.Prelude.{◌≡◌, ◌⊎◌, ℕ, true, None}
use Rattle.acvp_token.specs.declared.Claims.{Claims}
use Rattle.acvp_policy.specs.declared.action.Action.{Action}
use Rattle.acvp_policy.specs.declared.action.Action.TheVariants as action
use Rattle.acvp_policy.specs.declared.facts.Facts.{Facts}
use Rattle.acvp_policy.specs.declared.facts.Token.TheVariants.{Verified}
use Rattle.acvp_policy.specs.declared.resource.Resource.{Resource}
use Rattle.acvp_policy.specs.declared.resource.Resource.TheVariants as resource

-- a resource is of each kind
abbrev pub IsAccount : Resource → Type 0
IsAccount r = r ≡ resource.Account

abbrev pub IsAlgorithm : Resource → Type 0
IsAlgorithm r = (number : ℕ) × (r ≡ resource.Algorithm number)

abbrev pub IsSession : Resource → Type 0
IsSession r = (session : ℕ) × (r ≡ resource.Session session)

abbrev pub IsSet : Resource → Type 0
IsSet r = (session : ℕ) × (set : ℕ) × (r ≡ resource.Set session set)

abbrev pub IsReviewer : Resource → Type 0
IsReviewer r = (session : ℕ) × (account : ℕ) × (r ≡ resource.Reviewer session account)

abbrev pub IsVendor : Resource → Type 0
IsVendor r = (number : ℕ) × (r ≡ resource.Vendor number)

abbrev pub IsModule : Resource → Type 0
IsModule r = (number : ℕ) × (r ≡ resource.Module number)

abbrev pub IsEnvironment : Resource → Type 0
IsEnvironment r = (number : ℕ) × (r ≡ resource.Environment number)

abbrev pub IsRequest : Resource → Type 0
IsRequest r = (number : ℕ) × (r ≡ resource.Request number)

-- the resource is of the kind that the action is taken on
abbrev pub IsOfItsKind : Action → Resource → Type 0
IsOfItsKind action.Login r = IsAccount r
IsOfItsKind action.ReadAccount r = IsAccount r
IsOfItsKind action.ListAlgorithms r = IsAccount r
IsOfItsKind action.ReadAlgorithm r = IsAlgorithm r
IsOfItsKind action.ListSessions r = IsAccount r
IsOfItsKind action.NewSession r = IsAccount r
IsOfItsKind action.ReadSession r = IsSession r
IsOfItsKind action.Certify r = IsSession r
IsOfItsKind action.CancelSession r = IsSession r
IsOfItsKind action.SessionResults r = IsSession r
IsOfItsKind action.ListSets r = IsSession r
IsOfItsKind action.ReadSet r = IsSet r
IsOfItsKind action.CancelSet r = IsSet r
IsOfItsKind action.SetResults r = IsSet r
IsOfItsKind action.Submit r = IsSet r
IsOfItsKind action.Resubmit r = IsSet r
IsOfItsKind action.Expected r = IsSet r
IsOfItsKind action.ListVendors r = IsAccount r
IsOfItsKind action.NewVendor r = IsAccount r
IsOfItsKind action.ReadVendor r = IsVendor r
IsOfItsKind action.ListModules r = IsAccount r
IsOfItsKind action.NewModule r = IsAccount r
IsOfItsKind action.ReadModule r = IsModule r
IsOfItsKind action.ListEnvironments r = IsAccount r
IsOfItsKind action.NewEnvironment r = IsAccount r
IsOfItsKind action.ReadEnvironment r = IsEnvironment r
IsOfItsKind action.ListRequests r = IsAccount r
IsOfItsKind action.ReadRequest r = IsRequest r
IsOfItsKind action.ListReviewers r = IsSession r
IsOfItsKind action.AddReviewer r = IsSession r
IsOfItsKind action.RemoveReviewer r = IsReviewer r

-- the resource is a session, or one of its sets or reviewers
abbrev pub IsOfSession : ℕ → Resource → Type 0
IsOfSession s (resource.Session session) = session ≡ s
IsOfSession s (resource.Set session set) = session ≡ s
IsOfSession s (resource.Reviewer session account) = session ≡ s
IsOfSession s resource.Account = ⊥
IsOfSession s (resource.Algorithm number) = ⊥
IsOfSession s (resource.Vendor number) = ⊥
IsOfSession s (resource.Module number) = ⊥
IsOfSession s (resource.Environment number) = ⊥
IsOfSession s (resource.Request number) = ⊥

-- the results of a session or a set are read by a reviewer, whose token is bound to no session
pub record IsReview (taken : Action) (facts : Facts) : Type 0 where
  pub results : (taken ≡ action.SessionResults) ⊎ (taken ≡ action.SetResults)
  pub reviewer : facts.reviewer ≡ true
  pub claims : Claims
  pub token : facts.token ≡ Verified claims
  pub unbound : claims.session ≡ None
