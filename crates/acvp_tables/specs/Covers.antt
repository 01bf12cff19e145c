-- Which change a grant is leave for.
use Rattle.std.specs.Prelude.{◌≡◌, ◌⊎◌}
use Rattle.acvp_policy.specs.Granted.{Granted}
use Rattle.acvp_policy.specs.declared.action.Action.{Action}
use Rattle.acvp_policy.specs.declared.action.Action.TheVariants as action
use Rattle.acvp_policy.specs.declared.resource.Resource.TheVariants as resource
use Rattle.acvp_policy.specs.SessionNumber.{account_of_session}
use Rattle.acvp_registry.specs.declared.kind.Kind.{Kind}
use Rattle.acvp_registry.specs.declared.kind.Kind.TheVariants.{Vendor, Module, Environment, Certification}
use Rattle.acvp_tables.specs.declared.change.Change.{Change}
use Rattle.acvp_tables.specs.declared.change.Change.TheVariants as change

-- the action that asks for an object of a kind
abbrev pub request_action : Kind → Action
request_action Vendor = action.NewVendor
request_action Module = action.NewModule
request_action Environment = action.NewEnvironment
request_action Certification = action.Certify

-- the change is that of the grant's action, on the account and the resource that it was given for
abbrev pub Covers : Granted → Change → Type 0
Covers g (change.UseStep u) = (g.action ≡ action.Login) × (g.resource ≡ resource.Account) × (g.account ≡ u.account)
Covers g (change.NewSession s) =
    (g.action ≡ action.NewSession) × (g.resource ≡ resource.Account) × (g.account ≡ s.account)
Covers g (change.KeepAnswers k) = ((g.action ≡ action.Submit) ⊎ (g.action ≡ action.Resubmit))
    × (g.resource ≡ resource.Set k.session k.set) × (g.account ≡ account_of_session k.session)
Covers g (change.CancelSession s) =
    (g.action ≡ action.CancelSession) × (g.resource ≡ resource.Session s) × (g.account ≡ account_of_session s)
Covers g (change.CancelSet x) = (g.action ≡ action.CancelSet) × (g.resource ≡ resource.Set x.session x.set)
    × (g.account ≡ account_of_session x.session)
Covers g (change.NewRequest r) =
    (g.action ≡ request_action r.object.kind) × (g.resource ≡ resource.Account) × (g.account ≡ r.account)
Covers g (change.Certify c) = (g.action ≡ action.Certify) × (g.resource ≡ resource.Session c.certification.session)
    × (g.account ≡ c.account) × (g.account ≡ account_of_session c.certification.session)
Covers g (change.AddReviewer r) = (g.action ≡ action.AddReviewer) × (g.resource ≡ resource.Session r.session)
    × (g.account ≡ account_of_session r.session)
Covers g (change.RemoveReviewer r) = (g.action ≡ action.RemoveReviewer)
    × (g.resource ≡ resource.Reviewer r.session r.account) × (g.account ≡ account_of_session r.session)
