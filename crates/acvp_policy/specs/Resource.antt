-- What a path names.
use Rattle.std.specs.Prelude.{ℕ, Option, Some, None}
use Rattle.acvp_policy.specs.declared.resource.Resource.{Resource}
use Rattle.acvp_policy.specs.declared.resource.Resource.TheVariants as resource
use Rattle.acvp_policy.specs.declared.facts.Subject.{Subject}
use Rattle.acvp_policy.specs.declared.facts.Subject.TheVariants as subject

-- the resource that is named, whether it was found or not
abbrev pub resource_of : Subject → Resource
resource_of (subject.Login found) = resource.Account
resource_of subject.Account = resource.Account
resource_of (subject.Algorithm number) = resource.Algorithm number
resource_of (subject.Session on) = resource.Session on.session
resource_of (subject.Set on) = resource.Set on.session on.set
resource_of (subject.Reviewer on) = resource.Reviewer on.session on.reviewer
resource_of (subject.Vendor row) = resource.Vendor row.number
resource_of (subject.Module row) = resource.Module row.number
resource_of (subject.Environment row) = resource.Environment row.number
resource_of (subject.Request row) = resource.Request row.number

-- the session whose number a path has
abbrev pub session_number : Resource → Option ℕ
session_number (resource.Session s) = Some s
session_number (resource.Set s v) = Some s
session_number (resource.Reviewer s account) = Some s
session_number resource.Account = None
session_number (resource.Algorithm number) = None
session_number (resource.Vendor number) = None
session_number (resource.Module number) = None
session_number (resource.Environment number) = None
session_number (resource.Request number) = None
