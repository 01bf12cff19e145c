-- The conditions of the policy: each a test of the facts, with the rule that is broken where it doesn't hold.
use Rattle.std.specs.Prelude.{ℕ, ◌+◌, Bool, true, false, ◌==◌, ◌&&◌, not, nat_lt, nat_le}
use Rattle.std.specs.Prelude.{Option, Some, None, is_some, is_none}
use Rattle.acvp_token.specs.Conditions.{Condition}
use Rattle.acvp_token.specs.SessionNumber.{account_of_session}
use Rattle.acvp_token.specs.declared.Claims.{Claims}
use Rattle.acvp_policy.specs.declared.rule.Rule.{Rule}
use Rattle.acvp_policy.specs.declared.rule.Rule.TheVariants as rule
use Rattle.acvp_policy.specs.declared.facts.Facts.{Facts}
use Rattle.acvp_policy.specs.declared.facts.Token.{Token}
use Rattle.acvp_policy.specs.declared.facts.Token.TheVariants as token
use Rattle.acvp_policy.specs.declared.facts.Standing.{Standing}
use Rattle.acvp_policy.specs.declared.facts.Standing.TheVariants as standing
use Rattle.acvp_policy.specs.declared.facts.Subject.{Subject}
use Rattle.acvp_policy.specs.declared.facts.Subject.TheVariants as subject
use Rattle.acvp_policy.specs.declared.facts.Renewal.{Renewal}
use Rattle.acvp_policy.specs.declared.facts.Renewal.TheVariants as renewal
use Rattle.acvp_policy.specs.declared.facts.CertificationStatus.{CertificationStatus}
use Rattle.acvp_policy.specs.declared.facts.CertificationStatus.TheVariants as status
use Rattle.acvp_policy.specs.declared.facts.LoginFacts.{LoginFacts}
use Rattle.acvp_policy.specs.declared.facts.RowSubject.{RowSubject}
use Rattle.acvp_policy.specs.declared.facts.SessionFacts.{SessionFacts}
use Rattle.acvp_policy.specs.declared.facts.SetFacts.{SetFacts}
use Rattle.acvp_policy.specs.Resource.{resource_of, session_number}

-- it is there, and the test holds of it
abbrev pub is_some_and : {X : Type 0} → Option X → (X → Bool) → Bool
is_some_and None test = false
is_some_and (Some x) test = test x

-- it isn't there, or the test holds of it
abbrev pub is_none_or : {X : Type 0} → Option X → (X → Bool) → Bool
is_none_or None test = true
is_none_or (Some x) test = test x

-- The token (RFC 6750), its signature and its claims: a token fails no test before the one that was found to fail.

abbrev pub is_there : Token → Bool
is_there token.Missing = false
is_there _ = true

abbrev pub has_shape : Token → Bool
has_shape token.Malformed = false
has_shape t = is_there t

abbrev pub is_signed : Token → Bool
is_signed token.NotSigned = false
is_signed t = has_shape t

abbrev pub is_read : Token → Bool
is_read token.NotRead = false
is_read t = is_signed t

abbrev pub lasts : Token → Bool
lasts token.Expired = false
lasts t = is_read t

-- the claims of a token that passes them all
abbrev pub claims_of : Token → Option Claims
claims_of (token.Verified claims) = Some claims
claims_of _ = None

abbrev pub token_there : Facts → Condition Rule
token_there f = (is_there f.token, rule.TokenMissing)

abbrev pub token_shaped : Facts → Condition Rule
token_shaped f = (has_shape f.token, rule.TokenMalformed)

abbrev pub token_signed : Facts → Condition Rule
token_signed f = (is_signed f.token, rule.TokenSignature)

abbrev pub token_read : Facts → Condition Rule
token_read f = (is_read f.token, rule.TokenClaims)

abbrev pub token_lasts : Facts → Condition Rule
token_lasts f = (lasts f.token, rule.TokenExpired)

-- The account of the claims, and the session that the token is bound to.

abbrev pub is_enabled : Standing → Bool
is_enabled standing.Absent = false
is_enabled standing.Disabled = false
is_enabled standing.Enabled = true

abbrev pub account_enabled : Facts → Condition Rule
account_enabled f = (is_enabled f.standing, rule.AccountRefused)

abbrev pub without_session : Facts → Condition Rule
without_session f = (is_some_and (claims_of f.token) (λ c. is_none c.session), rule.AccountTokenNeeded)

abbrev pub with_session : Facts → Condition Rule
with_session f = (is_some_and (claims_of f.token) (λ c. is_some c.session), rule.SessionTokenNeeded)

-- claims that are bound to session s, and are of its account
abbrev pub are_of_session : ℕ → Claims → Bool
are_of_session s c = is_some_and c.session (λ bound. bound == s) && (account_of_session s == c.account)

abbrev pub this_session : Facts → Condition Rule
this_session f =
    let of_session = λ (s : ℕ). is_some_and (claims_of f.token) (are_of_session s) in
    (is_some_and (session_number (resource_of f.subject)) of_session, rule.OtherSession)

-- a reviewer of the session, with a token that is bound to no session
abbrev pub is_reviewer : Facts → Bool
is_reviewer f = is_some_and (claims_of f.token) (λ c. is_none c.session) && f.reviewer

-- What the path names is there, and is of the kind that the action is about.

abbrev pub is_account : Subject → Bool
is_account subject.Account = true
is_account _ = false

abbrev pub algorithm_of : Subject → Option ℕ
algorithm_of (subject.Algorithm number) = Some number
algorithm_of _ = None

abbrev pub session_found : Subject → Option SessionFacts
session_found (subject.Session on) = on.found
session_found _ = None

abbrev pub set_found : Subject → Option SetFacts
set_found (subject.Set on) = on.found
set_found _ = None

abbrev pub reviewer_found : Subject → Option SessionFacts
reviewer_found (subject.Reviewer on) = on.found
reviewer_found _ = None

abbrev pub vendor_of : Subject → Option RowSubject
vendor_of (subject.Vendor row) = Some row
vendor_of _ = None

abbrev pub module_of : Subject → Option RowSubject
module_of (subject.Module row) = Some row
module_of _ = None

abbrev pub environment_of : Subject → Option RowSubject
environment_of (subject.Environment row) = Some row
environment_of _ = None

abbrev pub request_of : Subject → Option RowSubject
request_of (subject.Request row) = Some row
request_of _ = None

abbrev pub account_there : Facts → Condition Rule
account_there f = (is_account f.subject, rule.NoResource)

-- the twelve algorithms are numbered from 1
abbrev pub algorithm_there : Facts → Condition Rule
algorithm_there f = (is_some_and (algorithm_of f.subject) (λ n. nat_le 1 n && nat_le n 12), rule.NoResource)

abbrev pub session_there : Facts → Condition Rule
session_there f = (is_some (session_found f.subject), rule.NoResource)

abbrev pub set_there : Facts → Condition Rule
set_there f = (is_some (set_found f.subject), rule.NoResource)

abbrev pub reviewer_there : Facts → Condition Rule
reviewer_there f = (is_some (reviewer_found f.subject), rule.NoResource)

abbrev pub vendor_there : Facts → Condition Rule
vendor_there f = (is_some_and (vendor_of f.subject) (λ row. row.found), rule.NoResource)

abbrev pub module_there : Facts → Condition Rule
module_there f = (is_some_and (module_of f.subject) (λ row. row.found), rule.NoResource)

abbrev pub environment_there : Facts → Condition Rule
environment_there f = (is_some_and (environment_of f.subject) (λ row. row.found), rule.NoResource)

abbrev pub request_there : Facts → Condition Rule
request_there f = (is_some_and (request_of f.subject) (λ row. row.found), rule.NoResource)

-- How the session stands.

abbrev pub session_of_set : Option SetFacts → Option SessionFacts
session_of_set None = None
session_of_set (Some found) = Some found.session

-- the session that was found, whatever the path names of it
abbrev pub session_of : Subject → Option SessionFacts
session_of (subject.Session on) = on.found
session_of (subject.Set on) = session_of_set on.found
session_of (subject.Reviewer on) = on.found
session_of _ = None

-- seconds from a session's creation to its end, and to that of its vector sets
abbrev pub session_life : ℕ
session_life = 2592000

abbrev pub set_life : ℕ
set_life = 604800

-- a session is frozen while its last certification request is initial or approved
abbrev pub is_frozen : Option CertificationStatus → Bool
is_frozen None = false
is_frozen (Some status.Initial) = true
is_frozen (Some status.Approved) = true
is_frozen (Some status.Rejected) = false

abbrev pub session_live : Facts → Condition Rule
session_live f = (is_some_and (session_of f.subject) (λ x. not x.cancelled), rule.SessionCancelled)

abbrev pub session_lasts : Facts → Condition Rule
session_lasts f =
    (is_some_and (session_of f.subject) (λ x. nat_lt f.moment (x.created + session_life)), rule.SessionExpired)

abbrev pub session_thawed : Facts → Condition Rule
session_thawed f = (is_some_and (session_of f.subject) (λ x. not (is_frozen x.certification)), rule.SessionFrozen)

abbrev pub is_sample : Facts → Condition Rule
is_sample f = (is_some_and (session_of f.subject) (λ x. x.sample), rule.NotSample)

abbrev pub is_no_sample : Facts → Condition Rule
is_no_sample f = (is_some_and (session_of f.subject) (λ x. not x.sample), rule.SampleNotCertifiable)

abbrev pub has_passed : Facts → Condition Rule
has_passed f = (is_some_and (session_of f.subject) (λ x. x.passed), rule.NotPassed)

-- How the vector set stands.

abbrev pub set_live : Facts → Condition Rule
set_live f = (is_some_and (set_found f.subject) (λ x. not x.cancelled), rule.SetCancelled)

abbrev pub set_lasts : Facts → Condition Rule
set_lasts f = (is_some_and (set_found f.subject) (λ x. nat_lt f.moment (x.session.created + set_life)), rule.SetExpired)

abbrev pub is_unanswered : Facts → Condition Rule
is_unanswered f = (is_some_and (set_found f.subject) (λ x. not x.answered), rule.AlreadySubmitted)

abbrev pub is_answered : Facts → Condition Rule
is_answered f = (is_some_and (set_found f.subject) (λ x. x.answered), rule.NotSubmitted)

-- A login.

abbrev pub login_of : Subject → Option LoginFacts
login_of (subject.Login found) = Some found
login_of _ = None

-- the claims may be given anew to the account: they are its own, and their session too where there is one
abbrev pub may_renew : ℕ → Renewal → Bool
may_renew account renewal.Unasked = true
may_renew account renewal.Unreadable = false
may_renew account (renewal.Reads c) =
    (c.account == account) && is_none_or c.session (λ s. account_of_session s == account)

abbrev pub code_accepted : Facts → Condition Rule
code_accepted f =
    (is_some_and (login_of f.subject) (λ l. is_some_and l.user (λ u. u.enabled && is_some u.step)), rule.LoginRefused)

abbrev pub renewal_allowed : Facts → Condition Rule
renewal_allowed f = (
  is_some_and (login_of f.subject)
      (λ l. is_some_and l.user (λ u. may_renew u.account l.renewal)),
  rule.RenewalRefused,
)
