-- The reply to a request: an HTTP/1.1 response (RFC 9112, section 4) with a JSON body.
use Rattle.std.specs.Prelude.{◌≡◌, ℕ, List, [], ◌++◌, length, codes, decimal, Option, Some, None, unwrap_or}
use Rattle.http.specs.StatusCode.{reason_phrase}
use Rattle.httpdate.specs.Date.{unix_secs, date_text}
use Rattle.httpdate.specs.declared.date.HttpDate.{HttpDate}
use Rattle.acvp_desk.specs.Errors.{error_body}
use Rattle.acvp_http.specs.Paths.{allowed_on}
use Rattle.acvp_http.specs.declared.path.Path.{Path}
use Rattle.acvp_policy.specs.declared.rule.Rule.{Rule}
use Rattle.acvp_policy.specs.declared.rule.Rule.TheVariants.{NoMethod, TokenMissing, TokenMalformed, TokenSignature}
use Rattle.acvp_policy.specs.declared.rule.Rule.TheVariants.{TokenClaims, TokenExpired, ClockOutOfRange, Unavailable}
use Rattle.acvp_policy.specs.Rule.{rule_status}

-- the phrase that stands beside a status code
abbrev pub phrase_of : ℕ → List ℕ
phrase_of status = unwrap_or (reason_phrase status) []

-- a line of the head
abbrev pub line : List ℕ → List ℕ
line text = text ++ codes "\r\n"

abbrev pub date_line : Option (List ℕ) → List ℕ
date_line None = []
date_line (Some date) = line (codes "Date: " ++ date)

-- the field that a refusal with status 401 has beside those of every reply: how to authenticate (RFC 9110, section
-- 11.6.1; RFC 6750)
abbrev pub rule_line : Rule → List ℕ
rule_line TokenMissing = line (codes "WWW-Authenticate: Bearer")
rule_line TokenMalformed = line (codes "WWW-Authenticate: Bearer")
rule_line TokenSignature = line (codes "WWW-Authenticate: Bearer")
rule_line TokenClaims = line (codes "WWW-Authenticate: Bearer")
rule_line TokenExpired = line (codes "WWW-Authenticate: Bearer")
rule_line _ = []

-- the head of a reply whose body has this length
abbrev pub head_text : ℕ → Option (List ℕ) → List ℕ → ℕ → List ℕ
head_text status date extra_fields length_of_body =
    line (codes "HTTP/1.1 " ++ decimal status ++ codes " " ++ phrase_of status)
    ++ date_line date
    ++ line (codes "Content-Type: application/json")
    ++ line (codes "Content-Length: " ++ decimal length_of_body)
    ++ line (codes "Connection: close")
    ++ extra_fields ++ codes "\r\n"

-- a whole reply
unfoldable pub framed : ℕ → Option (List ℕ) → List ℕ → List ℕ → List ℕ
framed status date extra_fields body = head_text status date extra_fields (length body) ++ body

-- the replies of two rules show no date: where the clock gives none, and where memory was refused
abbrev pub date_shown : Option (List ℕ) → Rule → Option (List ℕ)
date_shown date ClockOutOfRange = None
date_shown date Unavailable = None
date_shown date _ = date

-- the reply that names the rule
abbrev pub refusal : Option (List ℕ) → Rule → List ℕ
refusal date rule = framed (rule_status rule) (date_shown date rule) (rule_line rule) (error_body rule)

-- where a path hasn't the method: the reply names those that it has
abbrev pub method_refusal : List ℕ → Path → List ℕ
method_refusal date path =
    framed (rule_status NoMethod) (Some date) (line (codes "Allow: " ++ allowed_on path)) (error_body NoMethod)

-- the text is the date and time of the moment as IMF-fixdate (RFC 9110, section 5.6.7)
abbrev pub IsDateOf : ℕ → List ℕ → Type 0
IsDateOf moment text = (date : HttpDate) × (unix_secs date ≡ moment) × (text ≡ date_text date)
