-- What the operator is shown of accounts and of requests: of each a few lines of words that fit a terminal, or a JSON
-- object, whose members ascend.
use Rattle.std.specs.Prelude.{ℕ, List, [], ◌++◌, ◌==◌, codes, decimal, Bool, true, false, ◌||◌, if◌then◌else◌}
use Rattle.std.specs.Prelude.{◌+◌, nat_lt, length}
use Rattle.std.specs.Prelude.{Option, Some, None, option_and_then, option_map}
use Rattle.std.specs.List.{before_first, flat_map}
use Rattle.serde_json.specs.Data as json
use Rattle.serde_json.specs.Data.{Data, object, member, no_members, string, boolean, null, unsigned}
use Rattle.serde_json.specs.Written.{compact_text}
use Rattle.acvp_json.specs.Nullable.{number_or_null, text_or_null}
use Rattle.acvp_json.specs.Time.{time_of}
use Rattle.acvp_registry.specs.Object.{object_name}
use Rattle.acvp_registry.specs.declared.counts.Counts.{Counts}
use Rattle.acvp_registry.specs.declared.kind.Kind.{Kind}
use Rattle.acvp_registry.specs.declared.kind.Kind.TheVariants.{Vendor, Module, Environment, Certification}
use Rattle.acvp_tables.specs.Content.{Content, account_at, account_numbers, counts_of, object_at, request_at}
use Rattle.acvp_tables.specs.Content.{requests_of, session_at}
use Rattle.acvp_tables.specs.declared.rows.AccountRow.{AccountRow}
use Rattle.acvp_tables.specs.declared.rows.Certification.{Certification as Certified}
use Rattle.acvp_tables.specs.declared.rows.RequestBody.{RequestBody}
use Rattle.acvp_tables.specs.declared.rows.RequestBody.TheVariants as body
use Rattle.acvp_tables.specs.declared.rows.RequestRow.{RequestRow}
use Rattle.acvp_tables.specs.declared.rows.RequestStatus.{RequestStatus}
use Rattle.acvp_tables.specs.declared.rows.RequestStatus.TheVariants as status
use Rattle.acvp_tables.specs.declared.rows.SessionRow.{SessionRow}
use Rattle.acvp_desk.specs.Orders.{is_initial}
use Rattle.acvp_view.specs.Escaped.{escaped}
use Rattle.acvp_view.specs.Folded.{folded}
use Rattle.acvp_view.specs.Lines.{lines_of}
use Rattle.acvp_view.specs.declared.form.Form.{Form}
use Rattle.acvp_view.specs.declared.form.Form.TheVariants.{Words, Json}

-- ---- an account

abbrev pub enabled_word : Bool → List ℕ
enabled_word true = codes "enabled"
enabled_word false = codes "disabled"

-- how many test sessions and requests it has
abbrev pub uses_text : Counts → List ℕ
uses_text n = codes " sessions " ++ decimal n.sessions ++ codes " requests " ++ decimal n.requests

-- how many registered objects it has of each kind
abbrev pub objects_text : Counts → List ℕ
objects_text n =
    codes "vendors " ++ decimal n.vendors ++ codes " modules " ++ decimal n.modules ++ codes " environments "
    ++ decimal n.environments

-- how a line begins that stands behind the first
abbrev pub next_line : List ℕ
next_line = codes "\n    "

-- one line of two parts if they fit in it, or else a line for each
abbrev pub in_lines : List ℕ → List ℕ → List ℕ
in_lines front behind =
    if nat_lt (length front + length behind) 80 then front ++ codes " " ++ behind else front ++ next_line ++ behind

abbrev pub account_words : AccountRow → Counts → List ℕ
account_words row n =
    in_lines ((decimal row.number ++ codes " " ++ enabled_word row.enabled) ++ uses_text n) (objects_text n)

abbrev pub account_data : AccountRow → Counts → Data
account_data row n =
    object (member (codes "account") (json.number (unsigned row.number))
    (member (codes "enabled") (boolean row.enabled)
    (member (codes "environments") (json.number (unsigned n.environments))
    (member (codes "modules") (json.number (unsigned n.modules))
    (member (codes "requests") (json.number (unsigned n.requests))
    (member (codes "sessions") (json.number (unsigned n.sessions))
    (member (codes "vendors") (json.number (unsigned n.vendors)) no_members)))))))

abbrev pub account_text : Form → AccountRow → Counts → List ℕ
account_text Words row n = folded (account_words row n)
account_text Json row n = compact_text (account_data row n)

-- what is shown of the account of a number, where there is one
unfoldable pub account_line : Form → ℕ → Content → Option (List ℕ)
account_line form number c =
    option_map (λ row. account_text form row (counts_of number c)) (account_at number c.accounts)

-- ---- what belongs to a request, of the other records

-- the account of a number is there, and enabled
abbrev pub enabled_in : Option AccountRow → Bool
enabled_in None = false
enabled_in (Some row) = row.enabled

unfoldable pub is_enabled : ℕ → Content → Bool
is_enabled account c = enabled_in (account_at account c.accounts)

-- the name of what it asks to register, or of the module that is to be certified
unfoldable pub name_asked : RequestBody → Content → Option (List ℕ)
name_asked (body.Registration it) c = Some (object_name it)
name_asked (body.Certification it) c =
    option_map (λ row. object_name row.object) (object_at Module it.«module» c.objects)

-- the test session that is to be certified
unfoldable pub session_asked : RequestBody → Content → Option SessionRow
session_asked (body.Registration it) c = None
session_asked (body.Certification it) c = session_at it.session c.sessions

-- ---- a request

abbrev pub kind_word : Kind → List ℕ
kind_word Vendor = codes "vendor"
kind_word Module = codes "module"
kind_word Environment = codes "environment"
kind_word Certification = codes "certification"

-- what it asks for
abbrev pub kind_asked : RequestBody → Kind
kind_asked (body.Registration it) = it.kind
kind_asked (body.Certification it) = Certification

abbrev pub status_word : RequestStatus → List ℕ
status_word status.Initial = codes "initial"
status_word (status.Approved number) = codes "approved"
status_word status.Rejected = codes "rejected"

-- the number that an approval gave
abbrev pub approved_number : RequestStatus → Option ℕ
approved_number status.Initial = None
approved_number (status.Approved number) = Some number
approved_number status.Rejected = None

-- the time of a moment before the year 10000, or else its number
abbrev pub moment_text : ℕ → List ℕ
moment_text moment = if nat_lt moment 253402300800 then time_of moment else decimal moment

-- ---- its lines of words: each that stands behind the first is indented

abbrev pub disabled_words : Bool → List ℕ
disabled_words true = []
disabled_words false = codes " (disabled)"

abbrev pub approved_words : Option ℕ → List ℕ
approved_words None = []
approved_words (Some number) = codes " " ++ decimal number

-- whose it is, what it asks for, and what was decided
abbrev pub request_head : RequestRow → Bool → List ℕ
request_head it enabled =
    (decimal it.number ++ codes " account " ++ decimal it.account ++ disabled_words enabled)
    ++ codes " " ++ kind_word (kind_asked it.body) ++ codes " " ++ status_word it.status

-- what stands before a capital T, or all if there is none
abbrev pub day_in : List ℕ → List ℕ
day_in = before_first (λ b. b == 84)

-- the test session, the day when it was made, and how many of its vector sets have passed
abbrev pub session_words : Option SessionRow → List ℕ
session_words None = []
session_words (Some row) =
    next_line ++ codes "session " ++ decimal row.number ++ codes " of " ++ day_in (moment_text row.created) ++ codes " "
    ++ decimal row.passed ++ codes " of " ++ decimal row.live ++ codes " passed"

-- a name stands last, as a JSON string without characters that act on a terminal
abbrev pub name_words : Option (List ℕ) → List ℕ
name_words None = []
name_words (Some name) = next_line ++ escaped (compact_text (string name))

unfoldable pub decided_words : RequestRow → Bool → List ℕ
decided_words it enabled = request_head it enabled ++ approved_words (approved_number it.status)

unfoldable pub rest_words : Option SessionRow → Option (List ℕ) → List ℕ
rest_words session name = session_words session ++ name_words name

abbrev pub request_words : RequestRow → Bool → Option SessionRow → Option (List ℕ) → List ℕ
request_words it enabled session name = decided_words it enabled ++ rest_words session name

-- ---- its JSON object: each member is there, null if there is no value

-- what is to be certified
unfoldable pub certification_data : Certified → Option SessionRow → Data
certification_data it session =
    object (member (codes "createdOn") (text_or_null (option_map (λ row. moment_text row.created) session))
    (member (codes "environment") (json.number (unsigned it.environment))
    (member (codes "module") (json.number (unsigned it.«module»))
    (member (codes "passed") (number_or_null (option_map (λ row. row.passed) session))
    (member (codes "session") (json.number (unsigned it.session))
    (member (codes "vectorSets") (number_or_null (option_map (λ row. row.live) session)) no_members))))))

unfoldable pub certified_data : RequestBody → Option SessionRow → Data
certified_data (body.Registration it) session = null
certified_data (body.Certification it) session = certification_data it session

unfoldable pub request_data : RequestRow → Bool → Option SessionRow → Option (List ℕ) → Data
request_data it enabled session name =
    object (member (codes "account") (json.number (unsigned it.account))
    (member (codes "approved") (number_or_null (approved_number it.status))
    (member (codes "certification") (certified_data it.body session)
    (member (codes "enabled") (boolean enabled)
    (member (codes "kind") (string (kind_word (kind_asked it.body)))
    (member (codes "name") (text_or_null name)
    (member (codes "request") (json.number (unsigned it.number))
    (member (codes "status") (string (status_word it.status)) no_members))))))))

-- ---- what is shown of it

abbrev pub request_parts : Form → RequestRow → Bool → Option SessionRow → Option (List ℕ) → List ℕ
request_parts Words it enabled session name = folded (request_words it enabled session name)
request_parts Json it enabled session name = escaped (compact_text (request_data it enabled session name))

-- with what the other records say of its account and of what it asks for
unfoldable pub request_text : Form → Content → RequestRow → List ℕ
request_text form c it =
    request_parts form it (is_enabled it.account c) (session_asked it.body c) (name_asked it.body c)

-- it waits for the decision, or all are shown
abbrev pub if_shown : Form → Bool → Content → RequestRow → Option (List ℕ)
if_shown form all c it = if all || is_initial it.status then Some (request_text form c it) else None

-- what is shown of the request of a number, where it is
unfoldable pub request_line : Form → Bool → ℕ → Content → Option (List ℕ)
request_line form all number c = option_and_then (if_shown form all c) (request_at number c.requests)

-- ---- all of them

-- each account, by their numbers
abbrev pub account_lines : Form → Content → List (List ℕ)
account_lines form c = flat_map (λ number. lines_of (account_line form number c)) account_numbers

-- each request of an account that is shown, in their order
abbrev pub request_lines_of : Form → Bool → Content → ℕ → List (List ℕ)
request_lines_of form all c account =
    flat_map (λ row. lines_of (if_shown form all c row)) (requests_of account c.requests)

-- those of one account after another, by their numbers
abbrev pub request_lines : Form → Bool → Content → List (List ℕ)
request_lines form all c = flat_map (request_lines_of form all c) account_numbers
