-- The document of an approved certification: compact JSON, with the members of each object ascending by name; and the
-- page that says the same.
use Rattle.std.specs.Prelude.{ℕ, List, ◌++◌, Bool, false, true, codes, decimal, map, string_bytes}
use Rattle.std.specs.Prelude.{Option, Some, None, option_and_then, option_map}
use Rattle.std.specs.List.{join_by}
use Rattle.hex.specs.Hex.{encode_lower}
use Rattle.acvp_mac.specs.Hash.{digest_of}
use Rattle.acvp_mac.specs.declared.HashName.TheVariants.{Sha256}
use Rattle.acvp_caps.specs.Capability.{CapabilityValue}
use Rattle.acvp_gen.specs.Prompts.{prompts_of}
use Rattle.acvp_answers.specs.Answer.{Answer}
use Rattle.acvp_answers.specs.Standards.{standard_of}
use Rattle.acvp_answers.specs.Verdicts.{verdicts_of, disposition_of}
use Rattle.acvp_answers.specs.declared.verdict.Disposition.{Disposition}
use Rattle.acvp_json.specs.KeptAnswers.{kept_text}
use Rattle.acvp_json.specs.SetResults.{disposition_word}
use Rattle.acvp_json.specs.Time.{time_of}
use Rattle.acvp_tables.specs.Content.{Content, request_at, request_summary}
use Rattle.acvp_tables.specs.declared.rows.Certification.{Certification}
use Rattle.acvp_tables.specs.declared.rows.RequestStatus.{RequestStatus}
use Rattle.acvp_tables.specs.declared.rows.RequestStatus.TheVariants as status
use Rattle.acvp_tables.specs.declared.summary.RequestPurpose.{RequestPurpose}
use Rattle.acvp_tables.specs.declared.summary.RequestPurpose.TheVariants as asks
use Rattle.acvp_tables.specs.declared.summary.RequestSummary.{RequestSummary}
use Rattle.acvp_view.specs.Escaped.{escaped}
use Rattle.acvp_view.specs.Page.{asked_rows, named_rows, page_end, page_head, page_middle, set_row}
use Rattle.acvp_view.specs.declared.certificate.Certificate.{Certificate}
use Rattle.acvp_view.specs.declared.certificate.CertifiedSet.{CertifiedSet}

-- ---- what is certified

-- what a request asks for is a certification, and it was approved
abbrev pub certified_if : RequestPurpose → RequestStatus → Option Certification
certified_if (asks.Certification it) (status.Approved number) = Some it
certified_if (asks.Certification it) status.Initial = None
certified_if (asks.Certification it) status.Rejected = None
certified_if (asks.Registration kind) decided = None

-- the account that asked, and what is certified
abbrev pub approved_in : RequestSummary → Option (ℕ × Certification)
approved_in request = option_map (λ it. (request.account, it)) (certified_if request.purpose request.status)

-- the same by the request of a number, where there is one
unfoldable pub approved_by : ℕ → Content → Option (ℕ × Certification)
approved_by number c = option_and_then approved_in (option_map request_summary (request_at number c.requests))

-- ---- a vector set

-- the digest of its answers: SHA-256 over their text as it is kept
unfoldable pub answers_digest : List Answer → List ℕ
answers_digest answers = digest_of Sha256 (kept_text answers)

-- what its answers come to, worked out anew under its seed
unfoldable pub disposition_under : List ℕ → ℕ → CapabilityValue → List Answer → Disposition
disposition_under seed number capability answers =
    disposition_of (verdicts_of (standard_of (prompts_of seed number capability)) answers)

-- the digest of its answers and its capability
unfoldable pub set_front_text : CertifiedSet → List ℕ
set_front_text set =
    codes "{\"answersSha256\":\"" ++ encode_lower set.digest ++ codes "\",\"capability\":"
    ++ string_bytes set.capability

-- what they come to, and its number
unfoldable pub set_rest_text : CertifiedSet → List ℕ
set_rest_text set =
    codes ",\"disposition\":\"" ++ disposition_word set.disposition ++ codes "\",\"vsId\":" ++ decimal set.number
    ++ codes "}"

abbrev pub set_text : CertifiedSet → List ℕ
set_text set = set_front_text set ++ set_rest_text set

-- a vector set in the document, or on the page
abbrev pub set_part : Bool → CertifiedSet → List ℕ
set_part false set = set_text set
set_part true set = set_row set

abbrev pub between_sets : Bool → List ℕ
between_sets false = codes ","
between_sets true = codes "\n"

-- all of them: the items of the array, or the rows of the table
abbrev pub sets_text : Bool → List CertifiedSet → List ℕ
sets_text page sets = join_by (λ text. text) (between_sets page) (map (set_part page) sets)

-- ---- the document

-- for whom and of what: the account, the module and the operational environment
unfoldable pub named_text : Certificate → List ℕ
named_text it =
    codes "{\"account\":" ++ decimal it.account ++ codes ",\"module\":" ++ string_bytes it.«module»
    ++ codes ",\"oe\":" ++ string_bytes it.environment

-- the request that was approved, and the test session and when it was made
unfoldable pub session_text : Certificate → List ℕ
session_text it =
    codes ",\"requestUrl\":\"/acvp/v1/requests/" ++ decimal it.request
    ++ codes "\",\"testSession\":{\"createdOn\":\"" ++ time_of it.created
    ++ codes "\",\"url\":\"/acvp/v1/testSessions/" ++ decimal it.session ++ codes "\"}"

-- its vector sets, and the module's vendor
unfoldable pub certified_text : Certificate → List ℕ
certified_text it =
    codes ",\"vectorSets\":[" ++ sets_text false it.sets.items ++ codes "],\"vendor\":" ++ string_bytes it.vendor
    ++ codes "}"

abbrev pub certificate_text : Certificate → List ℕ
certificate_text it = named_text it ++ session_text it ++ certified_text it

-- ---- the page, and which of both

abbrev pub page_text : Certificate → List ℕ
page_text it =
    (page_head ++ asked_rows it ++ named_rows it) ++ page_middle ++ sets_text true it.sets.items ++ page_end

abbrev pub document : Bool → Certificate → List ℕ
document false it = escaped (certificate_text it)
document true it = page_text it
