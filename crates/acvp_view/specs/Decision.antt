-- What a decision on a certification needs: each vector set of its test session, the cancelled ones too, and what the
-- account reads at this moment of all that the certification names.
use Rattle.std.specs.Prelude.{◌≡◌, ◌≢◌, ℕ, zero, suc, ◌+◌, Bool, List, [], ◌∷◌, ◌++◌, false, true, codes, decimal, drop}
use Rattle.std.specs.Prelude.{Option, Some, None, option_and_then, Result, Ok, Err, OnOk}
use Rattle.acvp_answers.specs.declared.verdict.Disposition.{Disposition}
use Rattle.acvp_answers.specs.declared.verdict.Verdict.{Verdict}
use Rattle.acvp_caps.specs.Capability.{CapabilityValue}
use Rattle.acvp_caps.specs.Registered.{registered_text}
use Rattle.acvp_desk.specs.Answer.{answer, spare}
use Rattle.acvp_desk.specs.Errors.{error_body}
use Rattle.acvp_desk.specs.Login.{token_life}
use Rattle.acvp_desk.specs.Registries.{kind_of}
use Rattle.acvp_desk.specs.Request.{RequestValue, bearer}
use Rattle.acvp_desk.specs.Serves.{Holds}
use Rattle.acvp_desk.specs.Kept.{IsKept}
use Rattle.acvp_desk.specs.declared.desk.DeskReply.{DeskReply}
use Rattle.acvp_desk.specs.declared.desk.DeskReply.TheVariants.{Given, Denied}
use Rattle.acvp_desk.specs.declared.keys.Keys.{Keys}
use Rattle.acvp_desk.specs.declared.request.Ask.TheVariants as ask
use Rattle.acvp_desk.specs.declared.wish.Registry.{Registry}
use Rattle.acvp_desk.specs.declared.wish.Registry.TheVariants.{Vendors, Modules, Environments}
use Rattle.acvp_desk.specs.declared.wish.RegistryWish.TheVariants as on_registry
use Rattle.acvp_desk.specs.declared.wish.SessionWish.{SessionWish}
use Rattle.acvp_desk.specs.declared.wish.SessionWish.TheVariants as on_session
use Rattle.acvp_desk.specs.declared.wish.Wish.{Wish}
use Rattle.acvp_desk.specs.declared.wish.Wish.TheVariants as wish
use Rattle.acvp_json.specs.Data.{Data}
use Rattle.acvp_json.specs.SetResults.{set_results_data}
use Rattle.acvp_json.specs.Urls.{session_url}
use Rattle.acvp_json.specs.Written.{body_of}
use Rattle.acvp_policy.specs.declared.rule.Rule.{Rule}
use Rattle.acvp_policy.specs.declared.rule.Rule.TheVariants.{Unavailable}
use Rattle.acvp_registry.specs.Object.{object_vendor}
use Rattle.acvp_registry.specs.Url.{url_of}
use Rattle.acvp_registry.specs.declared.kind.Kind.TheVariants.{Module}
use Rattle.acvp_tables.specs.Content.{Content, object_at, set_at, set_summary, set_verdicts}
use Rattle.acvp_tables.specs.Meaning.{Meaning}
use Rattle.acvp_tables.specs.State.{AreWellNumbered, first_of_session, state_of}
use Rattle.acvp_tables.specs.declared.rows.Certification.{Certification}
use Rattle.acvp_tables.specs.declared.rows.SetRow.{SetRow}
use Rattle.acvp_tables.specs.declared.summary.SetSummary.{SetSummary}
use Rattle.acvp_token.specs.TokenText.{ring_token_text}
use Rattle.acvp_view.specs.Escaped.{TakesShown}
use Rattle.acvp_view.specs.declared.form.Form.{Form}
use Rattle.acvp_view.specs.declared.form.Form.TheVariants.{Words, Json}

-- ---- a vector set

abbrev pub spaced : List ℕ → List ℕ → List ℕ
spaced first second = first ++ codes " " ++ second

abbrev pub state_word : Bool → List ℕ
state_word true = codes "cancelled"
state_word false = codes "kept"

abbrev pub set_words : ℕ → List ℕ → List ℕ
set_words number text = codes "vectorSet " ++ decimal number ++ codes " " ++ text

abbrev pub capability_object : ℕ → List ℕ → List ℕ → List ℕ
capability_object number state capability =
    codes "{\"capability\":" ++ capability ++ codes ",\"state\":\"" ++ state ++ codes "\",\"vectorSet\":"
    ++ decimal number ++ codes "}"

-- the number of a vector set, whether it was cancelled, and its capability
abbrev pub capability_text : Form → ℕ → Bool → List ℕ → List ℕ
capability_text Words number cancelled capability = set_words number (spaced (state_word cancelled) capability)
capability_text Json number cancelled capability = capability_object number (state_word cancelled) capability

abbrev pub results_object : ℕ → List ℕ → List ℕ
results_object number results =
    codes "{\"results\":" ++ results ++ codes ",\"vectorSet\":" ++ decimal number ++ codes "}"

-- its number, and the body of its results
abbrev pub results_text : Form → ℕ → List ℕ → List ℕ
results_text Words number results = set_words number results
results_text Json number results = results_object number results

-- what its last answers came to, where it has any
abbrev pub results_texts : Form → ℕ → Option Disposition → Option (List Verdict) → List (List ℕ)
results_texts form number (Some disposition) (Some verdicts) =
    results_text form number (body_of (set_results_data number disposition verdicts)) ∷ []
results_texts form number (Some disposition) None = []
results_texts form number None verdicts = []

-- The texts of a vector set: its capability, as a JSON text that reads back as it, and its results.
pub record AreSetTexts (form : Form) (set : SetSummary) (capability : CapabilityValue)
    (verdicts : Option (List Verdict)) (texts : List (List ℕ)) : Type 0 where
  pub capability_read : List ℕ
  pub reads_back : registered_text capability_read ≡ Ok (Some capability)
  pub are : texts ≡ capability_text form set.number set.cancelled capability_read
      ∷ results_texts form set.number set.disposition verdicts

abbrev pub AreRowTexts : Form → Option SetRow → List (List ℕ) → Type 0
AreRowTexts form None texts = texts ≡ []
AreRowTexts form (Some row) texts = AreSetTexts form (set_summary row) row.capability (set_verdicts row) texts

-- those of the vector set of a number, where there is one
abbrev pub AreTextsAt : Form → ℕ → Content → List (List ℕ) → Type 0
AreTextsAt form number c texts = AreRowTexts form (set_at number c.sets) texts

-- some texts are of one kind, and those behind them of another
abbrev pub AreBoth : (List (List ℕ) → Type 0) → (List (List ℕ) → Type 0) → List (List ℕ) → Type 0
AreBoth First Second texts =
    (front : List (List ℕ)) × (behind : List (List ℕ)) × First front × Second behind × (texts ≡ front ++ behind)

-- those of a test session's vector sets at its first places
unfoldable pub AreTextsTo : Form → ℕ → ℕ → Content → List (List ℕ) → Type 0
AreTextsTo form session zero c texts = texts ≡ []
AreTextsTo form session (suc places) c texts =
    AreBoth (AreTextsTo form session places c) (AreTextsAt form (first_of_session session + places) c) texts

-- how many places there are
abbrev pub most_sets : ℕ
most_sets = 20

-- ---- what the account reads

abbrev pub read_object : List ℕ → List ℕ → List ℕ
read_object path body = codes "{\"body\":" ++ body ++ codes ",\"path\":\"" ++ path ++ codes "\"}"

-- a path, and the body that a request to read it is answered
abbrev pub read_text : Form → List ℕ → List ℕ → List ℕ
read_text Words path body = spaced path body
read_text Json path body = read_object path body

-- the token that the account has at a moment, which may be bound to a test session
abbrev pub token_for : Keys → ℕ → Option ℕ → ℕ → List ℕ
token_for keys account session moment = ring_token_text keys.token (record {
  account = account;
  session = session;
  issued = moment;
  expires = moment + token_life;
})

-- what is asked of the desk with a token
abbrev pub asks_with : List ℕ → Wish → RequestValue
asks_with token it = record { ask = ask.Caller it; token = bearer token; body = [] }

-- the body of what is given, or of a denial
abbrev pub body_told : Result (Option Data) Rule → List ℕ
body_told (Ok None) = []
body_told (Ok (Some shown)) = body_of shown
body_told (Err rule) = error_body rule

-- the body that the desk answers with at a moment to who asks this with a token
unfoldable pub read_body : Keys → ℕ → List ℕ → Wish → Content → List ℕ
read_body keys moment token it c = body_told (answer keys moment (asks_with token it) (state_of c))

-- it reads a test session, what its answers come to, or an object
abbrev pub is_reading : Wish → Bool
is_reading (wish.Session n on_session.Read) = true
is_reading (wish.Session n on_session.Results) = true
is_reading (wish.Registry (on_registry.Read registry n)) = true
is_reading _ = false

-- ---- all that a certification names

-- what is read at a path, where there is one
abbrev pub reads_at : Form → Option (List ℕ) → List ℕ → List (List ℕ)
reads_at form None body = []
reads_at form (Some path) body = read_text form path body ∷ []

-- of a test session, or of what lies below it
abbrev pub session_reads : Form → Keys → ℕ → List ℕ → ℕ → List ℕ → SessionWish → Content → List (List ℕ)
session_reads form keys moment token session below it c =
    read_text form (session_url session ++ below) (read_body keys moment token (wish.Session session it) c) ∷ []

-- of an object of a registry
abbrev pub object_reads : Form → Keys → ℕ → List ℕ → Registry → ℕ → Content → List (List ℕ)
object_reads form keys moment token registry number c =
    reads_at form (url_of (kind_of registry) number)
    (read_body keys moment token (wish.Registry (on_registry.Read registry number)) c)

abbrev pub vendor_reads : Form → Keys → ℕ → List ℕ → Option ℕ → Content → List (List ℕ)
vendor_reads form keys moment token None c = []
vendor_reads form keys moment token (Some vendor) c = object_reads form keys moment token Vendors vendor c

-- the test session and its results
abbrev pub whole_session_reads : Form → Keys → ℕ → List ℕ → ℕ → Content → List (List ℕ)
whole_session_reads form keys moment token session c =
    session_reads form keys moment token session [] on_session.Read c
    ++ session_reads form keys moment token session (codes "/results") on_session.Results c

-- a vendor and an operational environment
abbrev pub vendor_and_environment_reads : Form → Keys → ℕ → List ℕ → Option ℕ → ℕ → Content → List (List ℕ)
vendor_and_environment_reads form keys moment token vendor environment c =
    vendor_reads form keys moment token vendor c
    ++ object_reads form keys moment token Environments environment c

-- the module, and these
abbrev pub part_reads : Form → Keys → ℕ → List ℕ → Certification → Option ℕ → Content → List (List ℕ)
part_reads form keys moment token it vendor c =
    object_reads form keys moment token Modules it.«module» c
    ++ vendor_and_environment_reads form keys moment token vendor it.environment c

-- the test session by a token that is bound to it, and the parts by one that isn't bound
abbrev pub named_reads : Form → Keys → ℕ → List ℕ → List ℕ → Certification → Option ℕ → Content → List (List ℕ)
named_reads form keys moment bound own it vendor c =
    whole_session_reads form keys moment bound it.session c ++ part_reads form keys moment own it vendor c

-- the vendor that the module of a number names
unfoldable pub vendor_of : ℕ → Content → Option ℕ
vendor_of number c = option_and_then (λ row. object_vendor row.object) (object_at Module number c.objects)

-- what an account reads of all that its certification names
abbrev pub account_reads : Form → Keys → ℕ → ℕ → Certification → Option ℕ → Content → List (List ℕ)
account_reads form keys moment account it vendor c =
    named_reads form keys moment (token_for keys account (Some it.session) moment) (token_for keys account None moment)
    it vendor c

-- the vector sets of the session, and all that the account reads
abbrev pub AreNeeded : Form → Keys → ℕ → ℕ → Certification → Content → List (List ℕ) → Type 0
AreNeeded form keys moment account it c texts =
    AreBoth (AreTextsTo form it.session most_sets c)
    (λ behind. behind ≡ account_reads form keys moment account it (vendor_of it.«module» c) c) texts

-- ---- what is handed on

-- the text of a reply's body; an unavailable desk has told nothing
abbrev pub IsBodyText : DeskReply → List ℕ → Type 0
IsBodyText (Given reply) text = text ≡ drop spare reply.items
IsBodyText (Denied rule) text = (rule ≢ Unavailable) × (text ≡ error_body rule)

module _ {L : Type 0} (form : Form) (takes : L → List ℕ → L → Type 0) {T : Type 0} (meaning : Meaning T) where
  open meaning use {stands, is_open, is_clean}

  -- where it succeeds, texts that are so of each content that the tables stood for, as they are shown
  abbrev pub Shows : {X E : Type 0} → Result X E → T → T → L → L → (Content → List (List ℕ) → Type 0) → Type 0
  Shows result old new before after Are =
      is_open new → OnOk result ((c : Content) → AreWellNumbered c → stands old c
      → (texts : List (List ℕ)) × Are c texts × TakesShown form takes texts before after)

  -- where it succeeds and the disk is clean, these texts of each content that the tables stood for, and they stand for
  -- it still
  abbrev pub ShowsRead : {X E : Type 0} → List (List ℕ) → Result X E → T → T → L → L
      → (Content → List (List ℕ)) → Type 0
  ShowsRead seeds result old new before after told =
      is_clean new → OnOk result ((c : Content) → IsKept seeds c → Holds meaning old c
      → TakesShown form takes (told c) before after × Holds meaning new c)
