-- A request without the object that it asks to register, as a query shows it.
use Rattle.std.specs.Prelude.{◌<◌, ◌^◌, ⊤, ℕ, List, [], ◌∷◌, Option, Some, None}
use Rattle.serde_json.specs.Written.{compact_text}
use Rattle.sqlite.specs.Values.{or_null}
use Rattle.sqlite_value.specs.declared.value.Value.TheVariants.{Text}
use Rattle.sqlite_value.specs.Order.{Row}
use Rattle.acvp_tables.specs.Content.{kind_number}
use Rattle.acvp_tables.specs.State.{given_number}
use Rattle.acvp_tables.specs.declared.rows.RequestBody.TheVariants as body
use Rattle.acvp_tables.specs.declared.rows.Certification.{Certification}
use Rattle.acvp_tables.specs.declared.rows.RequestStatus.{RequestStatus}
use Rattle.acvp_tables.specs.declared.summary.RequestPurpose.{RequestPurpose}
use Rattle.acvp_tables.specs.declared.summary.RequestPurpose.TheVariants as purpose
use Rattle.acvp_tables.specs.declared.summary.RequestSummary.{RequestSummary}
use Rattle.acvp_store.specs.Values.{whole}
use Rattle.acvp_store.specs.Stands.{BodyReads, certification_data, status_number}

abbrev pub purpose_number : RequestPurpose → ℕ
purpose_number (purpose.Registration kind) = kind_number kind
purpose_number (purpose.Certification c) = 4

-- the text of a certification alone
abbrev pub purpose_text : RequestPurpose → Option (List ℕ)
purpose_text (purpose.Registration kind) = None
purpose_text (purpose.Certification c) = Some (compact_text (certification_data c))

-- a vendor, a module or an environment; or a certification whose text reads as it
abbrev pub PurposeReads : RequestPurpose → Type 0
PurposeReads (purpose.Registration kind) = kind_number kind < 4
PurposeReads (purpose.Certification c) = BodyReads (body.Certification c)

-- what was decided, and the number that it gave
abbrev pub status_shown : RequestStatus → Row
status_shown s = whole (status_number s) ∷ or_null whole (given_number s) ∷ []

abbrev pub summary_shown : RequestSummary → Row
summary_shown s = whole s.number ∷ whole s.account ∷ whole (purpose_number s.purpose)
    ∷ or_null Text (purpose_text s.purpose) ∷ status_shown s.status

-- the numbers of its URLs have 19 digits at most
abbrev pub FitsCertification : Certification → Type 0
FitsCertification c = (c.«module» < 10 ^ 19) × (c.environment < 10 ^ 19)

abbrev pub FitsPurpose : RequestPurpose → Type 0
FitsPurpose (purpose.Registration kind) = ⊤
FitsPurpose (purpose.Certification c) = FitsCertification c
