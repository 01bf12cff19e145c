-- A request, by its columns.
use Rattle.std.specs.Prelude.{◌≡◌, ◌<◌, ◌^◌, ℕ, List, ◌∷◌}
use Rattle.sqlite_value.specs.declared.value.Value.TheVariants.{Text}
use Rattle.sqlite_value.specs.Order.{Row}
use Rattle.acvp_tables.specs.declared.rows.RequestBody.{RequestBody}
use Rattle.acvp_tables.specs.declared.rows.RequestBody.TheVariants as body
use Rattle.acvp_tables.specs.declared.rows.RequestRow.{RequestRow}
use Rattle.acvp_tables.specs.declared.rows.RequestStatus.TheVariants as status
use Rattle.acvp_store.specs.Values.{whole}
use Rattle.acvp_store.specs.Stands.{body_number, body_text, BodyReads}
use Rattle.acvp_store.specs.Private.Objects.{IsObject, IsOfKind, IsReadObject}
use Rattle.acvp_store.specs.Private.Summaries.{FitsCertification, status_shown}

-- one on which nothing is decided yet
pub record IsAsked (row : RequestRow) (number account kind : ℕ) (body : List ℕ) : Type 0 where
  pub number_is : row.number ≡ number
  pub account_is : row.account ≡ account
  pub kind_is : body_number row.body ≡ kind
  pub body_is : body_text row.body ≡ body
  pub status_is : row.status ≡ status.Initial
  pub reads : BodyReads row.body

-- a request, as a query shows it
abbrev pub request_shown : RequestRow → Row
request_shown r =
    whole r.number ∷ whole r.account ∷ whole (body_number r.body) ∷ Text (body_text r.body) ∷ status_shown r.status

-- a vendor, a module or an environment, or a certification; and the text reads as it
abbrev pub IsReadable : RequestBody → Type 0
IsReadable b = IsOfKind b × BodyReads b

-- an object as the value of one is read, or a certification whose numbers fit
abbrev pub FitsBody : RequestBody → Type 0
FitsBody (body.Registration o) = IsObject o
FitsBody (body.Certification c) = FitsCertification c

-- what is asked to register is an object as the value of one is read; and the text of either reads as it
abbrev pub IsJudgedBody : RequestBody → Type 0
IsJudgedBody (body.Registration o) = IsReadObject o
IsJudgedBody (body.Certification c) = BodyReads (body.Certification c)

abbrev pub IsJudgedRequest : RequestRow → Type 0
IsJudgedRequest r = (r.account < 2 ^ 16) × IsJudgedBody r.body
