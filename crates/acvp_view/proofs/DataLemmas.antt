-- The data of a request have no float, so their text is the compact one.
use Rattle.std.proofs.Common.{◌≡◌, ℕ, List, Bool, false, Option, Some, None, refl}
use Rattle.serde_json.specs.Written.{has_float}
use Rattle.acvp_json.specs.Nullable.{number_or_null, text_or_null}
use Rattle.acvp_tables.specs.declared.rows.RequestBody.{RequestBody}
use Rattle.acvp_tables.specs.declared.rows.RequestBody.TheVariants as body
use Rattle.acvp_tables.specs.declared.rows.RequestRow.{RequestRow}
use Rattle.acvp_tables.specs.declared.rows.SessionRow.{SessionRow}
use Rattle.acvp_view.specs.Listed.{approved_number, certification_data, certified_data, request_data}

number-no_float : (n : Option ℕ) → has_float (number_or_null n) ≡ false
number-no_float None = refl
number-no_float (Some n) = refl

text-no_float : (t : Option (List ℕ)) → has_float (text_or_null t) ≡ false
text-no_float None = refl
text-no_float (Some t) = refl

certified-no_float : (b : RequestBody) (s : Option SessionRow) → has_float (certified_data b s) ≡ false
unfolding certified_data certification_data
certified-no_float (body.Registration it) s = refl
certified-no_float (body.Certification it) None = refl
certified-no_float (body.Certification it) (Some row) = refl

pub request-no_float : (it : RequestRow) (enabled : Bool) (session : Option SessionRow) (name : Option (List ℕ))
    → has_float (request_data it enabled session name) ≡ false
unfolding request_data
request-no_float it enabled session name =
    rw (number-no_float (approved_number it.status), certified-no_float it.body session, text-no_float name) refl
