-- The body that names an account as a reviewer.
use Rattle.std.specs.Prelude.{ℕ, ◌&&◌, nat_le, List, [], ◌∷◌, codes, is_some, if◌then◌else◌, Option, None, Some}
use Rattle.std.specs.Prelude.{option_and_then}
use Rattle.serde_json.specs.Data.{Data}
use Rattle.acvp_caps.specs.Conditions.{Condition}
use Rattle.acvp_json.specs.declared.fault.BodyFault.{BodyFault}
use Rattle.acvp_json.specs.declared.fault.BodyFault.TheVariants.{BodyField}
use Rattle.acvp_json.specs.Members.{number_at}

-- the number of an account, from 1 to 9999
abbrev pub account_number : ℕ → Option ℕ
account_number n = if nat_le 1 n && nat_le n 9999 then Some n else None

-- the account that the object names
abbrev pub reviewer_body_of : Data → Option ℕ
reviewer_body_of d = option_and_then account_number (number_at (codes "account") d)

abbrev pub reviewer_body_conditions : Data → List (Condition BodyFault)
reviewer_body_conditions d = (is_some (reviewer_body_of d), BodyField) ∷ []
