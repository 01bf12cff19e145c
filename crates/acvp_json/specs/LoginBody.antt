-- The body of a login.
use Rattle.std.specs.Prelude.{List, [], ◌∷◌, codes, is_some, Option, option_map, option_and_then}
use Rattle.serde_json.specs.Data.{Data}
use Rattle.serde_json.specs.Find.{get}
use Rattle.acvp_json.specs.declared.fault.BodyFault.{BodyFault}
use Rattle.acvp_json.specs.declared.fault.BodyFault.TheVariants.{BodyField}
use Rattle.acvp_json.specs.declared.login_body.LoginBody.{LoginBody}
use Rattle.acvp_json.specs.Members.{text_at, optional_text}
use Rattle.acvp_caps.specs.Conditions.{Condition}

-- what the object of a login says: two texts, and a third that may be absent
abbrev pub login_body_of : Data → Option LoginBody
login_body_of d =
    option_and_then (λ user. option_and_then
    (λ password. option_map (λ access_token. record {
      user = user;
      password = password;
      access_token = access_token;
    })
    (optional_text (get (codes "accessToken") d))) (text_at (codes "password") d)) (text_at (codes "user") d)

abbrev pub login_body_conditions : Data → List (Condition BodyFault)
login_body_conditions d = (is_some (login_body_of d), BodyField) ∷ []
