-- The body of a request for certification.
use Rattle.std.specs.Prelude.{ℕ, List, [], ◌∷◌, codes, Bool, ◌&&◌, is_some, Option, option_map, option_and_then}
use Rattle.serde_json.specs.Data.{Data}
use Rattle.acvp_registry.specs.declared.kind.Kind.{Kind}
use Rattle.acvp_registry.specs.declared.kind.Kind.TheVariants.{Module, Environment}
use Rattle.acvp_registry.specs.Url.{url_number_of}
use Rattle.acvp_json.specs.declared.certify_body.CertifyBody.{CertifyBody}
use Rattle.acvp_json.specs.declared.fault.BodyFault.{BodyFault}
use Rattle.acvp_json.specs.declared.fault.BodyFault.TheVariants.{BodyField, NoReference}
use Rattle.acvp_json.specs.Members.{text_at}
use Rattle.acvp_caps.specs.Conditions.{Condition}

-- both members are texts
abbrev pub has_urls : Data → Bool
has_urls d = is_some (text_at (codes "moduleUrl") d) && is_some (text_at (codes "oeUrl") d)

-- the number in the URL of this kind at a name
abbrev pub url_number_at : Kind → List ℕ → Data → Option ℕ
url_number_at kind name d = option_and_then (url_number_of kind) (text_at name d)

-- the module and the operational environment that the object names
abbrev pub certify_body_of : Data → Option CertifyBody
certify_body_of d =
    option_and_then (λ m. option_map (λ e. record { «module» = m; environment = e })
    (url_number_at Environment (codes "oeUrl") d)) (url_number_at Module (codes "moduleUrl") d)

-- the conditions of a request for certification, in their order
abbrev pub certify_body_conditions : Data → List (Condition BodyFault)
certify_body_conditions d = (has_urls d, BodyField) ∷ (is_some (certify_body_of d), NoReference) ∷ []
