-- The envelope that every body has: an array of two objects, the first of which names the version of the protocol.
use Rattle.std.specs.Prelude.{ℕ, List, [], ◌∷◌, codes, Bool, ◌&&◌, is_some, if◌then◌else◌, Option, Some, None}
use Rattle.std.specs.Prelude.{option_and_then}
use Rattle.serde_json.specs.Data.{Data, Items, no_items, item}
use Rattle.serde_json.specs.Find.{as_array, as_object}
pub use Rattle.acvp_registry.specs.Json.{body_json}
use Rattle.acvp_json.specs.declared.fault.BodyFault.{BodyFault}
use Rattle.acvp_json.specs.declared.fault.BodyFault.TheVariants.{BodyNotJson, BodyEnvelope}
use Rattle.acvp_json.specs.Members.{text_at, is_text}
use Rattle.acvp_caps.specs.Conditions.{Condition}

-- the first names the version, and the second is an object
abbrev pub is_envelope : Data → Data → Bool
is_envelope first second = is_text (codes "1.0") (text_at (codes "acvVersion") first) && is_some (as_object second)

-- the second of exactly two items
abbrev pub envelope_items : Items → Option Data
envelope_items no_items = None
envelope_items (item first no_items) = None
envelope_items (item first (item second no_items)) = if is_envelope first second then Some second else None
envelope_items (item first (item second (item third more))) = None

-- the object that an envelope holds
abbrev pub envelope_of : Data → Option Data
envelope_of d = option_and_then envelope_items (as_array d)

-- the object that a body holds
abbrev pub object_of : List ℕ → Option Data
object_of bytes = option_and_then envelope_of (body_json bytes)

-- the conditions of a body's envelope, in their order
abbrev pub envelope_conditions : List ℕ → List (Condition BodyFault)
envelope_conditions bytes = (is_some (body_json bytes), BodyNotJson) ∷ (is_some (object_of bytes), BodyEnvelope) ∷ []
