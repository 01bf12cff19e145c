-- The members of a JSON object.
use Rattle.std.specs.Prelude.{ℕ, List, Option, Some, None, option_map}
use Rattle.serde_json.specs.Data.{Data}
use Rattle.serde_json.specs.Find.{as_str}
pub use Rattle.acvp_caps.specs.Json.{number_at, text_at, is_text}

-- a member that is absent or a text
abbrev pub optional_text : Option Data → Option (Option (List ℕ))
optional_text None = Some None
optional_text (Some d) = option_map Some (as_str d)
