-- The JSON value that bytes are, and its members.
use Rattle.std.specs.Prelude.{ℕ, List, Option, Some, None, option_and_then, if◌then◌else◌}
use Rattle.std.specs.Str.{is_utf8}
use Rattle.serde_json.specs.Data.{Data}
use Rattle.serde_json.specs.Find.{get, as_str}
use Rattle.serde_json.specs.Read.{read}
use Rattle.serde_json.specs.Written.{has_float}

-- the value, unless a number in it is kept as a float
abbrev pub without_float : Data → Option Data
without_float d = if has_float d then None else Some d

-- the JSON value (RFC 8259) that the bytes are
abbrev pub body_json : List ℕ → Option Data
body_json bytes = if is_utf8 bytes then option_and_then without_float (read bytes) else None

-- the text at a name, where there is one
abbrev pub text_member : List ℕ → Data → Option (List ℕ)
text_member name d = option_and_then as_str (get name d)
