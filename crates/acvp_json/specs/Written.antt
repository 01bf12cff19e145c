-- The bodies of replies.
use Rattle.std.specs.Prelude.{ℕ, List, codes}
use Rattle.serde_json.specs.Data.{Data, string, array, object, no_items, item, no_members, member}
use Rattle.serde_json.specs.Written.{compact_text}

-- the first member of each body
abbrev pub version : Data
version = object (member (codes "acvVersion") (string (codes "1.0")) no_members)

-- the version and an object
abbrev pub enveloped : Data → Data
enveloped d = array (item version (item d no_items))

-- a body: the version and an object, as compact JSON
unfoldable pub body_of : Data → List ℕ
body_of d = compact_text (enveloped d)
