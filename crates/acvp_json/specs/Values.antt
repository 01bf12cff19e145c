-- Numbers, bytes and lists as JSON values.
use Rattle.std.specs.Prelude.{ℕ, List, map}
use Rattle.serde_json.specs.Data.{Data, number, unsigned, string, array}
use Rattle.serde_json.specs.View.{items_of}
use Rattle.hex.specs.Hex.{encode_lower}

-- a whole number
abbrev pub count : ℕ → Data
count n = number (unsigned n)

-- bytes as hex digits in lower case
abbrev pub hex_text : List ℕ → Data
hex_text bytes = string (encode_lower bytes)

-- an array of the object of each element
abbrev pub array_of : {A : Type 0} → (A → Data) → List A → Data
array_of data_of elements = array (items_of (map data_of elements))
