-- What a JSON value has at a name.
use Rattle.std.specs.Prelude.{ℕ, List, [], ◌∷◌, Bool, true, false, Option, None, Some, option_and_then, is_some}
use Rattle.std.specs.Str.{bytes_eq}
use Rattle.serde_json.specs.Data.{Data, Items, no_items, item}
use Rattle.serde_json.specs.Find.{get, as_array, as_bool, as_number, as_str, as_u64}

-- a whole number from 0 on
abbrev pub whole_number : Data → Option ℕ
whole_number d = option_and_then as_u64 (as_number d)

abbrev pub number_at : List ℕ → Data → Option ℕ
number_at name d = option_and_then whole_number (get name d)

abbrev pub text_at : List ℕ → Data → Option (List ℕ)
text_at name d = option_and_then as_str (get name d)

-- whether a text is there and is this one
abbrev pub is_text : List ℕ → Option (List ℕ) → Bool
is_text wanted None = false
is_text wanted (Some text) = bytes_eq text wanted

-- a truth value, which is false where the member is absent
abbrev pub flag : Option Data → Option Bool
flag None = Some false
flag (Some d) = as_bool d

abbrev pub item_list : Items → List Data
item_list no_items = []
item_list (item d ds) = d ∷ item_list ds

abbrev pub array_list : Option Items → List Data
array_list None = []
array_list (Some ds) = item_list ds

-- the elements of an array, and none of anything else
abbrev pub elements : Option Data → List Data
elements member = array_list (option_and_then as_array member)

-- whether a member is absent, or an array
abbrev pub is_optional_array : Option Data → Bool
is_optional_array None = true
is_optional_array (Some d) = is_some (as_array d)
