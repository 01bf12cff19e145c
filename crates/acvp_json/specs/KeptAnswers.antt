-- Answers as they are kept: `[[number,[text,..]],..]` as compact JSON, ascending by the tests' numbers.
use Rattle.std.specs.Prelude.{◌≡◌, ℕ, ◌&&◌, List, [], ◌∷◌, map, nat_lt, Bool, true, is_some, if◌then◌else◌, Option}
use Rattle.std.specs.Prelude.{Some, None, option_map, option_and_then}
use Rattle.std.specs.Map.{keys_of}
use Rattle.std.specs.Str.{bytes_eq}
use Rattle.serde_json.specs.Data.{Data, number, unsigned, string, array, Items, no_items, item}
use Rattle.serde_json.specs.Find.{as_str, as_array}
use Rattle.serde_json.specs.View.{items_of}
use Rattle.serde_json.specs.Written.{compact_text}
use Rattle.acvp_caps.specs.Json.{whole_number}
use Rattle.acvp_answers.specs.Answer.{Answer, AreAscending}
use Rattle.acvp_json.specs.declared.fault.BodyFault.{BodyFault}
use Rattle.acvp_json.specs.declared.fault.BodyFault.TheVariants.{BodyNotJson, BodyField}
use Rattle.acvp_json.specs.Elements.{each}
use Rattle.acvp_registry.specs.Json.{body_json}
use Rattle.acvp_caps.specs.Conditions.{Condition}

-- ---- as they are written

abbrev pub texts_data : List (List ℕ) → Data
texts_data texts = array (items_of (map string texts))

-- a test's number, and the array of its texts
abbrev pub answer_data : Answer → Data
answer_data answer = array (item (number (unsigned answer.0)) (item (texts_data answer.1) no_items))

abbrev pub answers_data : List Answer → Data
answers_data answers = array (items_of (map answer_data answers))

-- the compact text of answers
unfoldable pub kept_text : List Answer → List ℕ
kept_text answers = compact_text (answers_data answers)

-- ---- as they are read

abbrev pub texts_of : Data → Option (List (List ℕ))
texts_of d = option_and_then (each as_str) (as_array d)

-- the first of exactly two items, a whole number, and the second
abbrev pub pair_items : Items → Option (ℕ × Data)
pair_items no_items = None
pair_items (item first no_items) = None
pair_items (item first (item second no_items)) = option_map (λ n. (n, second)) (whole_number first)
pair_items (item first (item second (item third more))) = None

abbrev pub pair_of : Data → Option (ℕ × Data)
pair_of d = option_and_then pair_items (as_array d)

-- a whole number, and an array of texts
abbrev pub answer_of : Data → Option Answer
answer_of d = option_and_then (λ pair. option_map (λ texts. (pair.0, texts)) (texts_of pair.1)) (pair_of d)

-- whether a number is above the one before it, if any
abbrev pub is_above : Option ℕ → ℕ → Bool
is_above None n = true
is_above (Some last) n = nat_lt last n

-- whether each number is above the one before it, and the first above `last`, if any
abbrev pub are_rising : Option ℕ → List ℕ → Bool
are_rising last [] = true
are_rising last (n ∷ ns) = is_above last n && are_rising (Some n) ns

abbrev pub if_rising : Option ℕ → List Answer → Option (List Answer)
if_rising last answers = if are_rising last (keys_of answers) then Some answers else None

-- the answers that items are, the first above `last`, if any
abbrev pub answers_after : Option ℕ → Items → Option (List Answer)
answers_after last ds = option_and_then (if_rising last) (each answer_of ds)

-- the ascending answers that a JSON value is
abbrev pub answers_of : Data → Option (List Answer)
answers_of d = option_and_then (answers_after None) (as_array d)

-- whether a text is the compact one of its value
abbrev pub is_compact : List ℕ → Data → Bool
is_compact text d = bytes_eq text (compact_text d)

abbrev pub kept_in : List ℕ → Data → Option (List Answer)
kept_in text d = if is_compact text d then answers_of d else None

-- the answers that a text keeps
unfoldable pub kept_answers : List ℕ → Option (List Answer)
kept_answers text = option_and_then (kept_in text) (body_json text)

-- the conditions of a text that keeps answers, in their order
abbrev pub kept_answers_conditions : List ℕ → List (Condition BodyFault)
kept_answers_conditions text = (is_some (body_json text), BodyNotJson) ∷ (is_some (kept_answers text), BodyField) ∷ []

-- a text keeps these answers: it is JSON and reads as their value, it is their compact text, and they ascend
pub record IsKeptAs (text : List ℕ) (answers : List Answer) : Type 0 where
  pub value : body_json text ≡ Some (answers_data answers)
  pub written : text ≡ kept_text answers
  pub ascending : AreAscending answers
