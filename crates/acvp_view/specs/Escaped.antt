-- How a text that a client wrote is shown: its characters that act on a terminal, change in which order it shows
-- others, or aren't seen, are escaped. They stand only within strings of a JSON text, which so stays the same value.
use Rattle.std.specs.Prelude.{ℕ, List, ◌++◌, ◌||◌, Bool, codes, encode_utf8, false, if◌then◌else◌, map, true}
use Rattle.std.specs.Int.{to_be_bytes, w16}
use Rattle.std.specs.List.{flat_map}
use Rattle.std.specs.Str.{chars}
use Rattle.std.specs.Char.Escape.{encode_utf16}
use Rattle.hex.specs.Hex.{encode_lower}
use Rattle.ucd_category.specs.GeneralCategory.{general_category}
use Rattle.ucd_category.specs.declared.GeneralCategory.{GeneralCategory}
use Rattle.ucd_category.specs.declared.GeneralCategory.TheVariants.{Control, Format, LineSeparator, ParagraphSeparator}
use Rattle.ucd_derived.specs.Binary.{is_default_ignorable_code_point}
use Rattle.acvp_view.specs.Folded.{folded}
use Rattle.acvp_view.specs.Lines.{TakesAll}
use Rattle.acvp_view.specs.declared.form.Form.{Form}
use Rattle.acvp_view.specs.declared.form.Form.TheVariants.{Words, Json}

-- of these general categories are controls, marks that format or set the direction of writing, and separators
abbrev pub is_of_acting : GeneralCategory → Bool
is_of_acting Control = true
is_of_acting Format = true
is_of_acting LineSeparator = true
is_of_acting ParagraphSeparator = true
is_of_acting _ = false

-- it acts on what shows it
abbrev pub is_acting : ℕ → Bool
is_acting c = is_of_acting (general_category c)

-- it acts, or it is one that a display leaves out if it doesn't know it (Unicode, Default_Ignorable_Code_Point)
abbrev pub is_escaped : ℕ → Bool
is_escaped c = is_acting c || is_default_ignorable_code_point c

-- as in JSON: "\u" and the four digits of a unit of UTF-16
abbrev pub escape_of_unit : ℕ → List ℕ
escape_of_unit unit = codes "\\u" ++ encode_lower (to_be_bytes w16 unit)

-- the escapes of a character's units
abbrev pub escape_of : ℕ → List ℕ
escape_of c = flat_map escape_of_unit (encode_utf16 c)

-- a character as it is shown
abbrev pub shown_char : ℕ → List ℕ
shown_char c = if is_escaped c then escape_of c else encode_utf8 c

-- a text with each of its characters as it is shown
unfoldable pub escaped : List ℕ → List ℕ
escaped text = flat_map shown_char (chars text)

-- a text as it is shown in a form: words stand in lines that fit a terminal
abbrev pub shown_in : Form → List ℕ → List ℕ
shown_in Words text = folded (escaped text)
shown_in Json text = escaped text

-- these texts were handed on, each as it is shown in a form
abbrev pub TakesShown : {L : Type 0} → Form → (L → List ℕ → L → Type 0) → List (List ℕ) → L → L → Type 0
TakesShown form takes texts before after = TakesAll takes (map (shown_in form) texts) before after

-- what was handed on are texts, each as it is shown in a form
pub record HandsOnShown {L : Type 0} (form : Form) (takes : L → List ℕ → L → Type 0) (before after : L) : Type 0 where
  pub texts : List (List ℕ)
  pub taken : TakesShown form takes texts before after
