-- For private clauses: what a scan of the text of answers takes, byte by byte.
use Rattle.std.specs.Prelude.{ℕ, ◌+◌, ◌-◌, ◌*◌, ◌^◌, ◌&&◌, ◌||◌, ◌==◌, cond, nat_lt, nat_le, List, [], ◌∷◌, Bool}
use Rattle.std.specs.Prelude.{true, false, Option, Some, None, option_map, unwrap_or}
use Rattle.acvp_json.specs.KeptAnswers.{is_above}
use Rattle.acvp_json.specs.declared.kept_scan.Place.{Place}
use Rattle.acvp_json.specs.declared.kept_scan.Place.TheVariants.{Begin, Opened, NextAnswer, Number, Digits, Texts}
use Rattle.acvp_json.specs.declared.kept_scan.Place.TheVariants.{TextsOpened, NextText, Inside, Escape, Unicode, Zero}
use Rattle.acvp_json.specs.declared.kept_scan.Place.TheVariants.{High, Low, AfterText, AfterTexts, AfterAnswer, End}

abbrev pub expected : ℕ → ℕ → Place → Option Place
expected x wanted place = cond (x == wanted) (Some place) None

abbrev pub either : ℕ → ℕ → Place → ℕ → Place → Option Place
either x one first other second = cond (x == one) (Some first) (expected x other second)

abbrev pub is_digit : ℕ → Bool
is_digit x = nat_le 48 x && nat_le x 57

abbrev pub first_digit : Option ℕ → ℕ → Option Place
first_digit last x = cond (is_digit x) (Some (Digits last (x - 48))) None

abbrev pub more : Option ℕ → ℕ → ℕ → Option Place
more last n x =
    cond (nat_lt 0 n && nat_lt (n * 10 + (x - 48)) (2 ^ 64)) (Some (Digits last (n * 10 + (x - 48)))) None

abbrev pub in_number : Option ℕ → ℕ → ℕ → Option Place
in_number last n x = cond (is_digit x) (more last n x) (cond ((x == 44) && is_above last n) (Some (Texts n)) None)

abbrev pub inside : ℕ → ℕ → Option Place
inside n x =
    cond (x == 34) (Some (AfterText n)) (cond (x == 92) (Some (Escape n)) (cond (nat_lt x 32) None (Some (Inside n))))

abbrev pub is_letter : ℕ → Bool
is_letter x = (x == 34) || ((x == 92) || ((x == 98) || ((x == 102) || ((x == 110) || ((x == 114) || (x == 116))))))

abbrev pub escape : ℕ → ℕ → Option Place
escape n x = cond (x == 117) (Some (Unicode n)) (cond (is_letter x) (Some (Inside n)) None)

abbrev pub is_low : Bool → ℕ → Bool
is_low true x = is_digit x || (nat_le 97 x && nat_le x 102)
is_low false x = (nat_le 48 x && nat_le x 55) || ((x == 98) || ((x == 101) || (x == 102)))

abbrev pub low : ℕ → Bool → ℕ → Option Place
low n is_second x = cond (is_low is_second x) (Some (Inside n)) None

abbrev pub next : Place → ℕ → Option Place
next Begin x = expected x 91 Opened
next Opened x = either x 91 (Number None) 93 End
next (NextAnswer n) x = expected x 91 (Number (Some n))
next (Number last) x = first_digit last x
next (Digits last n) x = in_number last n x
next (Texts n) x = expected x 91 (TextsOpened n)
next (TextsOpened n) x = either x 34 (Inside n) 93 (AfterTexts n)
next (NextText n) x = expected x 34 (Inside n)
next (Inside n) x = inside n x
next (Escape n) x = escape n x
next (Unicode n) x = expected x 48 (Zero n)
next (Zero n) x = expected x 48 (High n)
next (High n) x = either x 48 (Low n false) 49 (Low n true)
next (Low n is_second) x = low n is_second x
next (AfterText n) x = either x 44 (NextText n) 93 (AfterTexts n)
next (AfterTexts n) x = expected x 93 (AfterAnswer n)
next (AfterAnswer n) x = either x 44 (NextAnswer n) 93 End
next End x = None

abbrev pub is_end : Place → Bool
is_end Begin = false
is_end Opened = false
is_end (NextAnswer n) = false
is_end (Number last) = false
is_end (Digits last n) = false
is_end (Texts n) = false
is_end (TextsOpened n) = false
is_end (NextText n) = false
is_end (Inside n) = false
is_end (Escape n) = false
is_end (Unicode n) = false
is_end (Zero n) = false
is_end (High n) = false
is_end (Low n is_second) = false
is_end (AfterText n) = false
is_end (AfterTexts n) = false
is_end (AfterAnswer n) = false
is_end End = true

-- whether bytes are taken from a place on to the end
unfoldable pub accepts : Place → List ℕ → Bool
accepts place [] = is_end place
accepts place (x ∷ xs) = unwrap_or (option_map (λ after. accepts after xs) (next place x)) false
