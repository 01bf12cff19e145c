-- What is wrong with the text of a secret or of keys.
use Rattle.std.specs.Prelude.{◌==◌, ◌||◌, ℕ, List, Bool, Option, Some, None, if◌then◌else◌, codes, count_by, length, nat_lt}
use Rattle.std.specs.List.{ends_with, list_all, list_any}
use Rattle.std.specs.Char.{is_ascii_hexdigit}
use Rattle.acvp_causes.specs.declared.texts.TextFault.{TextFault}
use Rattle.acvp_causes.specs.declared.texts.TextFault.TheVariants as fault

-- its last line has its end
abbrev pub is_ended : List ℕ → Bool
is_ended text = (length text == 0) || ends_with (λ a b. a == b) text (codes "\n")

-- what is wrong with it as a text, or with the ends of its lines
abbrev pub ends_fault : List ℕ → Option TextFault
ends_fault text =
    if list_any (λ b. b == 0) text then Some fault.Zeros
    else if nat_lt 4096 (length text) then Some fault.Long
    else if list_any (λ b. b == 13) text then Some fault.CarriageReturn
    else if is_ended text then None
    else Some fault.NoLastFeed

-- how many lines it has
abbrev pub line_count : List ℕ → ℕ
line_count text = count_by (λ b. b == 10) text

-- what is wrong with the digits of a line of this number
abbrev pub digits_fault : ℕ → List ℕ → Option TextFault
digits_fault number digits =
    if length digits == 64
    then (if list_all is_ascii_hexdigit digits then None else Some (fault.NotHex number))
    else Some (fault.Digits number (length digits))
