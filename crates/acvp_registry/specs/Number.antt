-- Numbers in decimal digits.
use Rattle.std.specs.Prelude.{ℕ, List, Bool, Option, Some, None, length, nat_le, ◌&&◌, if◌then◌else◌, decimal}
use Rattle.std.specs.Prelude.{option_and_then}
use Rattle.std.specs.Str.{all_ascii_digits, bytes_eq}
use Rattle.std.specs.Str.Parse.{digits_value}

-- 1 to 19 decimal digits, and nothing else
abbrev pub is_number_text : List ℕ → Bool
is_number_text text = nat_le 1 (length text) && nat_le (length text) 19 && all_ascii_digits text

-- the number that 1 to 19 decimal digits write
abbrev pub digits_number_of : List ℕ → Option ℕ
digits_number_of text = if is_number_text text then Some (digits_value 10 text) else None

-- the number whose plain decimal the text is: 1 to 19 digits without leading zeros, a lone `0` among them
abbrev pub plain_number_of : List ℕ → Option ℕ
plain_number_of text = option_and_then (λ n. if bytes_eq (decimal n) text then Some n else None) (digits_number_of text)
