-- Lemmas on numbers in decimal digits.
use Rattle.std.proofs.Common.{◌≡◌, ◌≢◌, ◌<◌, ◌≤◌, ◌^◌, ◌+◌, ◌-◌, ◌*◌, ℕ, Bool, true, false, List, [], ◌∷◌, length}
use Rattle.std.proofs.Common.{get_or, take, decimal, Option, Some, None, MatchOption, arith, sym, refl}
use Rattle.std.proofs.lemmas.List.{length-take}
use Rattle.std.proofs.lemmas.Fmt.{digits_decimal, decimal-digits_value, length-decimal-le, first_decimal, decimal_digit}
use Rattle.std.proofs.lemmas.Fmt.{decimal_nonempty}
use Rattle.std.proofs.lemmas.Int.Digits.{digits_more, digits_value_more}
use Rattle.std.proofs.lemmas.Str.Parse.{IsNumeralModel, numerals_by_value, tells_all_ascii_digits, digits_value_short}
use Rattle.std.proofs.lemmas.Str.Parse.{digit_at}
use Rattle.std.proofs.lemmas.Bool.Decides.{nat_tests}
use Rattle.std.specs.Int.{IsInRange}
use Rattle.std.specs.Char.{is_ascii_digit, digit_value}
use Rattle.std.specs.Str.{all_ascii_digits}
use Rattle.std.specs.Str.Parse.{AllDigits, digits_value}
use Rattle.acvp_registry.specs.Number.{digits_number_of, is_number_text}

-- the kit's test of digits and the number that they write
pub own : IsNumeralModel (λ ds. all_ascii_digits ds ≡ true) (digits_value 10)
own = numerals_by_value _ tells_all_ascii_digits

-- what the test of a digit says
pub not_in_range : (c : ℕ) → is_ascii_digit c ≡ false → IsInRange 48 57 c → ⊥
not_in_range c other within = grind (arith, nat_tests)

pub digit_in_range : (c : ℕ) → is_ascii_digit c ≡ true → IsInRange 48 57 c
digit_in_range c h = grind (arith, nat_tests)

pub digit_value_in_range : (c : ℕ) → IsInRange 48 57 c → digit_value c ≡ c - 48
digit_value_in_range c h = grind (arith, nat_tests)

-- a text with a byte that is no digit
pub not_all_digits : (text : List ℕ) (i : ℕ) → i < length text → is_ascii_digit (get_or text i 0) ≡ false
    → all_ascii_digits text ≡ false
not_all_digits text i low other =
    let cases : (b : Bool) → all_ascii_digits text ≡ b → all_ascii_digits text ≡ false =
    λ b. elim b as (λ b. all_ascii_digits text ≡ b → all_ascii_digits text ≡ false) [
      | true ↦ λ h. absurd (not_in_range _ other (digit_at text i (own.to text h) low))
      | false ↦ λ h. h
    ] in cases (all_ascii_digits text) refl

-- a text that is no number
pub number_of_other : (text : List ℕ) (i : ℕ) → i < length text → is_ascii_digit (get_or text i 0) ≡ false
    → None ≡ digits_number_of text
number_of_other text i low other =
    let bad : all_ascii_digits text ≡ false = not_all_digits text i low other in
    rw bad (grind (arith, nat_tests))

pub number_of_digits : (text : List ℕ) → 1 ≤ length text → length text ≤ 19 → AllDigits 10 text
    → Some (digits_value 10 text) ≡ digits_number_of text
number_of_digits text low high digits =
    let good : all_ascii_digits text ≡ true = own.from text digits in
    rw good (grind (arith, nat_tests))

-- 18 digits and one more stay below 2^64
pub room : (text : List ℕ) (i : ℕ) → i < 19 → i < length text → AllDigits 10 (take i text)
    → digits_value 10 (take i text) < 10 ^ 18
room text i few low digits =
    digits_value_short own (take i text) 18 (own.from (take i text) digits) (omega (arith, length-take i text))

-- the step of the loop that reads digits
pub digits_step : (text : List ℕ) (i n : ℕ) → i < length text → AllDigits 10 (take i text)
    → n ≡ digits_value 10 (take i text) → is_ascii_digit (get_or text i 0) ≡ true →
    AllDigits 10 (take (i + 1) text) × (n * 10 + (get_or text i 0 - 48) ≡ digits_value 10 (take (i + 1) text))
digits_step text i n low digits value digit =
    let within : IsInRange 48 57 (get_or text i 0) = digit_in_range _ digit in
    let here : digit_value (get_or text i 0) ≡ get_or text i 0 - 48 = digit_value_in_range _ within in
    let small : digit_value (get_or text i 0) < 10 = rw here (omega arith) in
    (digits_more 10 text i low digits small, sym (rw (← here, value) (digits_value_more 10 text i low)))

-- 0 has one digit
pub leading_zero_none : (n : ℕ) → n ≡ 0 → 1 < length (decimal n) → ⊥
leading_zero_none n none long =
    let one : decimal n ≡ (48 + n) ∷ [] = decimal_digit n (omega arith) in
    let long' : 1 < length ((48 + n) ∷ []) = rw one at long in omega arith

-- a number's digits don't begin with a zero, but for a lone one
pub leading_zero : (text : List ℕ) → 1 < length text → get_or text 0 0 ≡ 48 → (n : ℕ) → n < 10 ^ 19 → text ≢ decimal n
leading_zero text long zero n small is =
    let long' : 1 < length (decimal n) = rw is at long in
    let zero' : get_or (decimal n) 0 0 ≡ 48 = rw is at zero in
    let none : n ≡ 0 → ⊥ = λ none. leading_zero_none n none long' in
    let some : 0 < n = omega (arith, none) in
    omega (arith, first_decimal n some (omega arith), zero')

-- a number's digits are a number's text
pub decimal_is_number_text : (n : ℕ) → n < 10 ^ 19 → is_number_text (decimal n) ≡ true
decimal_is_number_text n small =
    let digits : all_ascii_digits (decimal n) ≡ true = digits_decimal own n (omega arith) in
    let some : 0 < length (decimal n) = decimal_nonempty n (omega arith) in
    let few : length (decimal n) ≤ 19 = length-decimal-le 19 n (omega arith) small (omega arith) in
    rw digits (grind (arith, nat_tests))

-- the parts of the test of a number's text
pub number_text_parts : (text : List ℕ) → is_number_text text ≡ true → (1 ≤ length text) × (length text ≤ 19)
    × (all_ascii_digits text ≡ true)
number_text_parts text h = grind (arith, nat_tests)

pub number_of_none : (text : List ℕ) → is_number_text text ≡ false → digits_number_of text ≡ None
number_of_none text h = rw h

pub number_of_some : (text : List ℕ) → is_number_text text ≡ true → digits_number_of text ≡ Some (digits_value 10 text)
number_of_some text h = rw h

-- what digits write, where they have no leading zero
pub plain_is : (text : List ℕ) (r : Option ℕ) → (1 < length text → get_or text 0 0 ≢ 48) → r ≡ digits_number_of text →
    MatchOption r ((n : ℕ) → n < 10 ^ 19 → text ≢ decimal n) (λ n. (n < 10 ^ 19) × (text ≡ decimal n))
plain_is text r plain is =
    let goal : Option ℕ → Type 0 = λ r. MatchOption r ((n : ℕ) → n < 10 ^ 19 → text ≢ decimal n) (λ n. (n < 10 ^ 19)
    × (text ≡ decimal n)) in
    let cases : (b : Bool) → is_number_text text ≡ b → goal (digits_number_of text) =
    λ b. elim b as (λ b. is_number_text text ≡ b → goal (digits_number_of text)) [
      | true ↦ λ h.
          let parts = number_text_parts text h in
          let small : digits_value 10 text < 10 ^ 19 = digits_value_short own text 19 parts.2 parts.1 in
          let lone : get_or text 0 0 ≡ 48 → length text ≡ 1 = λ zero. let short : 1 < length text → ⊥ =
          λ long. plain long zero in omega (arith, parts.0) in
          let back : decimal (digits_value 10 text) ≡ text =
          decimal-digits_value own text parts.2 parts.0 lone (omega arith) in
          rw (number_of_some text h) (small, sym back)
      | false ↦ λ h. rw (number_of_none text h) (λ n small e.
          let whole : is_number_text text ≡ true = rw e (decimal_is_number_text n small) in cc)
    ] in
    rw is (cases (is_number_text text) refl)
