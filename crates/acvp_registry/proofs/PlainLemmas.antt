-- Lemmas on plain decimals.
use Rattle.std.proofs.Common.{◌≡◌, ◌≢◌, ◌<◌, ◌≤◌, ◌^◌, length, ℕ, Bool, true, false, List, decimal, Option, Some, None}
use Rattle.std.proofs.Common.{MatchOption, refl, sym, ◌∙◌, arith, if◌then◌else◌}
use Rattle.std.specs.Str.{bytes_eq}
use Rattle.std.specs.Str.Parse.{digits_value}
use Rattle.std.proofs.lemmas.Slice.Eq.{bytes_eq-Decides}
use Rattle.std.proofs.lemmas.Str.Parse.{digits_value_short}
use Rattle.std.proofs.lemmas.Fmt.{digits_value-decimal}
use Rattle.acvp_registry.specs.Number.{digits_number_of, is_number_text, plain_number_of}
use Rattle.acvp_registry.proofs.NumberLemmas.{own, decimal_is_number_text, number_text_parts, number_of_some}
use Rattle.acvp_registry.proofs.NumberLemmas.{number_of_none}

plain_number_of-decimal : (n : ℕ) → n < 10 ^ 19 → plain_number_of (decimal n) ≡ Some n
plain_number_of-decimal n small =
    let value : digits_value 10 (decimal n) ≡ n = digits_value-decimal own n (omega arith) in
    let number : digits_number_of (decimal n) ≡ Some (digits_value 10 (decimal n)) =
    number_of_some (decimal n) (decimal_is_number_text n small) in
    let same : bytes_eq (decimal n) (decimal n) ≡ true = (bytes_eq-Decides (decimal n) (decimal n)).1 refl in
    rw (number, value, same) refl

plain_number_of-other : (text : List ℕ) (v : ℕ) → digits_number_of text ≡ Some v → decimal v ≢ text
    → plain_number_of text ≡ None
plain_number_of-other text v number other =
    let cases : (b : Bool) → bytes_eq (decimal v) text ≡ b → (if b then Some v else None) ≡ None =
    λ b. elim b as (λ b. bytes_eq (decimal v) text ≡ b → (if b then Some v else None) ≡ None) [
      | true ↦ λ h. absurd (other ((bytes_eq-Decides (decimal v) text).0 h))
      | false ↦ λ h. refl
    ] in
    rw number (cases (bytes_eq (decimal v) text) refl)

plain_number_of-none : (text : List ℕ) → ((n : ℕ) → n < 10 ^ 19 → text ≢ decimal n) → (b : Bool)
    → is_number_text text ≡ b → plain_number_of text ≡ None
plain_number_of-none text other true number =
    let parts = number_text_parts text number in
    let small : digits_value 10 text < 10 ^ 19 = digits_value_short own text 19 parts.2 parts.1 in
    plain_number_of-other text (digits_value 10 text) (number_of_some text number)
    (λ h. other (digits_value 10 text) small (sym h))
plain_number_of-none text other false number = rw (number_of_none text number) refl

-- the plain number that a text is
pub plain_of_is : (text : List ℕ) (r : Option ℕ)
    → MatchOption r ((n : ℕ) → n < 10 ^ 19 → text ≢ decimal n) (λ n. (n < 10 ^ 19) × (text ≡ decimal n))
    → r ≡ plain_number_of text
plain_of_is text (Some n) is = rw is.1 (sym (plain_number_of-decimal n is.0))
plain_of_is text None other = sym (plain_number_of-none text other (is_number_text text) refl)

digits_number_of-short_by : (text : List ℕ) (n k : ℕ) → length text ≤ k → (b : Bool) → is_number_text text ≡ b
    → Some n ≡ digits_number_of text → n < 10 ^ k
digits_number_of-short_by text n k few true number is =
    let whole : Some n ≡ Some (digits_value 10 text) = is ∙ number_of_some text number in
    let same : n ≡ digits_value 10 text = cc in
    rw same (digits_value_short own text k (number_text_parts text number).2 few)
digits_number_of-short_by text n k few false number is =
    let none : Some n ≡ None = is ∙ number_of_none text number in
    cc

-- a number of few digits is small
pub digits_number_of-short : (text : List ℕ) (n k : ℕ) → length text ≤ k → Some n ≡ digits_number_of text → n < 10 ^ k
digits_number_of-short text n k few is = digits_number_of-short_by text n k few (is_number_text text) refl is
