-- Texts of digits, and what a walk over rows sees of one.
use Rattle.std.proofs.Common.{◌≡◌, ◌<◌, ◌≤◌, ◌^◌, ◌+◌, ◌-◌, ℕ, zero, suc, List, [], ◌∷◌, ◌++◌, length, drop, get_or}
use Rattle.std.proofs.Common.{Bool, true, false, cond, decimal, refl, ap, arith, nat_eq, ◌==◌, ltb, ◌&&◌}
use Rattle.std.proofs.lemmas.Bool.Decides.{nat_tests}
use Rattle.std.proofs.lemmas.Fmt.{digits_decimal}
use Rattle.std.proofs.lemmas.Str.Parse.{IsNumeralModel, numerals_by_value, tells_all_ascii_digits, digit_at}
use Rattle.std.specs.Int.{IsInRange}
use Rattle.std.specs.Cmp.Lexicographic.{pointwise}
use Rattle.std.specs.Str.{all_ascii_digits}
use Rattle.std.specs.Str.Parse.{digits_value}
use Rattle.matchit.specs.Seek.{segment, has_slash, cuts}

-- each byte is a digit
abbrev pub AreDigits : List ℕ → Type 0
AreDigits [] = Unit {0}
AreDigits (d ∷ ds) = (48 ≤ d) × (d ≤ 57) × AreDigits ds

AreDigits-each : (ds : List ℕ) → ((i : ℕ) → i < length ds → IsInRange 48 57 (get_or ds i 0)) → AreDigits ds
AreDigits-each [] each = tt
AreDigits-each (d ∷ ds) each =
    let here = each 0 (omega arith) in
    (here.0, here.1, AreDigits-each ds (λ i low. each (suc i) (omega arith)))

-- the kit's test of digits and the number that they write
own : IsNumeralModel (λ ds. all_ascii_digits ds ≡ true) (digits_value 10)
own = numerals_by_value _ tells_all_ascii_digits

pub AreDigits-decimal : (n : ℕ) → n < 10 ^ 19 → AreDigits (decimal n)
AreDigits-decimal n small =
    let digits = own.to (decimal n) (digits_decimal own n (omega arith)) in
    AreDigits-each (decimal n) (λ i low. digit_at (decimal n) i digits low)

pub has_slash-digits : (ds : List ℕ) → AreDigits ds → has_slash ds ≡ false
has_slash-digits [] digits = refl
has_slash-digits (d ∷ ds) digits =
    let other : (d == 47) ≡ false = grind (arith, nat_tests, digits.0) in
    rw other (has_slash-digits ds digits.2)

pub has_slash-behind : (ds rest : List ℕ) → has_slash (ds ++ (47 ∷ rest)) ≡ true
has_slash-behind [] rest = refl
has_slash-behind (d ∷ ds) rest = by (d == 47) (has_slash-behind ds rest)
  where
    by : (v : Bool) → has_slash (ds ++ (47 ∷ rest)) ≡ true → cond v true (has_slash (ds ++ (47 ∷ rest))) ≡ true
    by true later = refl
    by false later = later

pub segment-digits : (ds : List ℕ) → AreDigits ds → segment ds ≡ ds
segment-digits [] digits = refl
segment-digits (d ∷ ds) digits =
    let other : (d == 47) ≡ false = grind (arith, nat_tests, digits.0) in
    rw other (ap (λ t. d ∷ t) (segment-digits ds digits.2))

pub segment-behind : (ds rest : List ℕ) → AreDigits ds → segment (ds ++ (47 ∷ rest)) ≡ ds ++ (47 ∷ [])
segment-behind [] rest digits = refl
segment-behind (d ∷ ds) rest digits =
    let other : (d == 47) ≡ false = grind (arith, nat_tests, digits.0) in
    rw other (ap (λ t. d ∷ t) (segment-behind ds rest digits.2))

pub length-behind : (ds rest : List ℕ) → length (ds ++ (47 ∷ [])) ≡ length ds + 1
length-behind [] rest = omega arith
length-behind (d ∷ ds) rest = omega (arith, length-behind ds rest)

pub drop-behind : (ds rest : List ℕ) → drop (length ds) (ds ++ rest) ≡ rest
drop-behind [] rest = refl
drop-behind (d ∷ ds) rest = drop-behind ds rest

pub drop-all : (ds : List ℕ) → drop (length ds) ds ≡ []
drop-all [] = refl
drop-all (d ∷ ds) = drop-all ds

-- a slash ends the segment behind some digits
pub cuts-behind : (d : ℕ) (ds : List ℕ) → cuts ((d ∷ ds) ++ (47 ∷ [])) (47 ∷ []) ≡ true
cuts-behind d ds =
    let long : length ((d ∷ ds) ++ (47 ∷ [])) ≡ length (d ∷ ds) + 1 = length-behind (d ∷ ds) [] in
    let more : ltb 1 (length ((d ∷ ds) ++ (47 ∷ []))) ≡ true = grind (arith, nat_tests) in
    let at : length ((d ∷ ds) ++ (47 ∷ [])) - 1 ≡ length (d ∷ ds) = omega arith in
    rw (more, at, drop-behind (d ∷ ds) (47 ∷ [])) refl

-- a slash ends no digits
pub ends-digits : (ds : List ℕ) (k : ℕ) → AreDigits ds → pointwise nat_eq (47 ∷ []) (drop k ds) ≡ false
ends-digits [] zero digits = refl
ends-digits [] (suc k) digits = refl
ends-digits (d ∷ ds) zero digits =
    let other : (47 == d) ≡ false = grind (arith, nat_tests, digits.0) in
    rw other refl
ends-digits (d ∷ ds) (suc k) digits = ends-digits ds k digits.2

pub cuts-digits : (ds : List ℕ) → AreDigits ds → cuts ds (47 ∷ []) ≡ false
cuts-digits ds digits = by (ltb 1 (length ds))
  where
    by : (v : Bool) → (v && pointwise nat_eq (47 ∷ []) (drop (length ds - 1) ds)) ≡ false
    by true = ends-digits ds (length ds - 1) digits
    by false = refl
