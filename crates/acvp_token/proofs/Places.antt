-- Which entry of a ring a header names.
use Rattle.std.proofs.Common.{◌≡◌, ℕ, zero, suc, ◌+◌, ◌<◌, ◌≤◌, List, [], ◌∷◌, length, Bool, true, false, cond}
use Rattle.std.proofs.Common.{◌-◌, ◌/◌, ◌%◌, nat_lt}
use Rattle.std.proofs.Common.{Option, None, Some, IsSome, option_and_then, unwrap_or, codes, decimal, refl, sym, ap}
use Rattle.std.proofs.Common.{◌∙◌}
use Rattle.std.proofs.Common.{arith}
use Rattle.std.specs.List.{find, enumerate_from}
use Rattle.std.specs.Prelude.{slice_index}
use Rattle.std.specs.Str.{bytes_eq}
use Rattle.std.proofs.lemmas.Bool.Decides.{nat_tests}
use Rattle.std.proofs.lemmas.Fmt.{decimal_injective, decimal_digit, decimal_step}
use Rattle.std.proofs.lemmas.Slice.Eq.{bytes_eq-Decides}
use Rattle.serde_json.specs.Data.{Data, string}
use Rattle.serde_json.specs.Find.{get, as_str}
use Rattle.acvp_token.specs.Keys.{Ring, key_at, is_member_text, is_kid_of, named_key}
use Rattle.acvp_token.specs.Private.Places.{IsPlaceText, IsNoPlaceText, NamesPlace, NamesNoPlace}

pub some-unwrapped : (o : Option (List ℕ)) → IsSome o → o ≡ Some (unwrap_or o [])
some-unwrapped None h = cc
some-unwrapped (Some key) h = refl

-- the key at the first place from a start on that passes a test
abbrev found_from : (ℕ → Bool) → ℕ → Ring → Option (List ℕ)
found_from names start ring =
    option_and_then (λ entry. entry.1) (find (λ entry. names entry.0) (enumerate_from start ring))

-- an entry whose place doesn't pass is left out
found-past : (names : ℕ → Bool) (start : ℕ) (entry : Option (List ℕ)) (rest : Ring) (o : Option (List ℕ)) →
    (names start ≡ true → ⊥) → found_from names (start + 1) rest ≡ o → found_from names start (entry ∷ rest) ≡ o
found-past names start entry rest o other found = by (names start) refl
  where
    by : (b : Bool) → names start ≡ b → found_from names start (entry ∷ rest) ≡ o
    by true e = absurd (other e)
    by false e = rw e found

-- the one place that passes is the first
found-only : (names : ℕ → Bool) (start i : ℕ) (ring : Ring) → names (start + i) ≡ true →
    ((j : ℕ) → j < start + length ring → names j ≡ true → j ≡ start + i) →
    found_from names start ring ≡ key_at ring i
found-only names start i [] here only = refl
found-only names start zero (entry ∷ rest) here only =
    let e : start + 0 ≡ start = omega arith in
    let first : names start ≡ true = rw e at here in
    rw first refl
found-only names start (suc i) (entry ∷ rest) here only =
    let next : start + suc i ≡ start + 1 + i = omega arith in
    let there : names (start + 1 + i) ≡ true = rw next at here in
    found-past names start entry rest (key_at rest i)
    (λ e. let same : start ≡ start + suc i = only start (omega arith) e in absurd (omega arith))
    (found-only names (start + 1) i rest there (λ j below named. only j (omega arith) named ∙ next))

-- where no place passes, nothing is found
found-nothing : (names : ℕ → Bool) (start : ℕ) (ring : Ring) →
    ((j : ℕ) → j < start + length ring → names j ≡ true → ⊥) → found_from names start ring ≡ None
found-nothing names start [] none = refl
found-nothing names start (entry ∷ rest) none =
    found-past names start entry rest None (λ e. none start (omega arith) e)
    (found-nothing names (start + 1) rest (λ j below named. none j (omega arith) named))

-- a `kid` names one place at most
text-of_place : (o : Option (List ℕ)) (place : ℕ) → is_member_text (decimal place) o ≡ true → o ≡ Some (decimal place)
text-of_place None place h = cc
text-of_place (Some s) place h = ap (λ (x : List ℕ). Some x) ((bytes_eq-Decides s (decimal place)).0 h)

place-unique : (kid : Option Data) (a b : ℕ) → a < 16 → b < 16 → is_kid_of kid a ≡ true → is_kid_of kid b ≡ true → a ≡ b
place-unique None a b p q e f = grind (arith, nat_tests)
place-unique (Some kid) a b p q e f =
    let texts : Some (decimal a) ≡ Some (decimal b) =
    sym (text-of_place (as_str kid) a e) ∙ text-of_place (as_str kid) b f in
    let same : decimal a ≡ decimal b = cc in
    decimal_injective a b (omega arith) (omega arith) same

-- the key that a header names is the one at its place
pub named-is : (header : Data) (place : ℕ) (ring : Ring) → place < 16 → length ring ≤ 16 →
    is_kid_of (get (codes "kid") header) place ≡ true → named_key ring header ≡ key_at ring place
unfolding named_key
named-is header place ring within most named =
    let kid = get (codes "kid") header in
    let e : 0 + place ≡ place = omega arith in
    let here : is_kid_of kid (0 + place) ≡ true = rw e named in
    found-only (is_kid_of kid) 0 place ring here
    (λ j below other. place-unique kid j place (omega arith) within other named ∙ sym e)

pub named-nothing : (header : Data) (ring : Ring) → length ring ≤ 16 → NamesNoPlace header →
    named_key ring header ≡ None
unfolding named_key
named-nothing header ring most none =
    found-nothing (is_kid_of (get (codes "kid") header)) 0 ring
    (λ j below named. none j (record { within = omega arith; named = named }))

-- ---- the plain decimal of a place

-- one digit, or a 1 and a digit
unfoldable pub place_text : ℕ → List ℕ
place_text n = cond (nat_lt n 10) ((48 + n) ∷ []) (49 ∷ (38 + n) ∷ [])

pub decimal-small : (n : ℕ) → n < 10 → decimal n ≡ (48 + n) ∷ []
decimal-small n h = decimal_digit n h

pub decimal-large : (n : ℕ) → 10 ≤ n → n < 20 → decimal n ≡ 49 ∷ (38 + n) ∷ []
decimal-large n least most =
    let tens : n / 10 ≡ 1 = omega arith in
    let units : 48 + n % 10 ≡ 38 + n = omega arith in
    let first : decimal (n / 10) ≡ 49 ∷ [] = ap decimal tens ∙ decimal_digit 1 (omega arith) in
    decimal_step n least (omega arith) ∙ rw (first, units) refl

pub decimal-place : (n : ℕ) → n < 16 → decimal n ≡ place_text n
unfolding place_text
decimal-place n h = by (nat_lt n 10) refl
  where
    by : (b : Bool) → nat_lt n 10 ≡ b → decimal n ≡ cond (nat_lt n 10) ((48 + n) ∷ []) (49 ∷ (38 + n) ∷ [])
    by true e = rw e (decimal-small n (grind (arith, nat_tests)))
    by false e =
        let least : 10 ≤ n = grind (arith, nat_tests) in
        rw e (decimal-large n least (omega arith))

-- what the code tests of a text: it is one digit, or a 1 and a digit up to 5
pub one-digit : (text : List ℕ) → length text ≡ 1 → 48 ≤ slice_index text 0 → slice_index text 0 ≤ 57 →
    IsPlaceText text (slice_index text 0 - 48)
one-digit [] e low high = absurd (omega arith)
one-digit (x ∷ []) e low high =
    let back : 48 + (x - 48) ≡ x = omega arith in
    let written = decimal-small (x - 48) (omega arith) in
    record { within = omega arith; same = sym (written ∙ ap (λ (y : ℕ). y ∷ []) back) }
one-digit (x ∷ y ∷ rest) e low high = absurd (omega arith)

pub two-digits : (text : List ℕ) → length text ≡ 2 → slice_index text 0 ≡ 49 → 48 ≤ slice_index text 1 →
    slice_index text 1 ≤ 53 → IsPlaceText text (slice_index text 1 - 48 + 10)
two-digits [] e first low high = absurd (omega arith)
two-digits (x ∷ []) e first low high = absurd (omega arith)
two-digits (x ∷ y ∷ []) e first low high =
    let back : 38 + (y - 48 + 10) ≡ y = omega arith in
    let written = decimal-large (y - 48 + 10) (omega arith) (omega arith) in
    let same : decimal (y - 48 + 10) ≡ x ∷ y ∷ [] = rw first (written ∙ ap (λ (z : ℕ). 49 ∷ z ∷ []) back) in
    record { within = omega arith; same = sym same }
two-digits (x ∷ y ∷ z ∷ rest) e first low high = absurd (omega arith)

-- the text of a place is one of the two
pub data IsDigits (text : List ℕ) : Type 0 where
  is_one : length text ≡ 1 → 48 ≤ slice_index text 0 → slice_index text 0 ≤ 57 → IsDigits text
  is_two : length text ≡ 2 → slice_index text 0 ≡ 49 → 48 ≤ slice_index text 1 → slice_index text 1 ≤ 53 →
      IsDigits text

pub place-digits : (text : List ℕ) (place : ℕ) → IsPlaceText text place → IsDigits text
place-digits text place is = by (nat_lt place 10) refl
  where
    by : (b : Bool) → nat_lt place 10 ≡ b → IsDigits text
    by true e =
        let small : place < 10 = grind (arith, nat_tests) in
        let same = is.same ∙ decimal-small place small in
        rw same (is_one refl (omega arith) (omega arith))
    by false e =
        let large : 10 ≤ place = grind (arith, nat_tests) in
        let within = is.within in
        let same = is.same ∙ decimal-large place large (omega arith) in
        rw same (is_two refl refl (omega arith) (omega arith))

-- what a header names by its `kid`, which is there or not, and a text or not
pub named-without : (header : Data) → get (codes "kid") header ≡ None → NamesPlace header 0
named-without header e = record { within = omega arith; named = rw e refl }

pub named-text : (header : Data) (text : List ℕ) (place : ℕ) → get (codes "kid") header ≡ Some (string text) →
    IsPlaceText text place → NamesPlace header place
named-text header text place e is =
    record { within = is.within; named = rw e ((bytes_eq-Decides text (decimal place)).1 is.same) }

pub unnamed-text : (header : Data) (text : List ℕ) → get (codes "kid") header ≡ Some (string text) →
    IsNoPlaceText text → NamesNoPlace header
unnamed-text header text e none =
    λ place names.
    let named : bytes_eq text (decimal place) ≡ true = rw e at names.named in
    none place (record { within = names.within; same = (bytes_eq-Decides text (decimal place)).0 named })
