-- A text that is decoded step by step is read as the definitions by encoding say.
use Rattle.std.proofs.Common.{◌≡◌, ◌≢◌, ℕ, zero, suc, ◌<◌, List, [], ◌∷◌, ◌++◌, get_or, Bool, true, false, nat_eq}
use Rattle.std.proofs.Common.{nat_lt, cond, ◌&&◌, Option, None, Some, option_map, option_and_then, Result, Ok, Err}
use Rattle.std.proofs.Common.{MatchOption, refl, sym, ap, ◌∙◌, arith}
use Rattle.std.specs.List.{list_all}
use Rattle.std.specs.Result.{result_ok}
use Rattle.std.specs.Str.{bytes_eq, is_utf8, IsUtf8}
use Rattle.std.proofs.lemmas.Bool.Decides.{nat_tests}
use Rattle.std.proofs.lemmas.Slice.Eq.{bytes_eq-Decides}
use Rattle.std.proofs.lemmas.Str.{IsUtf8-from_is_utf8, is_utf8-from_IsUtf8}
use Rattle.base64.specs.Engines.{url_safe_no_pad}
use Rattle.base64.specs.GeneralPurpose.{IsBytes, decode_of}
use Rattle.base64.specs.declared.decode.DecodeError.{DecodeError}
use Rattle.base64.proofs.EngineFacts.{decode_of-encode_of}
use Rattle.serde_json.specs.Data.{Data}
use Rattle.serde_json.specs.Read.{read}
use Rattle.acvp_token.specs.TokenText.{encoded}
use Rattle.acvp_token.specs.Private.Splitting.{HasNoDot}
use Rattle.acvp_token.specs.Reads.{IsJson}
use Rattle.acvp_token.specs.Private.Opening.{IsNoEncoding}
use Rattle.acvp_token.specs.Verdict.{split_dot, if_encoding, decoded, part_value}
use Rattle.acvp_token.proofs.Dots.{no_dot-nil, no_dot-cons, no_dot-head, no_dot-tail}

-- ---- steps that may give nothing

pub bind-is : {A B : Type 0} (N M : Type 0) (P : A → Type 0) (Q : B → Type 0) (o : Option A) (f : A → Option B) →
    MatchOption o N P → (N → M) → ((a : A) → P a → MatchOption (f a) M Q) → MatchOption (option_and_then f o) M Q
bind-is N M P Q None f h at_none at_some = at_none h
bind-is N M P Q (Some a) f h at_none at_some = at_some a h

pub test-is : {B : Type 0} (M : Type 0) (Q : B → Type 0) (b : Bool) (x y : Option B) →
    (b ≡ true → MatchOption x M Q) → (b ≡ false → MatchOption y M Q) → MatchOption (cond b x y) M Q
test-is M Q true x y at_true at_false = at_true refl
test-is M Q false x y at_true at_false = at_false refl

pub both : (a b : Bool) → (a && b) ≡ true → (a ≡ true) × (b ≡ true)
both true b h = (refl, h)
both false b h = cc

pub both-true : (a b : Bool) → a ≡ true → b ≡ true → (a && b) ≡ true
both-true a b p q = rw (p, q) refl

pub not-both : (a b : Bool) → (a && b) ≡ false → a ≡ true → b ≡ true → ⊥
not-both a b h p q = let t = both-true a b p q in cc

-- ---- dots

-- the text is what stands before its first dot, the dot, and what stands after it
abbrev pub IsCut : List ℕ → List ℕ × List ℕ → Type 0
IsCut text p = (text ≡ p.0 ++ 46 ∷ p.1) × HasNoDot p.0

cons-is : (x : ℕ) (xs : List ℕ) (o : Option (List ℕ × List ℕ)) → x ≢ 46 → MatchOption o (HasNoDot xs) (IsCut xs) →
    MatchOption (option_map (λ p. (x ∷ p.0, p.1)) o) (HasNoDot (x ∷ xs)) (IsCut (x ∷ xs))
cons-is x xs None other h = no_dot-cons x xs other h
cons-is x xs (Some p) other h =
    let cut : IsCut (x ∷ xs) (x ∷ p.0, p.1) = (ap (λ (ys : List ℕ). x ∷ ys) h.0, no_dot-cons x p.0 other h.1) in cut

is_dot : (x : ℕ) → nat_eq x 46 ≡ true → x ≡ 46
is_dot x h = grind (arith, nat_tests)

is_no_dot : (x : ℕ) → nat_eq x 46 ≡ false → x ≢ 46
is_no_dot x h = grind (arith, nat_tests)

pub split_dot-is : (text : List ℕ) → MatchOption (split_dot text) (HasNoDot text) (IsCut text)
split_dot-is [] = no_dot-nil
split_dot-is (x ∷ xs) =
    test-is (HasNoDot (x ∷ xs)) (IsCut (x ∷ xs)) (nat_eq x 46) (Some ([], xs))
    (option_map (λ p. (x ∷ p.0, p.1)) (split_dot xs))
    (λ h. let cut : IsCut (x ∷ xs) ([], xs) = (ap (λ (y : ℕ). y ∷ xs) (is_dot x h), no_dot-nil) in cut)
    (λ h. cons-is x xs (split_dot xs) (is_no_dot x h) (split_dot-is xs))

-- a text with a dot in it has one
pub dot-there : (a x : List ℕ) → HasNoDot (a ++ 46 ∷ x) → ⊥
dot-there [] x h = no_dot-head 46 x h refl
dot-there (c ∷ a) x h = dot-there a x (no_dot-tail c (a ++ 46 ∷ x) h)

-- ---- encodings

bytes-cons : (x : ℕ) (xs : List ℕ) → x < 256 → IsBytes xs → IsBytes (x ∷ xs)
bytes-cons x xs here rest = at
  where
    at : (i : ℕ) → get_or (x ∷ xs) i 0 < 256
    at zero = here
    at (suc i) = rest i

below-from_test : (x : ℕ) → nat_lt x 256 ≡ true → x < 256
below-from_test x h = grind (arith, nat_tests)

test-from_below : (x : ℕ) → x < 256 → nat_lt x 256 ≡ true
test-from_below x h = grind (arith, nat_tests)

pub bytes-from_test : (bytes : List ℕ) → list_all (λ b. nat_lt b 256) bytes ≡ true → IsBytes bytes
bytes-from_test [] h = λ i. omega arith
bytes-from_test (x ∷ xs) h =
    let parts = both (nat_lt x 256) (list_all (λ b. nat_lt b 256) xs) h in
    bytes-cons x xs (below-from_test x parts.0) (bytes-from_test xs parts.1)

pub test-from_bytes : (bytes : List ℕ) → IsBytes bytes → list_all (λ b. nat_lt b 256) bytes ≡ true
test-from_bytes [] h = refl
test-from_bytes (x ∷ xs) h =
    both-true (nat_lt x 256) (list_all (λ b. nat_lt b 256) xs) (test-from_below x (h zero))
    (test-from_bytes xs (λ i. h (suc i)))

-- the part is the encoding of these bytes
abbrev pub IsDecoded : List ℕ → List ℕ → Type 0
IsDecoded part bytes = (part ≡ encoded bytes) × IsBytes bytes

if_encoding-is : (part : List ℕ) (r : Result (List ℕ) DecodeError) →
    ((bytes : List ℕ) → IsBytes bytes → part ≡ encoded bytes → r ≡ Ok bytes) →
    MatchOption (option_and_then (if_encoding part) (result_ok r)) (IsNoEncoding part) (IsDecoded part)
if_encoding-is part (Err e) h = λ bytes is_bytes same. let t = h bytes is_bytes same in cc
if_encoding-is part (Ok found) h =
    let all = list_all (λ b. nat_lt b 256) found in
    let same_text = bytes_eq part (encoded found) in
    test-is (IsNoEncoding part) (IsDecoded part) (all && same_text) (Some found) None
    (λ t.
    let p = both all same_text t in
    let is : IsDecoded part found = ((bytes_eq-Decides part (encoded found)).0 p.1, bytes-from_test found p.0) in is)
    (λ t. λ bytes is_bytes same.
    let e : Ok found ≡ Ok bytes = h bytes is_bytes same in
    let f : bytes ≡ found = cc in
    let is_found : IsBytes found = rw f at is_bytes in
    let same_found : part ≡ encoded found = rw f at same in
    not-both all same_text t (test-from_bytes found is_found) ((bytes_eq-Decides part (encoded found)).1 same_found))

pub decoded-is : (part : List ℕ) → MatchOption (decoded part) (IsNoEncoding part) (IsDecoded part)
unfolding decoded encoded
decoded-is part =
    if_encoding-is part (decode_of url_safe_no_pad part)
    (λ bytes is_bytes same. ap (decode_of url_safe_no_pad)
    same ∙ decode_of-encode_of url_safe_no_pad bytes refl is_bytes)

-- ---- JSON texts

json-none : (bytes : List ℕ) (o : Option Data) → read bytes ≡ o → IsUtf8 bytes →
    MatchOption o ((d : Data) → ¬ IsJson bytes d) (IsJson bytes)
json-none bytes None e utf8 = λ d json. let r = json.reads in cc
json-none bytes (Some d) e utf8 = record { utf8 = utf8; reads = e }

pub part_value-is : (bytes : List ℕ) → MatchOption (part_value bytes) ((d : Data) → ¬ IsJson bytes d) (IsJson bytes)
unfolding part_value
part_value-is bytes =
    test-is ((d : Data) → ¬ IsJson bytes d) (IsJson bytes) (is_utf8 bytes) (read bytes) None
    (λ t. json-none bytes (read bytes) refl (IsUtf8-from_is_utf8 bytes t))
    (λ t. λ d json. let s = is_utf8-from_IsUtf8 bytes json.utf8 in cc)

-- a JSON text has one value
pub json-unique : (bytes : List ℕ) (d e : Data) → IsJson bytes d → IsJson bytes e → d ≡ e
json-unique bytes d e p q = let same : Some d ≡ Some e = sym p.reads ∙ q.reads in cc
