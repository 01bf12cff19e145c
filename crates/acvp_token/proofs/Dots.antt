-- The dots of a text: where they are, and that an encoding has none.
use Rattle.std.proofs.Common.{◌≡◌, ◌≢◌, ℕ, zero, suc, ◌+◌, ◌<◌, List, [], ◌∷◌, ◌++◌, length, take, get_or, Bool, true}
use Rattle.std.proofs.Common.{false, not, nat_eq, ◌&&◌, refl, sym, ◌∙◌, arith, append_assoc, length-append}
use Rattle.std.specs.List.{list_all}
use Rattle.std.proofs.lemmas.Bool.Decides.{nat_tests}
use Rattle.std.proofs.lemmas.List.Elements.{All-append}
use Rattle.std.proofs.Math.Seq.{take-append_seam}
use Rattle.base64.specs.Rfc4648.{encode_symbols}
use Rattle.base64.specs.Engines.{url_safe_no_pad}
use Rattle.acvp_token.specs.Private.Splitting.{HasNoDot, IsSplit}
use Rattle.acvp_token.specs.TokenText.{encoded}

-- ---- lists without dots

pub no_dot-nil : HasNoDot []
no_dot-nil = λ k d h. absurd (omega arith)

pub no_dot-cons : (x : ℕ) (xs : List ℕ) → x ≢ 46 → HasNoDot xs → HasNoDot (x ∷ xs)
no_dot-cons x xs h rest = cons
  where
    cons : (k : ℕ) (d : ℕ) → k < length (x ∷ xs) → get_or (x ∷ xs) k d ≢ 46
    cons zero d le = h
    cons (suc k) d le = rest k d (omega arith)

pub no_dot-head : (x : ℕ) (xs : List ℕ) → HasNoDot (x ∷ xs) → x ≢ 46
no_dot-head x xs h = h zero 0 (omega arith)

pub no_dot-tail : (x : ℕ) (xs : List ℕ) → HasNoDot (x ∷ xs) → HasNoDot xs
no_dot-tail x xs h = λ k d le. h (suc k) d (omega arith)

-- ---- an encoding has no dot

not_dot : (x : ℕ) → not (nat_eq x 46) ≡ true → x ≢ 46
not_dot x h = grind (arith, nat_tests)

both : (a b : Bool) → (a && b) ≡ true → (a ≡ true) × (b ≡ true)
both true b h = (refl, h)
both false b h = cc

symbol_no_dot : (table : List ℕ) → list_all (λ b. not (nat_eq b 46)) table ≡ true → (i : ℕ) → get_or table i 0 ≢ 46
symbol_no_dot [] h i = λ e. absurd (omega arith)
symbol_no_dot (x ∷ xs) h zero = not_dot x (both _ _ h).0
symbol_no_dot (x ∷ xs) h (suc i) = symbol_no_dot xs (both _ _ h).1 i

symbols_no_dot : (table m : List ℕ) → ((i : ℕ) → get_or table i 0 ≢ 46) → HasNoDot (encode_symbols table m)
unfolding encode_symbols
symbols_no_dot table [] h = no_dot-nil
symbols_no_dot table (a ∷ []) h = search (no_dot-cons, no_dot-nil, h) depth 9
symbols_no_dot table (a ∷ b ∷ []) h = search (no_dot-cons, no_dot-nil, h) depth 9
symbols_no_dot table (a ∷ b ∷ c ∷ rest) h =
    let further = symbols_no_dot table rest h in
    search (no_dot-cons, further, h) depth 9

-- the encoding of any bytes has no dot
pub encoded-no_dot : (bytes : List ℕ) → HasNoDot (encoded bytes)
unfolding encoded
encoded-no_dot bytes =
    All-append (λ b. b ≢ 46) (encode_symbols url_safe_no_pad.encode_table bytes) []
    (symbols_no_dot url_safe_no_pad.encode_table bytes (symbol_no_dot url_safe_no_pad.encode_table refl)) no_dot-nil

-- ---- the parts round a dot

-- what stands before the first dot, and after it, is known from the text
pub split-unique : (a b x y : List ℕ) → HasNoDot a → HasNoDot b → a ++ 46 ∷ x ≡ b ++ 46 ∷ y → (a ≡ b) × (x ≡ y)
split-unique [] [] x y p q e = (refl, cc)
split-unique [] (d ∷ b) x y p q e =
    let head : 46 ≡ d = cc in
    absurd (no_dot-head d b q (sym head))
split-unique (c ∷ a) [] x y p q e =
    let head : c ≡ 46 = cc in
    absurd (no_dot-head c a p head)
split-unique (c ∷ a) (d ∷ b) x y p q e =
    let head : c ≡ d = cc in
    let tails : a ++ 46 ∷ x ≡ b ++ 46 ∷ y = cc in
    let rest = split-unique a b x y (no_dot-tail c a p) (no_dot-tail d b q) tails in
    (cc (rest.0, head), rest.1)

-- three parts with dots between them, joined from the left or from the right
pub parts-from_right : (a b s : List ℕ) → a ++ (46 ∷ []) ++ b ++ (46 ∷ []) ++ s ≡ a ++ 46 ∷ (b ++ 46 ∷ s)
parts-from_right a b s = simp append_assoc

-- a text that was split at its first two dots
pub split-parts : (text rest a b s : List ℕ) → text ≡ a ++ 46 ∷ rest → rest ≡ b ++ 46 ∷ s → HasNoDot a → HasNoDot b →
    IsSplit text a b s × (take (length a + 1 + length b) text ≡ a ++ (46 ∷ []) ++ b)
split-parts text rest a b s e f p q =
    let right : text ≡ a ++ 46 ∷ (b ++ 46 ∷ s) = rw (← f) e in
    let whole : text ≡ a ++ (46 ∷ []) ++ b ++ (46 ∷ []) ++ s = right ∙ sym (parts-from_right a b s) in
    let front : length (a ++ (46 ∷ []) ++ b) ≡ length a + 1 + length b = simp length-append in
    let ends : a ++ (46 ∷ []) ++ b ++ (46 ∷ []) ++ s ≡ (a ++ (46 ∷ []) ++ b) ++ (46 ∷ s) = simp append_assoc in (
      record { whole = whole; first_dotless = p; second_dotless = q },
      rw (← front, whole, ends) (take-append_seam (a ++ (46 ∷ []) ++ b) (46 ∷ s)),
    )

-- two ways to split a text are one
pub split-same : (text a b s a' b' s' : List ℕ) → IsSplit text a b s → IsSplit text a' b' s' →
    (a ≡ a') × (b ≡ b') × (s ≡ s')
split-same text a b s a' b' s' h h' =
    let same : a ++ 46 ∷ (b ++ 46 ∷ s) ≡ a' ++ 46 ∷ (b' ++ 46 ∷ s') =
    sym (parts-from_right a b s) ∙ sym h.whole ∙ h'.whole ∙ parts-from_right a' b' s' in
    let first = split-unique a a' _ _ h.first_dotless h'.first_dotless same in
    let second = split-unique b b' _ _ h.second_dotless h'.second_dotless first.1 in
    (first.0, second.0, second.1)
