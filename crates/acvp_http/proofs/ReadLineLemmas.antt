-- Lemmas on reading lines.
use Rattle.std.proofs.Common.{◌≡◌, ◌≢◌, ◌<◌, ◌≤◌, ◌+◌, ℕ, List, [], ◌∷◌, ◌++◌, length, take, Option, Some, None, IfSome}
use Rattle.std.proofs.Common.{arith, sym, ◌∙◌, ap, refl, append_assoc, append-nil, length-append}
use Rattle.std.proofs.lemmas.List.{length-take-le, take-append-le}
use Rattle.std.proofs.Math.Seq.{take-append-add}
use borrow.Rule.Slice.PartMut.{put_mid, post_of}
use Rattle.std.specs.Io.KnownBytes.{Consumes, IsAtEnd}
use Rattle.acvp_http.specs.Private.Lines.{Lacks}
use Rattle.acvp_http.specs.Private.Reading.{HasNoLine, HasNoBody}
use Rattle.acvp_http.proofs.LineLemmas.{not_lacks, lacks_append}

-- no 10 stands in the front of a text that lacks it
pub early : (line rest t ys : List ℕ) → Lacks 10 t → t ++ ys ≡ line ++ 10 ∷ rest → length line < length t → ⊥
early [] rest [] ys lacks is short = omega arith
early [] rest (x ∷ t) ys lacks is short = lacks.0 (cc)
early (l ∷ line) rest [] ys lacks is short = omega arith
early (l ∷ line) rest (x ∷ t) ys lacks is short =
    let tails : t ++ ys ≡ line ++ 10 ∷ rest = cc in
    early line rest t ys lacks.1 tails (omega arith)

-- the input ends in a line
pub no_line_ended : (a b : Option (List ℕ)) (text : List ℕ) → Consumes a b text → Lacks 10 text → 0 < length text
    → IsAtEnd b → IfSome a HasNoLine
no_line_ended None b text consumed lacks some ended = tt
no_line_ended (Some xs) None text consumed lacks some ended = absurd consumed
no_line_ended (Some xs) (Some ys) text consumed lacks some ended =
    let whole : xs ≡ text = consumed ∙ ap (λ rest. text ++ rest) ended ∙ append-nil text in (
      (λ none. let empty : length text ≡ length {A = ℕ} [] = ap length (sym whole ∙ none) in omega arith),
      (λ line rest few lacks' is. not_lacks 10 line rest (rw (sym whole ∙ is) at lacks)),
    )

-- a line that is too long
pub no_line_long : (a b : Option (List ℕ)) (text : List ℕ) (c : ℕ) → Consumes a b (text ++ c ∷ []) → length text ≡ 101
    → Lacks 10 text → c ≢ 10 → IfSome a HasNoLine
no_line_long None b text c consumed long lacks other = tt
no_line_long (Some xs) None text c consumed long lacks other = absurd consumed
no_line_long (Some xs) (Some ys) text c consumed long lacks other =
    let all : Lacks 10 (text ++ c ∷ []) = lacks_append 10 text (c ∷ []) lacks (other, tt) in
    let size : length (text ++ c ∷ []) ≡ length text + length (c ∷ []) = length-append text (c ∷ []) in (
      (λ none. let empty : length ((text ++ c ∷ []) ++ ys) ≡ length {A = ℕ} [] = ap length (sym consumed ∙ none) in
          omega (arith, length-append (text ++ c ∷ []) ys)),
      (λ line rest few lacks' is. early line rest (text ++ c ∷ []) ys all (sym consumed ∙ is) (omega arith)),
    )

take_past : (p q r : List ℕ) (a n : ℕ) → a ≡ length p → n ≤ length q → take (a + n) (p ++ (q ++ r)) ≡ p ++ take n q
take_past p q r a n at low = rw at (take-append-add p (q ++ r) n ∙ ap (λ rest. p ++ rest) (take-append-le n q r low))

-- the front of a buffer, once n bytes of what stood behind it are read
pub filled_more : (a k n : ℕ) (xs ys : List ℕ) → a ≤ length xs → n ≤ length ys
    → take (a + n) (put_mid a k xs ys) ≡ take a xs ++ take n ys
filled_more a k n xs ys low few = take_past (take a xs) ys (post_of a k xs) a n (sym (length-take-le a xs low)) few

pub filled_low : (a k n : ℕ) (xs ys : List ℕ) → a ≤ length xs → n ≤ length ys → a + n ≤ length (put_mid a k xs ys)
filled_low a k n xs ys low few =
    omega (
      arith,
      length-append (take a xs) (ys ++ post_of a k xs),
      length-append ys (post_of a k xs),
      length-take-le a xs low,
    )

-- fronts of one length are one front
pub same_fronts : (p q r s : List ℕ) → length p ≡ length r → p ++ q ≡ r ++ s → (p ≡ r) × (q ≡ s)
same_fronts [] q [] s size is = (refl, is)
same_fronts [] q (y ∷ r) s size is = absurd (omega arith)
same_fronts (x ∷ p) q [] s size is = absurd (omega arith)
same_fronts (x ∷ p) q (y ∷ r) s size is =
    let tails : p ++ q ≡ r ++ s = cc in
    let rest = same_fronts p q r s (omega arith) tails in
    let same : p ≡ r = rest.0 in
    let heads : x ≡ y = cc in
    ((cc), rest.1)

-- what stands after the bytes isn't a line feed
pub no_body_byte : (a b : Option (List ℕ)) (text : List ℕ) (c n : ℕ) → Consumes a b (text ++ c ∷ []) → length text ≡ n
    → c ≢ 10 → IfSome a (HasNoBody n)
no_body_byte None b text c n consumed size other = tt
no_body_byte (Some xs) None text c n consumed size other = absurd consumed
no_body_byte (Some xs) (Some ys) text c n consumed size other = λ bytes rest size' is.
    let grouped : xs ≡ text ++ c ∷ ys = consumed ∙ append_assoc text (c ∷ []) ys in
    let tails : c ∷ ys ≡ 10 ∷ rest = (same_fronts text (c ∷ ys) bytes (10 ∷ rest) (omega arith) (sym grouped ∙ is)).1 in
    other (cc)

-- as many bytes as there should be are no body with its line feed where another byte stands behind them
pub no_body_other : (text : List ℕ) (c n : ℕ) → length text ≡ n → c ≢ 10 → HasNoBody n (text ++ c ∷ [])
no_body_other text c n size other = λ bytes rest size' is.
    let tails : c ∷ [] ≡ 10 ∷ rest = (same_fronts text (c ∷ []) bytes (10 ∷ rest) (omega arith) is).1 in
    other (cc)
