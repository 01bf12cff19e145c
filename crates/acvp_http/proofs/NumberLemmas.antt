-- Lemmas on reading the numbers of a path.
use Rattle.std.proofs.Common.{◌≡◌, ◌≢◌, ◌<◌, ◌^◌, ℕ, List, [], ◌∷◌, ◌++◌, length, get_or, take, drop, take-append-drop}
use Rattle.std.proofs.Common.{decimal, true, false, Option, Some, None, MatchOption, sym, ap, ◌∙◌, refl, arith}
use Rattle.std.proofs.Common.{append_assoc, ◌==◌}
use Rattle.std.specs.Prelude.{position, nat_lt}
use Rattle.std.specs.List.{position_or_len}
use Rattle.std.proofs.lemmas.Bool.Decides.{nat_tests}
use Rattle.std.proofs.lemmas.Fmt.{decimal_injective}
use Rattle.std.proofs.lemmas.List.{append_cancel_left, append_cancel_right}
use Rattle.std.proofs.Math.Seq.{take-append_seam}
use Rattle.acvp_http.specs.Private.Rows.{IsLast, IsInner, AreLast, AreInner, IsLeading}
use Rattle.acvp_http.proofs.DigitLemmas.{AreDigits, AreDigits-decimal, drop-behind}

-- ---- one number

pub last-from : (text front digits : List ℕ) (r : Option ℕ) → text ≡ front ++ digits →
    MatchOption r ((n : ℕ) → n < 10 ^ 19 → digits ≢ decimal n) (λ n. (n < 10 ^ 19) × (digits ≡ decimal n)) →
    MatchOption r (((n : ℕ) × IsLast text front n) → ⊥) (IsLast text front)
last-from text front digits None same none =
    λ h. none h.0 h.1.0 (append_cancel_left front digits (decimal h.0) (sym same ∙ h.1.1))
last-from text front digits (Some n) same some = (some.0, same ∙ ap (λ tail. front ++ tail) some.1)

pub last-other : (text front : List ℕ) → ((rest : List ℕ) → text ≢ front ++ rest) → ((n : ℕ) × IsLast text front n) → ⊥
last-other text front other h = other (decimal h.0) h.1.1

pub inner-from : (text front back whole : List ℕ) (r : Option ℕ) → text ≡ whole ++ back →
    MatchOption r (((n : ℕ) × IsLast whole front n) → ⊥) (IsLast whole front) →
    MatchOption r (((n : ℕ) × IsInner text front back n) → ⊥) (IsInner text front back)
inner-from text front back whole None same none = λ h.
    none (
      h.0,
      (
        h.1.0,
        append_cancel_right whole (front ++ decimal h.0) back
            (sym same ∙ (h.1.1 ∙ sym (append_assoc front (decimal h.0) back))),
      ),
    )
inner-from text front back whole (Some n) same some =
    (some.0, same ∙ (ap (λ w. w ++ back) some.1 ∙ append_assoc front (decimal n) back))

pub inner-other : (text front back : List ℕ) → ((whole : List ℕ) → text ≢ whole ++ back)
    → ((n : ℕ) × IsInner text front back n) → ⊥
inner-other text front back other h = other (front ++ decimal h.0) (h.1.1 ∙ sym (append_assoc front (decimal h.0) back))

-- ---- the first of two numbers

-- where the first slash is behind some digits
slash-behind : (ds rest : List ℕ) → AreDigits ds → position_or_len (λ b. b == 47) (ds ++ (47 ∷ rest)) ≡ length ds
slash-behind [] rest digits = refl
slash-behind (d ∷ ds) rest digits =
    let other : (d == 47) ≡ false = grind (arith, nat_tests, digits.0) in
    rw (other, slash-behind ds rest digits.2) (omega arith)

longer : (ds rest : List ℕ) → length ds < length (ds ++ (47 ∷ rest))
longer [] rest = omega arith
longer (d ∷ ds) rest = omega (arith, longer ds rest)

position-behind : (ds rest : List ℕ) → AreDigits ds → position (λ b. b == 47) (ds ++ (47 ∷ rest)) ≡ Some (length ds)
position-behind ds rest digits =
    let more : nat_lt (length ds) (length (ds ++ (47 ∷ rest))) ≡ true = grind (arith, nat_tests, longer ds rest) in
    rw (slash-behind ds rest digits, more) refl

-- the first slash ends the number
splits : (text : List ℕ) (k n : ℕ) (rest : List ℕ) → Some k ≡ position (λ b. b == 47) text → n < 10 ^ 19
    → text ≡ decimal n ++ (47 ∷ rest) → (take k text ≡ decimal n) × (drop k text ≡ 47 ∷ rest)
splits text k n rest at small same =
    let whole : Some k ≡ Some (length (decimal n)) =
    at ∙ (ap (λ t. position (λ b. b == 47) t) same
    ∙ position-behind (decimal n) rest (AreDigits-decimal n small)) in
    let end : k ≡ length (decimal n) = cc in
    rw (end, same) (take-append_seam (decimal n) (47 ∷ rest), drop-behind (decimal n) (47 ∷ rest))

pub leading-none : (text : List ℕ) → None ≡ position (λ b. b == 47) text → IsLeading text None
leading-none text none n rest small same =
    let some : None ≡ Some (length (decimal n)) =
    none ∙ (ap (λ t. position (λ b. b == 47) t) same
    ∙ position-behind (decimal n) rest (AreDigits-decimal n small)) in
    cc

pub leading-other : (text : List ℕ) (k : ℕ) → Some k ≡ position (λ b. b == 47) text
    → ((n : ℕ) → n < 10 ^ 19 → take k text ≢ decimal n) → IsLeading text None
leading-other text k at other n rest small same = other n small (splits text k n rest at small same).0

pub leading-some : (text : List ℕ) (k v : ℕ) → Some k ≡ position (λ b. b == 47) text → v < 10 ^ 19
    → take k text ≡ decimal v → IsLeading text (Some (v, drop k text))
leading-some text k v at small is = (
  small,
  sym (take-append-drop k text) ∙ ap (λ f. f ++ drop k text) is,
  λ n rest small' same.
      let parts = splits text k n rest at small' same in
      (decimal_injective v n (omega arith) (omega arith) (sym is ∙ parts.0), parts.1),
)

-- ---- two numbers

slashed : (middle : List ℕ) → get_or middle 0 0 ≡ 47 → (rest : List ℕ) × (middle ≡ 47 ∷ rest)
slashed [] starts = absurd (omega arith)
slashed (b ∷ rest) starts = (rest, ap (λ b. b ∷ rest) starts)

pub both-other : (text front middle : List ℕ) → ((rest : List ℕ) → text ≢ front ++ rest)
    → ((n : ℕ) × (m : ℕ) × AreLast text front middle n m) → ⊥
both-other text front middle other h = other (decimal h.0 ++ (middle ++ decimal h.1)) h.2.1

-- what stands behind the front
behind-is : (text front middle behind : List ℕ) (n m : ℕ) (rest : List ℕ) → text ≡ front ++ behind → middle ≡ 47 ∷ rest
    → AreLast text front middle n m → behind ≡ decimal n ++ (47 ∷ (rest ++ decimal m))
behind-is text front middle behind n m rest same starts are =
    append_cancel_left front behind (decimal n ++ (middle ++ decimal m)) (sym same ∙ are.1)
    ∙ ap (λ w. decimal n ++ (w ++ decimal m)) starts

pub both-unled : (text front middle behind : List ℕ) → text ≡ front ++ behind → get_or middle 0 0 ≡ 47
    → IsLeading behind None → ((n : ℕ) × (m : ℕ) × AreLast text front middle n m) → ⊥
both-unled text front middle behind same starts none h =
    let s = slashed middle starts in
    none h.0 (s.0 ++ decimal h.1) h.2.0.0 (behind-is text front middle behind h.0 h.1 s.0 same s.1 h.2)

pub both-none : (text front middle behind tail : List ℕ) (v : ℕ) → text ≡ front ++ behind → get_or middle 0 0 ≡ 47
    → IsLeading behind (Some (v, tail)) → (((m : ℕ) × IsLast tail middle m) → ⊥)
    → ((n : ℕ) × (m : ℕ) × AreLast text front middle n m) → ⊥
both-none text front middle behind tail v same starts leads none h =
    let s = slashed middle starts in
    let unique = leads.2 h.0 (s.0 ++ decimal h.1) h.2.0.0
    (behind-is text front middle behind h.0 h.1 s.0 same s.1 h.2) in
    none (h.1, (h.2.0.1, unique.1 ∙ sym (ap (λ w. w ++ decimal h.1) s.1)))

pub both-some : (text front middle behind tail : List ℕ) (v m : ℕ) → text ≡ front ++ behind
    → IsLeading behind (Some (v, tail)) → IsLast tail middle m → AreLast text front middle v m
both-some text front middle behind tail v m same leads is =
    ((leads.0, is.0), same ∙ ap (λ w. front ++ w) (leads.1 ∙ ap (λ w. decimal v ++ w) is.1))

regroup : (a b c d e : List ℕ) → (a ++ (b ++ (c ++ d))) ++ e ≡ a ++ (b ++ (c ++ (d ++ e)))
regroup a b c d e = simp append_assoc

pub both-inner : (text front middle back whole : List ℕ) (r : Option (ℕ × ℕ)) → text ≡ whole ++ back →
    MatchOption r (((n : ℕ) × (m : ℕ) × AreLast whole front middle n m) → ⊥)
    (λ both. AreLast whole front middle both.0 both.1) →
    MatchOption r (((n : ℕ) × (m : ℕ) × AreInner text front middle back n m) → ⊥)
    (λ both. AreInner text front middle back both.0 both.1)
both-inner text front middle back whole None same none = λ h.
    none (
      h.0,
      h.1,
      (
        h.2.0,
        append_cancel_right whole (front ++ (decimal h.0 ++ (middle ++ decimal h.1))) back
            (sym same ∙ (h.2.1 ∙ sym (regroup front (decimal h.0) middle (decimal h.1) back))),
      ),
    )
both-inner text front middle back whole (Some both) same some =
    (some.0, same ∙ (ap (λ w. w ++ back) some.1 ∙ regroup front (decimal both.0) middle (decimal both.1) back))

pub both-inner-other : (text front middle back : List ℕ) → ((whole : List ℕ) → text ≢ whole ++ back)
    → ((n : ℕ) × (m : ℕ) × AreInner text front middle back n m) → ⊥
both-inner-other text front middle back other h =
    other (front ++ (decimal h.0 ++ (middle ++ decimal h.1)))
    (h.2.1 ∙ sym (regroup front (decimal h.0) middle (decimal h.1) back))

-- ---- the numbers are no others

pub last-one : (front : List ℕ) (n m : ℕ) → n < 10 ^ 19 → m < 10 ^ 19 → front ++ decimal n ≡ front ++ decimal m → n ≡ m
last-one front n m small small' same =
    decimal_injective n m (omega arith) (omega arith) (append_cancel_left front (decimal n) (decimal m) same)

pub inner-one : (front back : List ℕ) (n m : ℕ) → n < 10 ^ 19 → m < 10 ^ 19
    → front ++ (decimal n ++ back) ≡ front ++ (decimal m ++ back) → n ≡ m
inner-one front back n m small small' same =
    decimal_injective n m (omega arith) (omega arith)
    (append_cancel_right (decimal n) (decimal m) back
    (append_cancel_left front (decimal n ++ back) (decimal m ++ back) same))

-- the first number of two, and what stands behind it
first-one : (n m : ℕ) (rest other : List ℕ) → n < 10 ^ 19 → m < 10 ^ 19
    → decimal n ++ (47 ∷ rest) ≡ decimal m ++ (47 ∷ other) → (n ≡ m) × (rest ≡ other)
first-one n m rest other small small' same =
    let text = decimal n ++ (47 ∷ rest) in
    let at : Some (length (decimal n)) ≡ position (λ b. b == 47) text =
    sym (position-behind (decimal n) rest (AreDigits-decimal n small)) in
    let parts = splits text (length (decimal n)) m other at small' same in
    let front : decimal n ≡ decimal m = sym (take-append_seam (decimal n) (47 ∷ rest)) ∙ parts.0 in
    let tail : 47 ∷ rest ≡ 47 ∷ other = sym (drop-behind (decimal n) (47 ∷ rest)) ∙ parts.1 in
    (decimal_injective n m (omega arith) (omega arith) front, (cc))

pub both-last-one : (front middle : List ℕ) (n m n' m' : ℕ) → (n < 10 ^ 19) × (m < 10 ^ 19) → (n' < 10 ^ 19)
    × (m' < 10 ^ 19) →
    front ++ (decimal n ++ (47 ∷ (middle ++ decimal m))) ≡ front ++ (decimal n' ++ (47 ∷ (middle ++ decimal m')))
    → (n ≡ n') × (m ≡ m')
both-last-one front middle n m n' m' small small' same =
    let parts = first-one n n' (middle ++ decimal m) (middle ++ decimal m') small.0 small'.0
    (append_cancel_left front _ _ same) in
    (parts.0, last-one middle m m' small.1 small'.1 parts.1)

pub both-inner-one : (front middle back : List ℕ) (n m n' m' : ℕ) → (n < 10 ^ 19) × (m < 10 ^ 19) → (n' < 10 ^ 19)
    × (m' < 10 ^ 19) →
    front ++ (decimal n ++ (47 ∷ (middle ++ (decimal m ++ back)))) ≡ front
    ++ (decimal n' ++ (47 ∷ (middle ++ (decimal m' ++ back)))) → (n ≡ n') × (m ≡ m')
both-inner-one front middle back n m n' m' small small' same =
    let parts = first-one n n' (middle ++ (decimal m ++ back)) (middle ++ (decimal m' ++ back)) small.0 small'.0
    (append_cancel_left front _ _ same) in
    (parts.0, inner-one middle back m m' small.1 small'.1 parts.1)
