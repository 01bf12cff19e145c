-- Lemmas on the lines of a keys file.
use Rattle.std.proofs.Common.{◌≡◌, ◌≢◌, ◌<◌, ◌≤◌, ◌+◌, ℕ, List, [], ◌∷◌, ◌++◌, length, take, codes, get_or, true, Bor}
use Rattle.std.proofs.Common.{MatchOption, Option, None, Some, Ok, inl, inr, ◌-◌, arith, ap, sym, refl, ◌∙◌}
use Rattle.std.proofs.Common.{append_assoc, append-nil, length-append}
use Rattle.std.proofs.lemmas.List.{append_cancel_left, length-take, take_at}
use Rattle.hex.proofs.HexLemmas.{decode_of-ok, decode_of-same}
use Rattle.hex.specs.Hex.{decode_of, is_hex_digit}
use Rattle.acvp_token.specs.Keys.{Ring}
use Rattle.acvp_gen.specs.Seeds.{AreSeeds}
use Rattle.acvp_keys.specs.KeysFile.{IsLine, IsTokenLine, IsSeedLine, AreLines, IsShortText, IsLongText, IsKeysText}
use Rattle.acvp_keys.specs.Private.Taking.{StartsWith, HasNoLine, StartsWithLines}

-- fronts of one length, with one text, are the same, and so is what stands behind them
same_fronts : (p q r s : List ℕ) → length p ≡ length r → p ++ q ≡ r ++ s → (p ≡ r) × (q ≡ s)
same_fronts p q r s size is =
    let front : p ≡ r = sym (take_at p q (length p) refl)
    ∙ (ap (take (length p)) is ∙ take_at r s (length p) (sym size)) in
    (front, append_cancel_left r q s (rw front at is))

length-IsLine : (line bytes : List ℕ) → IsLine line bytes → length line ≡ 65
length-IsLine line bytes h = ap length h.3 ∙ (length-append h.0 (codes "\n") ∙ ap (λ n. n + 1) h.1)

-- a line of digits at the front is the first 65 bytes
pub first_line : (text bytes rest : List ℕ) → StartsWith IsLine text bytes rest → IsLine (take 65 text) bytes
first_line text bytes rest h =
    let front : take 65 text ≡ h.0 = ap (take 65) h.2 ∙ take_at h.0 rest 65 (length-IsLine h.0 bytes h.1) in
    rw front h.1

-- what stands behind a word that the line at the front begins with
worded : (word text line tail rest : List ℕ) → text ≡ line ++ rest → line ≡ word ++ tail
    → text ≡ word ++ (tail ++ rest)
worded word text line tail rest whole is =
    whole ∙ (ap (λ (l : List ℕ). l ++ rest) is ∙ append_assoc word tail rest)

-- without the word of a ring's entries no entry stands at the front
no_token_word : (text : List ℕ) → ((rest : List ℕ) → text ≢ codes "token " ++ rest) → HasNoLine IsTokenLine text
no_token_word text other None rest h = other (codes "-\n" ++ rest) (h.2 ∙ ap (λ (l : List ℕ). l ++ rest) h.1)
no_token_word text other (Some key) rest h =
    other (h.1.0 ++ rest) (worded (codes "token ") text h.0 h.1.0 rest h.2 h.1.2)

-- nor where neither the mark of a retired key nor a line of digits stands behind the word
pub no_token_digits : (text after : List ℕ) → ((rest : List ℕ) → text ≢ codes "token -\n" ++ rest)
    → text ≡ codes "token " ++ after → HasNoLine IsLine after → HasNoLine IsTokenLine text
no_token_digits text after other is none None rest h = other rest (h.2 ∙ ap (λ (l : List ℕ). l ++ rest) h.1)
no_token_digits text after other is none (Some key) rest h =
    none key rest (
      h.1.0,
      h.1.1,
      append_cancel_left (codes "token ") after (h.1.0 ++ rest)
          (sym is ∙ worded (codes "token ") text h.0 h.1.0 rest h.2 h.1.2),
    )

no_seed_word : (text : List ℕ) → ((rest : List ℕ) → text ≢ codes "seed " ++ rest) → HasNoLine IsSeedLine text
no_seed_word text other seed rest h =
    other (h.1.0 ++ rest) (worded (codes "seed ") text h.0 h.1.0 rest h.2 h.1.2)

no_seed_digits : (text after : List ℕ) → text ≡ codes "seed " ++ after → HasNoLine IsLine after
    → HasNoLine IsSeedLine text
no_seed_digits text after is none seed rest h =
    none seed rest (
      h.1.0,
      h.1.1,
      append_cancel_left (codes "seed ") after (h.1.0 ++ rest)
          (sym is ∙ worded (codes "seed ") text h.0 h.1.0 rest h.2 h.1.2),
    )

-- a line of digits behind a word
pub some_key : (text after key rest : List ℕ) → text ≡ codes "token " ++ after → StartsWith IsLine after key rest
    → StartsWith IsTokenLine text (Some key) rest
some_key text after key rest is h = (
  codes "token " ++ h.0,
  (h.0, h.1, refl),
  is ∙ (ap (λ (l : List ℕ). codes "token " ++ l) h.2 ∙ sym (append_assoc (codes "token ") h.0 rest)),
)

some_seed : (text after seed rest : List ℕ) → text ≡ codes "seed " ++ after → StartsWith IsLine after seed rest
    → StartsWith IsSeedLine text seed rest
some_seed text after seed rest is h = (
  codes "seed " ++ h.0,
  (h.0, h.1, refl),
  is ∙ (ap (λ (l : List ℕ). codes "seed " ++ l) h.2 ∙ sym (append_assoc (codes "seed ") h.0 rest)),
)

-- no seed's line begins as an entry's does
seeds_have_no_token : (text : List ℕ) (seeds : List (List ℕ)) → AreLines IsSeedLine text seeds
    → HasNoLine IsTokenLine text
seeds_have_no_token text [] lines =
    no_token_word text (λ rest is.
    let first : 0 ≡ 116 = ap (λ (l : List ℕ). get_or l 0 0) (sym lines ∙ is) in omega arith)
seeds_have_no_token text (seed ∷ seeds) lines =
    let front = worded (codes "seed ") text lines.0 lines.3.0 lines.1 lines.2 lines.3.2 in
    no_token_word text (λ rest is.
    let first : 115 ≡ 116 = ap (λ (l : List ℕ). get_or l 0 0) (sym front ∙ is) in omega arith)

-- no line stands at the end of a text
end_has_no_seed : HasNoLine IsSeedLine []
end_has_no_seed = no_seed_word [] (λ rest is. let first : 0 ≡ 115 = ap (λ (l : List ℕ). get_or l 0 0) is in omega arith)

-- lines that stand one after another
more_lines : {X : Type 0} (IsOne : List ℕ → X → Type 0) (front : List ℕ) (xs : List X) (line : List ℕ) (x : X)
    → AreLines IsOne front xs → IsOne line x → AreLines IsOne (front ++ line) (xs ++ x ∷ [])
more_lines IsOne front [] line x lines one =
    (line, [], (ap (λ (l : List ℕ). l ++ line) lines ∙ sym (append-nil line)), one, refl)
more_lines IsOne front (y ∷ ys) line x lines one = (
  lines.0,
  lines.1 ++ line,
  ap (λ (l : List ℕ). l ++ line) lines.2 ∙ append_assoc lines.0 lines.1 line,
  lines.3,
  more_lines IsOne lines.1 ys line x lines.4 one,
)

-- a line more is taken
pub take_line : {X : Type 0} (IsOne : List ℕ → X → Type 0) (text : List ℕ) (xs : List X) (x : X) (rest after : List ℕ)
    → StartsWithLines IsOne text xs rest → StartsWith IsOne rest x after
    → StartsWithLines IsOne text (xs ++ x ∷ []) after
take_line IsOne text xs x rest after taken next = (
  taken.0 ++ next.0,
  more_lines IsOne taken.0 xs next.0 x taken.1 next.1,
  taken.2 ∙ (ap (λ (l : List ℕ). taken.0 ++ l) next.2 ∙ sym (append_assoc taken.0 next.0 after)),
)

-- what a line at the front says, and what stands behind it, is one thing
abbrev IsUnique : {X : Type 0} → (List ℕ → X → Type 0) → Type 0
IsUnique {X} IsOne =
    (line other rest after : List ℕ) (x y : X) → IsOne line x → IsOne other y → line ++ rest ≡ other ++ after
    → (x ≡ y) × (rest ≡ after)

same_line : (line other rest after a b : List ℕ) → IsLine line a → IsLine other b → line ++ rest ≡ other ++ after
    → (a ≡ b) × (rest ≡ after)
same_line line other rest after a b h k is =
    let parts = same_fronts line rest other after (length-IsLine line a h ∙ sym (length-IsLine other b k)) is in
    let digits = same_fronts h.0 (codes "\n") k.0 (codes "\n") (h.1 ∙ sym k.1) (sym h.3 ∙ parts.0 ∙ k.3) in
    (decode_of-same k.0 a b (rw digits.0 at h.2) k.2, parts.1)

-- a line of digits behind a word, in the same way
same_worded : (word line other tail behind rest after a b : List ℕ) → IsLine tail a → IsLine behind b
    → line ≡ word ++ tail → other ≡ word ++ behind → line ++ rest ≡ other ++ after → (a ≡ b) × (rest ≡ after)
same_worded word line other tail behind rest after a b h k first second is =
    same_line tail behind rest after a b h k (append_cancel_left word (tail ++ rest) (behind ++ after)
    (sym (worded word (line ++ rest) line tail rest refl first)
    ∙ worded word (line ++ rest) other behind after is second))

same_seed : (line other rest after a b : List ℕ) → IsSeedLine line a → IsSeedLine other b
    → line ++ rest ≡ other ++ after → (a ≡ b) × (rest ≡ after)
same_seed line other rest after a b h k is =
    same_worded (codes "seed ") line other h.0 k.0 rest after a b h.1 k.1 h.2 k.2 is

-- the mark of a retired key is no hex digit
no_dash : (digits bytes rest after : List ℕ) → length digits ≡ 64 → decode_of digits ≡ Ok bytes
    → digits ++ rest ≡ 45 ∷ after → ⊥
no_dash [] bytes rest after size decoded is = omega arith
no_dash (d ∷ digits) bytes rest after size decoded is =
    let dash : d ≡ 45 = cc in
    let passes : is_hex_digit d ≡ true = (decode_of-ok (d ∷ digits) bytes decoded).1 0 d (omega arith) in
    let wrong = rw dash at passes in
    cc

-- so no line of a retired key is one of a key
no_key : (line other rest after b : List ℕ) → line ≡ codes "token -\n" → IsTokenLine other (Some b)
    → line ++ rest ≡ other ++ after → ⊥
no_key line other rest after b h k is =
    let tails : codes "-\n" ++ rest ≡ k.0 ++ after =
    append_cancel_left (codes "token ") (codes "-\n" ++ rest) (k.0 ++ after)
    (sym (ap (λ (l : List ℕ). l ++ rest) h) ∙ worded (codes "token ") (line ++ rest) other k.0 after is k.2) in
    no_dash k.1.0 b (codes "\n" ++ after) (codes "\n" ++ rest) k.1.1 k.1.2
    (sym (worded k.1.0 (k.0 ++ after) k.0 (codes "\n") after refl k.1.3) ∙ sym tails)

same_token : (line other rest after : List ℕ) (a b : Option (List ℕ)) → IsTokenLine line a → IsTokenLine other b
    → line ++ rest ≡ other ++ after → (a ≡ b) × (rest ≡ after)
same_token line other rest after None None h k is = (
  refl,
  append_cancel_left (codes "token -\n") rest after
      (sym (ap (λ (l : List ℕ). l ++ rest) h) ∙ (is ∙ ap (λ (l : List ℕ). l ++ after) k)),
)
same_token line other rest after (Some a) (Some b) h k is =
    let same = same_worded (codes "token ") line other h.0 k.0 rest after a b h.1 k.1 h.2 k.2 is in
    (ap Some same.0, same.1)
same_token line other rest after None (Some b) h k is = absurd (no_key line other rest after b h k is)
same_token line other rest after (Some a) None h k is = absurd (no_key other line after rest a k h (sym is))

-- the lines that were taken, until there were none or as many as there may be, are the lines of the text
same_lines : {X : Type 0} (IsOne : List ℕ → X → Type 0) → IsUnique IsOne → (n : ℕ) (xs ys : List X)
    → (front back rest after : List ℕ) → AreLines IsOne front xs → AreLines IsOne back ys
    → front ++ rest ≡ back ++ after → (length xs < n → HasNoLine IsOne rest) → length ys ≤ n → HasNoLine IsOne after
    → (xs ≡ ys) × (rest ≡ after)
same_lines IsOne unique n [] [] front back rest after h k is all few none =
    (refl, sym (ap (λ (l : List ℕ). l ++ rest) h) ∙ (is ∙ ap (λ (l : List ℕ). l ++ after) k))
same_lines IsOne unique n (x ∷ xs) [] front back rest after h k is all few none =
    absurd (none x (h.1 ++ rest) (
      h.0,
      h.3,
      sym (ap (λ (l : List ℕ). l ++ after) k) ∙ (sym is ∙ worded h.0 (front ++ rest) front h.1 rest refl h.2),
    ))
same_lines IsOne unique n [] (y ∷ ys) front back rest after h k is all few none =
    absurd (all (omega arith) y (k.1 ++ after) (
      k.0,
      k.3,
      sym (ap (λ (l : List ℕ). l ++ rest) h) ∙ worded k.0 (front ++ rest) back k.1 after is k.2,
    ))
same_lines IsOne unique n (x ∷ xs) (y ∷ ys) front back rest after h k is all few none =
    let one = unique h.0 k.0 (h.1 ++ rest) (k.1 ++ after) x y h.3 k.3
    (sym (worded h.0 (front ++ rest) front h.1 rest refl h.2) ∙ worded k.0 (front ++ rest) back k.1 after is k.2) in
    let more = same_lines IsOne unique (n - 1) xs ys h.1 k.1 rest after h.4 k.4 one.1
    (λ short. all (omega arith)) (omega arith) none in
    ((cc (one.0, more.0)), more.1)

-- the line of a seed, as what was read behind its word
pub seed_read : (text digits : List ℕ) (read : Option (List ℕ × Bor (List ℕ))) → text ≡ codes "seed " ++ digits
    → MatchOption read (HasNoLine IsLine digits) (λ r. StartsWith IsLine digits r.0 r.1.now)
    → MatchOption read (HasNoLine IsSeedLine text) (λ r. StartsWith IsSeedLine text r.0 r.1.now)
seed_read text digits None is h = no_seed_digits text digits is h
seed_read text digits (Some r) is h = some_seed text digits r.0 r.1.now is h

-- behind the first of two lines stands the second
pub second_line : (text rest token : List ℕ) (ring : Ring) (seeds : List (List ℕ)) → StartsWith IsLine text token rest
    → IsShortText text ring seeds → (seed : List ℕ) × IsLine rest seed
second_line text rest token ring seeds taken h =
    let same = same_line taken.0 h.2 rest h.3 token h.0 taken.1 h.5 (sym taken.2 ∙ h.4) in (h.1, rw same.1 h.6)

pub one_line : (text seed : List ℕ) → IsLine text seed → StartsWith IsLine text seed []
one_line text seed h = (text, h, sym (append-nil text))

-- there is room for 16 lines: where fewer were taken there is room for more
more_room : {X : Type 0} (n : ℕ) (places : List X) → n ≤ length places → length places ≡ 16
    → length (take n places) < 16 → n < length places
more_room n places room size few = omega (arith, length-take n places)

-- the entries that were read are the ring, and the lines of the seeds stand behind them
pub ring_read : (text rest : List ℕ) (n : ℕ) (places ring : Ring) (seeds : List (List ℕ)) → n ≤ length places
    → length places ≡ 16 → StartsWithLines IsTokenLine text (take n places) rest
    → (n < length places → HasNoLine IsTokenLine rest) → IsLongText text ring seeds
    → (take n places ≡ ring) × AreLines IsSeedLine rest seeds
ring_read text rest n places ring seeds room size taken all h =
    let same = same_lines IsTokenLine same_token 16 (take n places) ring taken.0 h.0 rest h.1 taken.1 h.3
    (sym taken.2 ∙ h.2) (λ few. all (more_room n places room size few)) h.5.most
    (seeds_have_no_token h.1 seeds h.4) in
    (same.0, rw same.1 h.4)

-- the seeds that were read are those of the text, with nothing behind them
pub seeds_read : (text rest : List ℕ) (n : ℕ) (places seeds : List (List ℕ)) → n ≤ length places
    → length places ≡ 16 → StartsWithLines IsSeedLine text (take n places) rest
    → (n < length places → HasNoLine IsSeedLine rest) → AreLines IsSeedLine text seeds → AreSeeds seeds
    → (take n places ≡ seeds) × (rest ≡ [])
seeds_read text rest n places seeds room size taken all lines are =
    same_lines IsSeedLine same_seed 16 (take n places) seeds taken.0 text rest [] taken.1 lines
    (sym taken.2 ∙ sym (append-nil text)) (λ few. all (more_room n places room size few)) are.few end_has_no_seed

-- a text of neither form is of no form
no_form : (text : List ℕ) (ring : Ring) (seeds : List (List ℕ)) → (IsShortText text ring seeds → ⊥)
    → (IsLongText text ring seeds → ⊥) → IsKeysText text ring seeds → ⊥
no_form text ring seeds short long (inl h) = short h
no_form text ring seeds short long (inr h) = long h

-- what a text that isn't of the short form says in the long one
pub only_long : (text : List ℕ) (read : Option (Ring × List (List ℕ)))
    → ((ring : Ring) (seeds : List (List ℕ)) → IsShortText text ring seeds → ⊥)
    → MatchOption read ((ring : Ring) (seeds : List (List ℕ)) → IsLongText text ring seeds → ⊥)
    (λ r. IsLongText text r.0 r.1)
    → MatchOption read ((ring : Ring) (seeds : List (List ℕ)) → IsKeysText text ring seeds → ⊥)
    (λ r. IsKeysText text r.0 r.1)
only_long text None short long =
    λ ring seeds. no_form text ring seeds (short ring seeds) (long ring seeds)
only_long text (Some r) short long = inr long
