-- Lemmas on a text in lines that fit.
use Rattle.std.proofs.Common.{◌≡◌, ℕ, suc, ◌+◌, ◌≤◌, ◌<◌, List, [], ◌∷◌, ◌++◌, Bool, true, false, refl, sym, ap, ◌∙◌, length}
use Rattle.std.proofs.Common.{get_or, arith}
use Rattle.std.specs.Prelude.{◌==◌, ◌&&◌, codes, encode_utf8, nat_le, nat_lt, not}
use Rattle.std.specs.List.{onto_first, slice_split}
use Rattle.std.specs.Str.{chars}
use Rattle.std.proofs.lemmas.Bool.Decides.{nat_tests}
use Rattle.std.proofs.lemmas.List.{append-nil, append_assoc}
use Rattle.std.proofs.lemmas.Str.{byte_from_char, inside_one, len_utf8_bounds, length-encode}
use Rattle.acvp_view.specs.Folded.{are_narrow, column_behind, fits, folded, folded_from, placed}

-- how many bytes the last line has behind characters
abbrev pub columns : ℕ → List ℕ → ℕ
columns column [] = column
columns column (c ∷ cs) = columns (column_behind column c) cs

-- with one character more
pub columns_more : (column : ℕ) (cs : List ℕ) (c : ℕ)
    → columns column (cs ++ (c ∷ [])) ≡ column_behind (columns column cs) c
columns_more column [] c = refl
columns_more column (d ∷ ds) c = columns_more (column_behind column d) ds c

pub folded_more : (column : ℕ) (cs : List ℕ) (c : ℕ)
    → folded_from column (cs ++ (c ∷ [])) ≡ folded_from column cs ++ placed (columns column cs) c
folded_more column [] c = append-nil (placed column c)
folded_more column (d ∷ ds) c =
    ap (λ rest. placed column d ++ rest) (folded_more (column_behind column d) ds c)
    ∙ sym (append_assoc (placed column d) (folded_from (column_behind column d) ds)
    (placed (columns (column_behind column d) ds) c))

-- ---- each line has at most 80 bytes

-- the first behind so many bytes of its line, and the others
abbrev are_narrow_from : ℕ → List (List ℕ) → Bool
are_narrow_from column [] = nat_le column 80
are_narrow_from column (line ∷ lines) = nat_le (column + length line) 80 && are_narrow lines

abbrev split : List ℕ → List (List ℕ)
split = slice_split (λ b. b == 10)

-- bytes that end no line
abbrev are_of_a_line : List ℕ → Bool
are_of_a_line [] = true
are_of_a_line (b ∷ bs) = not (b == 10) && are_of_a_line bs

one_more : (column b : ℕ) (lines : List (List ℕ))
    → are_narrow_from column (onto_first b lines) ≡ are_narrow_from (column + 1) lines
one_more column b [] = grind (arith, nat_tests)
one_more column b (line ∷ lines) =
    let same : column + length (b ∷ line) ≡ column + 1 + length line = omega arith in
    ap (λ n. nat_le n 80 && are_narrow lines) same

some_more : (column : ℕ) (bs rest : List ℕ) → are_of_a_line bs ≡ true
    → are_narrow_from column (split (bs ++ rest)) ≡ are_narrow_from (column + length bs) (split rest)
some_more column [] rest plain = let same : column + 0 ≡ column = omega arith in rw same refl
some_more column (b ∷ bs) rest plain =
    let first : (b == 10) ≡ false = grind (arith, plain) in
    let others : are_of_a_line bs ≡ true = grind (arith, plain) in
    let same : column + length (b ∷ bs) ≡ column + 1 + length bs = omega arith in
    rw (first, same) (one_more column b (split (bs ++ rest)) ∙ some_more (column + 1) bs rest others)

-- so are the bytes of any character but the end of a line
each_of_a_line : (bs : List ℕ) → ((k : ℕ) → k < length bs → (get_or bs k 0 == 10) ≡ false) → are_of_a_line bs ≡ true
each_of_a_line [] each = refl
each_of_a_line (b ∷ bs) each =
    let first : (b == 10) ≡ false = each 0 (omega arith) in
    let others = each_of_a_line bs (λ k few. each (suc k) (omega (arith, few))) in
    rw (first, others) refl

of_a_line : (c : ℕ) → (c == 10) ≡ false → are_of_a_line (encode_utf8 c) ≡ true
of_a_line c other = each_of_a_line (encode_utf8 c) (λ k few. by_test (get_or (encode_utf8 c) k 0) (λ same.
    inside_one c [] (encode_utf8 c) k (sym (append-nil (encode_utf8 c))) few (omega (arith, same)) ∙ same))
  where
    by_test : (b : ℕ) → (b ≡ 10 → c ≡ 10) → (b == 10) ≡ false
    by_test b same = grind (arith, nat_tests, other, same)

few_bytes : (c : ℕ) → length (encode_utf8 c) ≤ 4
few_bytes c = rw (length-encode c) (len_utf8_bounds c).1

from_start : (lines : List (List ℕ)) → are_narrow lines ≡ are_narrow_from 0 lines
from_start [] = refl
from_start (line ∷ lines) =
    let same : 0 + length line ≡ length line = omega arith in
    rw same refl

-- behind a line that has ended
next_line : (column : ℕ) (bs : List ℕ) → column ≤ 80 → are_narrow_from 0 (split bs) ≡ true
    → are_narrow_from column (split (10 ∷ bs)) ≡ true
next_line column bs few others =
    let line : nat_le (column + 0) 80 ≡ true = grind (arith, nat_tests, few) in
    rw (line, from_start (split bs)) others

-- the character that ends a line is one byte
newline_is : encode_utf8 10 ≡ 10 ∷ []
newline_is =
    one_byte (encode_utf8 10) (length-encode 10)
    (byte_from_char (encode_utf8 10) [] 10 (sym (append-nil (encode_utf8 10))) (omega arith))
  where
    one_byte : (bs : List ℕ) → length bs ≡ 1 → get_or bs 0 0 ≡ 10 → bs ≡ 10 ∷ []
    one_byte [] long is = absurd (omega (arith, long))
    one_byte (b ∷ []) long is = rw is refl
    one_byte (b ∷ d ∷ ds) long is = absurd (omega (arith, long))

abbrev spaces : List ℕ
spaces = codes "        "

-- a character and what stands behind it
char_fits : (column c : ℕ) (behind : ℕ → List ℕ) → column ≤ 80
    → ((k : ℕ) → k ≤ 80 → are_narrow_from k (split (behind k)) ≡ true)
    → are_narrow_from column (split (placed column c ++ behind (column_behind column c))) ≡ true
char_fits column c behind few each = by_newline (c == 10) refl
  where
    by_room : (full : Bool) → (c == 10) ≡ false → nat_lt 80 (column + length (encode_utf8 c)) ≡ full
        → are_narrow_from column (split (placed column c ++ behind (column_behind column c))) ≡ true
    by_room true other is =
        let k = 8 + length (encode_utf8 c) in
        rw (other, is) (next_line column (spaces ++ encode_utf8 c ++ behind k) few
        (some_more 0 spaces (encode_utf8 c ++ behind k) refl ∙ some_more 8 (encode_utf8 c) (behind k) (of_a_line c other)
        ∙ each k (omega (arith, few_bytes c))))
    by_room false other is =
        let k = column + length (encode_utf8 c) in
        let room : k ≤ 80 = grind (arith, nat_tests, is) in
        rw (other, is) (some_more column (encode_utf8 c) (behind k) (of_a_line c other) ∙ each k room)

    by_newline : (ends : Bool) → (c == 10) ≡ ends
        → are_narrow_from column (split (placed column c ++ behind (column_behind column c))) ≡ true
    by_newline true is =
        let same : c ≡ 10 = grind (arith, nat_tests, is) in
        rw (same, newline_is) (next_line column (behind 0) few (each 0 (omega arith)))
    by_newline false is = by_room (nat_lt 80 (column + length (encode_utf8 c))) is refl

-- so the characters of a text
all_fit : (cs : List ℕ) (column : ℕ) → column ≤ 80 → are_narrow_from column (split (folded_from column cs)) ≡ true
all_fit [] column few = grind (arith, nat_tests, few)
all_fit (c ∷ cs) column few = char_fits column c (λ k. folded_from k cs) few (all_fit cs)

pub folded_fits : (text : List ℕ) → fits (folded text) ≡ true
unfolding folded
folded_fits text = from_start (split (folded_from 0 (chars text))) ∙ all_fit (chars text) 0 (omega arith)
