-- Lemmas on a generator that is moved along its stream.
use Rattle.std.proofs.Common.{◌≡◌, ℕ, zero, suc, ◌+◌, ◌%◌, ◌^◌, ◌<◌, ◌≤◌, List, [], ◌++◌, take, ◌∷◌, sym, ◌∙◌, ap, refl}
use Rattle.std.proofs.Common.{arith}
use Rattle.std.specs.Int.{to_le_bytes, w32}
use Rattle.std.specs.List.{flat_map, range_with_len}
use Rattle.std.proofs.lemmas.List.{append-nil}
use Rattle.std.proofs.lemmas.List.Concat.{flat_map-append}
use Rattle.rand_core.specs.Steps.{word_bytes, first_bytes, fill_via_u32}
use Rattle.rand_core.proofs.StepsLemmas.{word_bytes_more}
use Rattle.rand_chacha.specs.ChaCha.{ChaCha, word_at, next_word, key_of}
use Rattle.acvp_gen.specs.Words.{word_of, words_in, bytes_of}
use Rattle.acvp_gen.specs.Private.Generator.{GeneratorValue, moved}

-- the word at which a generator stands that was moved from the start of its stream
pub word_after : (start now : GeneratorValue) (words : ℕ) → now ≡ moved start words → start.place ≡ 0
    → word_of now.seed now.vs now.place ≡ word_of start.seed start.vs words
word_after start now words is zeroth =
    let place : start.place + words ≡ words = omega (arith, zeroth) in
    ap (λ (g : GeneratorValue). word_of g.seed g.vs g.place) is ∙ ap (λ p. word_of start.seed start.vs p) place

pub moved_further : (start now next : GeneratorValue) (words more : ℕ) → now ≡ moved start words
    → next ≡ moved now more → next ≡ moved start (words + more)
moved_further start now next words more is then =
    let place : start.place + words + more ≡ start.place + (words + more) = omega arith in
    then ∙ ap (λ (g : GeneratorValue). moved g more) is
    ∙ ap (λ (p : ℕ). let g : GeneratorValue = record start { place = p } in g) place

-- ranges that meet
pub two_ranges : (a m n : ℕ) → range_with_len a m ++ range_with_len (a + m) n ≡ range_with_len a (m + n)
two_ranges a zero n =
    let e : a + zero ≡ a = omega arith in
    let f : zero + n ≡ n = omega arith in
    rw (e, f) refl
two_ranges a (suc m) n =
    let e : a + suc m ≡ a + 1 + m = omega arith in
    let f : suc m + n ≡ suc (m + n) = omega arith in
    rw (e, f) (ap (λ ns. a ∷ ns) (two_ranges (a + 1) m n))

-- the bytes of a generator's word at a place
abbrev bytes_at : ChaCha → ℕ → List ℕ
bytes_at g place = to_le_bytes w32 (word_at 10 g.key g.stream place)

-- the generator so many words further
abbrev further : ChaCha → ℕ → ChaCha
further g words = record g { word_pos = g.word_pos + words }

one_step : (g : ChaCha) (words : ℕ) → g.word_pos + (words + 1) < 2 ^ 68
    → (word_at 10 g.key g.stream (g.word_pos + words), further g (words + 1)) ≡ next_word 10 (further g words)
one_step g words within =
    let place : g.word_pos + (words + 1) ≡ (g.word_pos + words + 1) % 2 ^ 68 = omega arith in
    ap (λ (p : ℕ). let h : ChaCha = record g { word_pos = p } in
    (word_at 10 g.key g.stream (g.word_pos + words), h)) place

-- what so many words write, and the generator behind them
abbrev written : ChaCha → ℕ → List ℕ × ChaCha
written g words = (flat_map (bytes_at g) (range_with_len g.word_pos words), further g words)

one_word_more : (g : ChaCha) (words : ℕ) → flat_map (bytes_at g) (range_with_len g.word_pos (words + 1))
    ≡ flat_map (bytes_at g) (range_with_len g.word_pos words) ++ bytes_at g (g.word_pos + words)
one_word_more g words =
    ap (flat_map (bytes_at g)) (sym (two_ranges g.word_pos words 1))
    ∙ flat_map-append (bytes_at g) (range_with_len g.word_pos words) (range_with_len (g.word_pos + words) 1)
    ∙ ap (λ bytes. flat_map (bytes_at g) (range_with_len g.word_pos words) ++ bytes)
    (append-nil (bytes_at g (g.word_pos + words)))

writes : (g : ChaCha) (words : ℕ) → g.word_pos + words < 2 ^ 68
    → written g words ≡ word_bytes (to_le_bytes w32) (next_word 10) words g
unfolding word_bytes
writes g zero within =
    let place : g.word_pos + zero ≡ g.word_pos = omega arith in
    ap (λ (p : ℕ). let h : ChaCha = record g { word_pos = p } in let none : List ℕ = [] in (none, h)) place
writes g (suc words) within =
    let count : suc words ≡ words + 1 = omega arith in
    let more = word_bytes_more (to_le_bytes w32) (next_word 10) words g (further g words) (further g (words + 1))
    (flat_map (bytes_at g) (range_with_len g.word_pos words)) (word_at 10 g.key g.stream (g.word_pos + words))
    (writes g words (omega arith)) (one_step g words (omega arith)) in
    ap (written g) count
    ∙ ap (λ (bytes : List ℕ). let h : ChaCha = further g (words + 1) in (bytes, h)) (one_word_more g words)
    ∙ more
    ∙ ap (λ n. word_bytes (to_le_bytes w32) (next_word 10) n g) (sym count)

-- a value that a generator fills in, and where it stands behind it
pub filled : (seed : List ℕ) (g h : ChaCha) (size : ℕ) (bytes : List ℕ) → g.key ≡ key_of seed → g.word_pos < 2 ^ 32
    → size ≤ 65536 → (bytes, h) ≡ fill_via_u32 (next_word 10) size g
    → (bytes ≡ bytes_of seed g.stream g.word_pos size) × (h ≡ further g (words_in size))
filled seed g h size bytes key below most is =
    let all : (bytes, h) ≡ first_bytes size (written g (words_in size)) =
    is ∙ ap (first_bytes size) (sym (writes g (words_in size) (omega arith))) in (
      ap (λ (p : List ℕ × ChaCha). p.0) all
          ∙ ap (λ k. take size (flat_map (λ place. to_le_bytes w32 (word_at 10 k g.stream place))
          (range_with_len g.word_pos (words_in size)))) key,
      ap (λ (p : List ℕ × ChaCha). p.1) all,
    )
