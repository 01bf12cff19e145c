-- The words of the generator: those of the ChaCha20 stream of a seed and a vector set's number.
use Rattle.std.specs.Prelude.{ℕ, ◌+◌, ◌/◌, List, take}
use Rattle.std.specs.Int.{to_le_bytes, w32}
use Rattle.std.specs.List.{flat_map, range_with_len}
use Rattle.rand_chacha.specs.ChaCha.{word_at, key_of}

-- the word at a place of the stream: the block function of RFC 8439, section 2.3, under the seed as the key, with a
-- block counter and a stream number of 64 bits each
abbrev pub word_of : List ℕ → ℕ → ℕ → ℕ
word_of seed vs place = word_at 10 (key_of seed) vs place

-- its four bytes, least significant first
abbrev pub word_bytes_of : List ℕ → ℕ → ℕ → List ℕ
word_bytes_of seed vs place = to_le_bytes w32 (word_of seed vs place)

-- the words that a value of so many bytes takes: whole ones, and none for an empty value
abbrev pub words_in : ℕ → ℕ
words_in size = (size + 3) / 4

-- the value of so many bytes that begins at a place: the first bytes of the words from there on
abbrev pub bytes_of : List ℕ → ℕ → ℕ → ℕ → List ℕ
bytes_of seed vs place size = take size (flat_map (word_bytes_of seed vs) (range_with_len place (words_in size)))
