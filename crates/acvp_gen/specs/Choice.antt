-- The choice of tests: which lengths are tested, and how they are put into groups.
use Rattle.std.specs.Prelude.{ℕ, ◌+◌, ◌-◌, ◌*◌, ◌%◌, ◌==◌, List, [], ◌∷◌, ◌++◌, length, map, filter, Bool}
use Rattle.std.specs.Prelude.{if◌then◌else◌, Option, None, Some}
use Rattle.std.specs.List.{list_any, filter_map, flat_map, slice_get, range_with_len}
use Rattle.acvp_caps.specs.declared.algorithm.Algorithm.{Algorithm}
use Rattle.acvp_caps.specs.declared.capability.Domains.{Domains}
use Rattle.acvp_caps.specs.declared.capability.Domains.TheVariants.{Message, KeyAndMac}
use Rattle.acvp_caps.specs.Capability.{block_bits, digest_bits}
use Rattle.acvp_gen.specs.declared.group.GroupForm.{GroupForm}
use Rattle.acvp_gen.specs.declared.group.GroupForm.TheVariants.{Digest, MonteCarlo, Mac}
use Rattle.acvp_gen.specs.declared.group.Sizes.{Sizes}
use Rattle.acvp_gen.specs.declared.shape.TestShape.{TestShape}
use Rattle.acvp_gen.specs.Words.{word_of}

-- what a group is to be: its form, for HMAC with its three sizes, and its tests by their sizes
pub record ShapeValue : Type 0 where
  pub form : GroupForm
  pub tests : List TestShape

-- ---- lengths

abbrev pub option_list : Option ℕ → List ℕ
option_list None = []
option_list (Some n) = n ∷ []

-- the least member and the greatest: members ascend, so they are the first and the last
abbrev pub ends : List ℕ → List ℕ
ends members = option_list (slice_get members 0) ++ option_list (slice_get members (length members - 1))

-- whether a number is in a list
abbrev pub has : List ℕ → ℕ → Bool
has numbers n = list_any (λ m. m == n) numbers

-- the members that are the least, the greatest or an edge, ascending as the members do
abbrev pub ends_and_edges : List ℕ → List ℕ → List ℕ
ends_and_edges edges members = filter (has (ends members ++ edges)) members

-- so many draws: each takes a word of the stream, and gives the member whose place is the word modulo the members'
-- number
abbrev pub drawn : List ℕ → ℕ → ℕ → List ℕ → List ℕ
drawn seed vs draws members = filter_map (λ place. slice_get members (word_of seed vs place % length members))
    (range_with_len 0 draws)

-- how many members are drawn: of a hash function's message lengths, and of HMAC's key lengths
abbrev pub message_draws : ℕ
message_draws = 16

abbrev pub key_draws : ℕ
key_draws = 2

-- the edges of messages, by the bits of a block: none and one byte, around where the padding (FIPS 180-4, section 5.1)
-- needs another block, around one block, and two
abbrev pub message_edges : ℕ → List ℕ
message_edges block = if block == 512
    then 0 ∷ 8 ∷ 440 ∷ 448 ∷ 504 ∷ 512 ∷ 520 ∷ 1024 ∷ []
    else 0 ∷ 8 ∷ 888 ∷ 896 ∷ 1016 ∷ 1024 ∷ 1032 ∷ 2048 ∷ []

-- the edges of keys, which are hashed first where they are longer than a block (FIPS 198-1, section 4)
abbrev pub key_edges : ℕ → List ℕ
key_edges block = (block - 8) ∷ block ∷ (block + 8) ∷ []

abbrev pub message_lengths : List ℕ → ℕ → Algorithm → List ℕ → List ℕ
message_lengths seed vs algorithm members = ends_and_edges (message_edges (block_bits algorithm)) members
    ++ drawn seed vs message_draws members

abbrev pub key_lengths : List ℕ → ℕ → Algorithm → List ℕ → List ℕ
key_lengths seed vs algorithm members = ends_and_edges (key_edges (block_bits algorithm)) members
    ++ drawn seed vs key_draws members

abbrev pub mac_lengths : List ℕ → List ℕ
mac_lengths members = ends_and_edges [] members

-- ---- groups

-- a test of a hash function, by the bits of its message
abbrev pub hash_test : ℕ → TestShape
hash_test bits = record { key_bits = 0; message_bits = bits }

abbrev pub hash_shape : GroupForm → List ℕ → ShapeValue
hash_shape form lengths = record { form = form; tests = map hash_test lengths }

-- one Monte Carlo test, of a seed as long as a digest, where three times the digest's bits is a member
abbrev pub monte_carlo_shapes : ℕ → List ℕ → List ShapeValue
monte_carlo_shapes digest members = if has members (3 * digest) then hash_shape MonteCarlo (digest ∷ []) ∷ [] else []

abbrev pub hash_shapes : List ℕ → ℕ → Algorithm → List ℕ → List ShapeValue
hash_shapes seed vs algorithm members = hash_shape Digest (message_lengths seed vs algorithm members)
    ∷ monte_carlo_shapes (digest_bits algorithm) members

-- the bits of an HMAC test's message
abbrev pub hmac_message : ℕ
hmac_message = 128

-- a test of HMAC, by the bits of its key
abbrev pub hmac_test : ℕ → TestShape
hmac_test key = record { key_bits = key; message_bits = hmac_message }

abbrev pub hmac_sizes : ℕ → ℕ → Sizes
hmac_sizes key mac = record { key_bits = key; message_bits = hmac_message; mac_bits = mac }

-- three tests of a pair of a key's length and a MAC's
abbrev pub hmac_shape : ℕ → ℕ → ShapeValue
hmac_shape key mac = record {
  form = Mac (hmac_sizes key mac);
  tests = hmac_test key
      ∷ hmac_test key ∷ hmac_test key ∷ [];
}

abbrev pub hmac_shapes : List ℕ → ℕ → Algorithm → List ℕ → List ℕ → List ShapeValue
hmac_shapes seed vs algorithm keys macs =
    flat_map (λ key. map (hmac_shape key) (mac_lengths macs)) (key_lengths seed vs algorithm keys)

abbrev pub shapes_on : List ℕ → ℕ → Algorithm → Domains → List ShapeValue
shapes_on seed vs algorithm (Message members) = hash_shapes seed vs algorithm members
shapes_on seed vs algorithm (KeyAndMac keys macs) = hmac_shapes seed vs algorithm keys macs

-- the draws come before all bytes of tests
abbrev pub draws_on : Domains → ℕ
draws_on (Message members) = message_draws
draws_on (KeyAndMac keys macs) = key_draws
