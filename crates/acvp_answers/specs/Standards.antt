-- The texts with which the standard answers a test: bytes as hex digits in lower case.
use Rattle.std.specs.Prelude.{ℕ, ◌/◌, List, [], ◌∷◌, map, take}
use Rattle.std.specs.List.{flat_map}
use Rattle.hex.specs.Hex.{encode_lower}
use Rattle.acvp_mac.specs.declared.HashName.{HashName}
use Rattle.acvp_mac.specs.Hash.{digest_of}
use Rattle.acvp_mac.specs.Hmac.{hmac_of}
use Rattle.acvp_gen.specs.Algorithms.{hash_of}
use Rattle.acvp_gen.specs.declared.group.GroupForm.{GroupForm}
use Rattle.acvp_gen.specs.declared.group.GroupForm.TheVariants.{Digest, MonteCarlo, Mac}
use Rattle.acvp_gen.specs.Prompt.{TestValue, GroupValue, PromptsValue}
use Rattle.acvp_answers.specs.Answer.{Answer}
use Rattle.acvp_answers.specs.MonteCarlo.{checkpoints}

-- of a functional test of a hash function: the digest of the message (FIPS 180-4)
abbrev pub digest_texts : HashName → List ℕ → List (List ℕ)
digest_texts name message = encode_lower (digest_of name message) ∷ []

-- of a test of HMAC: so many of the leftmost bytes of the HMAC of the message (FIPS 198-1)
abbrev pub mac_texts : HashName → List ℕ → List ℕ → ℕ → List (List ℕ)
mac_texts name key message bytes = encode_lower (take bytes (hmac_of name key message)) ∷ []

-- so many checkpoints of a hash function
abbrev pub checkpoint_texts : HashName → List ℕ → ℕ → List (List ℕ)
checkpoint_texts name seed count = map encode_lower (checkpoints (digest_of name) seed count)

-- of a Monte Carlo test: a hundred checkpoints
unfoldable pub monte_carlo_texts : HashName → List ℕ → List (List ℕ)
monte_carlo_texts name seed = checkpoint_texts name seed 100

-- of a test of a group, by the group's form
abbrev pub texts_on : HashName → GroupForm → TestValue → List (List ℕ)
texts_on name Digest test = digest_texts name test.message
texts_on name MonteCarlo test = monte_carlo_texts name test.message
texts_on name (Mac sizes) test = mac_texts name test.key test.message (sizes.mac_bits / 8)

-- the standard's answers to the tests of a group
abbrev pub group_answers : HashName → GroupValue → List Answer
group_answers name group = map (λ t. (t.number, texts_on name group.form t)) group.tests

-- the standard's answers to the tests of a vector set, in their order
abbrev pub standard_of : PromptsValue → List Answer
standard_of prompts = flat_map (group_answers (hash_of prompts.algorithm)) prompts.groups
