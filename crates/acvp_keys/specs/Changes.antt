-- What is changed in a keys file.
use Rattle.std.specs.Prelude.{◌⊎◌, ℕ, List, [], ◌∷◌, ◌++◌, None, Some}
use Rattle.acvp_token.specs.Keys.{IsKeyRing, Ring}
use Rattle.acvp_gen.specs.Seeds.{AreSeeds}
use Rattle.acvp_keys.specs.KeysFile.{IsKeysText, IsLongText}
use Rattle.acvp_keys.specs.declared.changing.Change.{Change}
use Rattle.acvp_keys.specs.declared.changing.Change.TheVariants.{AddToken, RetireToken, AddSeed}

-- the oldest key of those that aren't retired is
abbrev pub with_oldest_retired : Ring → Ring
with_oldest_retired [] = []
with_oldest_retired (None ∷ ring) = None ∷ with_oldest_retired ring
with_oldest_retired (Some key ∷ ring) = None ∷ ring

-- the entries behind a change: none ever goes, and a new one is the last
abbrev pub ring_behind : Change → Ring → Ring
ring_behind (AddToken key) ring = ring ++ Some key ∷ []
ring_behind RetireToken ring = with_oldest_retired ring
ring_behind (AddSeed seed) ring = ring

-- and the seeds
abbrev pub seeds_behind : Change → List (List ℕ) → List (List ℕ)
seeds_behind (AddSeed seed) seeds = seeds ++ seed ∷ []
seeds_behind _ seeds = seeds

-- these are no keys: there are too many of one kind, or none, or no key signs
abbrev pub AreNoKeys : Ring → List (List ℕ) → Type 0
AreNoKeys ring seeds = IsKeyRing ring → AreSeeds seeds → ⊥

-- the text is that of no keys file, or what it says would be no keys behind the change
abbrev pub CantBeChanged : Change → List ℕ → Type 0
CantBeChanged change text =
    ((ring : Ring) (seeds : List (List ℕ)) → IsKeysText text ring seeds → ⊥)
    ⊎ ((ring : Ring) × (seeds : List (List ℕ)) × IsKeysText text ring seeds
    × AreNoKeys (ring_behind change ring) (seeds_behind change seeds))

-- one text is that of a keys file, and the other says its ring and its seeds behind the change
abbrev pub IsChanged : Change → List ℕ → List ℕ → Type 0
IsChanged change old new =
    (ring : Ring) × (seeds : List (List ℕ)) × IsKeysText old ring seeds
    × IsLongText new (ring_behind change ring) (seeds_behind change seeds)
