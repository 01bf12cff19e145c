-- The text of a keys file.
use Rattle.std.specs.Prelude.{◌≡◌, ◌⊎◌, ℕ, List, [], ◌∷◌, ◌++◌, length, codes, Option, None, Some, Ok}
use Rattle.hex.specs.Hex.{decode_of}
use Rattle.acvp_token.specs.Keys.{Ring, IsKeyRing}
use Rattle.acvp_gen.specs.Seeds.{AreSeeds}

-- 64 hex digits and a line feed, which give these 32 bytes
abbrev pub IsLine : List ℕ → List ℕ → Type 0
IsLine line bytes =
    (digits : List ℕ) × (length digits ≡ 64) × (decode_of digits ≡ Ok bytes) × (line ≡ digits ++ codes "\n")

-- the line of an entry of a ring: a token key, or that the one at its place is retired
abbrev pub IsTokenLine : List ℕ → Option (List ℕ) → Type 0
IsTokenLine line None = line ≡ codes "token -\n"
IsTokenLine line (Some key) = (rest : List ℕ) × IsLine rest key × (line ≡ codes "token " ++ rest)

abbrev pub IsSeedLine : List ℕ → List ℕ → Type 0
IsSeedLine line seed = (rest : List ℕ) × IsLine rest seed × (line ≡ codes "seed " ++ rest)

-- the text is a line for each of these, in their order
abbrev pub AreLines : {X : Type 0} → (List ℕ → X → Type 0) → List ℕ → List X → Type 0
AreLines IsOne text [] = text ≡ []
AreLines IsOne text (x ∷ xs) =
    (line : List ℕ) × (rest : List ℕ) × (text ≡ line ++ rest) × IsOne line x × AreLines IsOne rest xs

-- two lines without a word: the one token key, and then the one seed
abbrev pub IsShortText : List ℕ → Ring → List (List ℕ) → Type 0
IsShortText text ring seeds =
    (token : List ℕ) × (seed : List ℕ) × (first : List ℕ) × (second : List ℕ) × (text ≡ first ++ second)
    × IsLine first token × IsLine second seed × (ring ≡ Some token ∷ []) × (seeds ≡ seed ∷ [])

-- lines with a word: the entries of a ring, and then the seeds, the oldest of each first
abbrev pub IsLongText : List ℕ → Ring → List (List ℕ) → Type 0
IsLongText text ring seeds =
    (first : List ℕ) × (second : List ℕ) × (text ≡ first ++ second) × AreLines IsTokenLine first ring
    × AreLines IsSeedLine second seeds × IsKeyRing ring × AreSeeds seeds

-- the ring and the seeds that the text of a keys file says, in either form
abbrev pub IsKeysText : List ℕ → Ring → List (List ℕ) → Type 0
IsKeysText text ring seeds = IsShortText text ring seeds ⊎ IsLongText text ring seeds
