-- The end of a list of members, of which the code keeps no more, and the seed of the next checkpoint.
use Rattle.std.specs.Prelude.{◌≡◌, ℕ, List, [], ◌∷◌, ◌++◌, Option, None, Some}

-- these three are the last members
abbrev pub EndsIn : List (List ℕ) → List ℕ → List ℕ → List ℕ → Type 0
EndsIn members first second third = (front : List (List ℕ)) × (members ≡ front ++ first ∷ second ∷ third ∷ [])

-- the checkpoint before, or the seed where there is none yet
abbrev pub before_or : List ℕ → Option (List ℕ) → List ℕ
before_or seed None = seed
before_or seed (Some checkpoint) = checkpoint
