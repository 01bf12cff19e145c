-- The Monte Carlo test of a hash function, on whole lists (NIST, The Secure Hash Algorithm Validation System, section
-- 6.4).
use Rattle.std.specs.Prelude.{◌≡◌, ℕ, zero, suc, ◌+◌, ◌-◌, ◌<◌, List, [], ◌∷◌, ◌++◌, length, take, drop}
use Rattle.std.specs.Fn.{iterate}
use Rattle.std.specs.List.{concat, slice_index_or}

-- the hash of the last three members, joined
abbrev pub next_of : (List ℕ → List ℕ) → List (List ℕ) → List ℕ
next_of hash members = hash (concat (drop (length members - 3) members))

-- the members, and the next one after them
abbrev pub extended : (List ℕ → List ℕ) → List (List ℕ) → List (List ℕ)
extended hash members = members ++ next_of hash members ∷ []

-- the seed three times, and so many further members
unfoldable pub members_of : (List ℕ → List ℕ) → List ℕ → ℕ → List (List ℕ)
members_of hash seed further = iterate (extended hash) further (seed ∷ seed ∷ seed ∷ [])

-- the last member
abbrev pub last_of : List (List ℕ) → List ℕ
last_of members = slice_index_or members (length members - 1) []

-- the last of the 1003 members that a seed begins
unfoldable pub next_checkpoint : (List ℕ → List ℕ) → List ℕ → List ℕ
next_checkpoint hash seed = last_of (members_of hash seed 1000)

-- so many checkpoints: the one after the seed, and then that after each one before
unfoldable pub checkpoints : (List ℕ → List ℕ) → List ℕ → ℕ → List (List ℕ)
checkpoints hash seed zero = []
checkpoints hash seed (suc n) = next_checkpoint hash seed ∷ checkpoints hash (next_checkpoint hash seed) n

-- the member at a place, from 0 on
abbrev pub member_at : List (List ℕ) → ℕ → List ℕ
member_at members i = slice_index_or members i []

-- the members as the standard has them: the first three are the seed, and each later one is the hash of the three
-- before it, joined
pub record AreMembers (hash : List ℕ → List ℕ) (seed : List ℕ) (members : List (List ℕ)) : Type 0 where
  pub count : length members ≡ 1003
  pub seeds : take 3 members ≡ seed ∷ seed ∷ seed ∷ []
  pub later : (i : ℕ) → i + 3 < 1003 →
      member_at members (i + 3) ≡ hash (member_at members i ++ member_at members (i + 1) ++ member_at members (i + 2))
