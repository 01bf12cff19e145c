-- Numbers put in order one after the other.
use Rattle.std.specs.Prelude.{ℕ, List, [], ◌∷◌, nat_le, if◌then◌else◌}

-- the number at its place in an ascending list
abbrev pub with_number : ℕ → List ℕ → List ℕ
with_number n [] = n ∷ []
with_number n (m ∷ rest) = if nat_le n m then n ∷ m ∷ rest else m ∷ with_number n rest

-- the numbers put one after the other at their places in an ascending list
abbrev pub ascending : List ℕ → List ℕ → List ℕ
ascending placed [] = placed
ascending placed (n ∷ rest) = ascending (with_number n placed) rest
