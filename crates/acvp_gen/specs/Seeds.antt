-- The seeds of a server. A seed's place in their list, from 0, is its epoch.
use Rattle.std.specs.Prelude.{ℕ, ◌≤◌, List, length}

-- there are from 1 to 16 of them
pub record AreSeeds (seeds : List (List ℕ)) : Type 0 where
  pub some : 1 ≤ length seeds
  pub few : length seeds ≤ 16
