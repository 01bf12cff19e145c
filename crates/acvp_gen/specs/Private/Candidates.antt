-- The ends and edges of a domain before they are put in order.
use Rattle.std.specs.Prelude.{ℕ, List, ◌++◌, filter}
use Rattle.acvp_gen.specs.Choice.{ends, has}

-- the least, the greatest, and the edges that are members
abbrev pub candidates : List ℕ → List ℕ → List ℕ
candidates edges members = ends members ++ filter (has members) edges
