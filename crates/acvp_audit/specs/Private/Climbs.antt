-- Numbers that are each greater than the one before.
use Rattle.std.specs.Prelude.{ℕ, ◌&&◌, List, [], ◌∷◌, map, Bool, true, Option, Some, None, nat_lt}
use Rattle.acvp_registry.specs.declared.kind.Kind.{Kind}
use Rattle.acvp_tables.specs.State.{objects_in}
use Rattle.acvp_tables.specs.declared.rows.ObjectRow.{ObjectRow}

-- a number is greater than the one before, where there is one
abbrev pub is_above : Option ℕ → ℕ → Bool
is_above None n = true
is_above (Some before) n = nat_lt before n

-- each number is greater than the one before
abbrev pub climbs : Option ℕ → List ℕ → Bool
climbs before [] = true
climbs before (n ∷ numbers) = is_above before n && climbs (Some n) numbers

-- the numbers of the objects of a kind do
abbrev pub kind_climbs : List ObjectRow → Kind → Bool
kind_climbs objects kind = climbs None (map (λ row. row.number) (objects_in kind objects))
