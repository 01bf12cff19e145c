-- The elements of a JSON array.
use Rattle.std.specs.Prelude.{List, [], ◌∷◌, ◌++◌, Option, Some, option_map, option_and_then}
use Rattle.serde_json.specs.Data.{Data, Items, no_items, item}

-- what f reads of each item, where it reads all of them
abbrev pub each : {X : Type 0} → (Data → Option X) → Items → Option (List X)
each f no_items = Some []
each f (item d ds) = option_and_then (λ x. option_map (λ xs. x ∷ xs) (each f ds)) (f d)

-- lists joined in their order
abbrev pub joined : {X : Type 0} → List (List X) → List X
joined [] = []
joined (xs ∷ more) = xs ++ joined more
