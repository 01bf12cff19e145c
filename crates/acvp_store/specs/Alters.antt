-- What a statement does to one table of the store.
use Rattle.std.specs.Prelude.{◌≡◌, ◌≢◌, ℕ, List}
use Rattle.std.specs.List.{AllByRecursion}
use Rattle.sqlite.specs.Effect.{Database}
use Rattle.sqlite_value.specs.Order.{Row}
use Rattle.sqlite_trees.specs.Tree.{Trees}
use Rattle.acvp_store.specs.Schema.{Layout, schema_of}

-- each table but that in the tree has the rows that it had
abbrev pub SparesOthers : Layout → ℕ → Trees → Trees → Type 0
SparesOthers layout tree old new =
    AllByRecursion (λ t. t.tree ≢ tree → new t.tree ≡ old t.tree) (schema_of layout).tables

-- of whatever list the tree's rows are, they become those of what the change makes of it; the schema and the other
-- tables stay
pub record Alters {A : Type 0} (layout : Layout) (tree : ℕ) (Holds : List Row → List A → Type 0)
    (change : List A → List A) (old new : Database) : Type 0 where
  pub schema : new.schema ≡ schema_of layout
  pub kept : (list : List A) → Holds (old.trees tree) list → Holds (new.trees tree) (change list)
  pub others : SparesOthers layout tree old.trees new.trees
