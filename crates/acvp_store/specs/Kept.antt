-- How a table keeps a list.
use Rattle.std.specs.Prelude.{◌≡◌, ◌<◌, ◌^◌, ℕ, List, map}
use Rattle.std.specs.List.{AllByRecursion}
use Rattle.std.specs.List.Sorted.{IsPermutation}
use Rattle.sqlite_value.specs.Order.{Row}
use Rattle.sqlite_trees.specs.Tree.{IsAscending}

-- The rows of a tree are those of a list's members, in the order of the tree's key, a number that fits a column of 64
-- bits. The list may have any order.
pub record AreKept {A : Type 0} (key : A → ℕ) (stored : A → Row) (rows : List Row) (list : List A) : Type 0 where
  pub ordered : List A
  pub rows_are : rows ≡ map stored ordered
  pub rising : IsAscending (λ a b. key a < key b) ordered
  pub fits : AllByRecursion (λ a. key a < 2 ^ 63) ordered
  pub same : IsPermutation ordered list
