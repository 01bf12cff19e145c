-- Which version of the schema the table `meta` names, among whatever rows it has.
use Rattle.std.specs.Prelude.{◌≡◌, ℕ, [], ◌∷◌, Bool, true, ◌&&◌, codes}
use Rattle.std.specs.List.{list_any}
use Rattle.std.specs.Ordering.{is_eq}
use Rattle.sqlite_trees.specs.Tree.{Trees}
use Rattle.sqlite_value.specs.declared.value.Value.{Value}
use Rattle.sqlite_value.specs.declared.value.Value.TheVariants.{Text}
use Rattle.sqlite_value.specs.Order.{Row, column, value_cmp}
use Rattle.acvp_store.specs.Values.{whole}

-- the equality of SQL
abbrev pub is_equal : Value → Value → Bool
is_equal a b = is_eq (value_cmp a b)

-- the row 'schema'
abbrev pub is_schema_row : Row → Bool
is_schema_row row = is_equal (column row 1) (Text (codes "schema"))

-- the same row, at a version
abbrev pub is_version_row : ℕ → Row → Bool
is_version_row version row = is_schema_row row && is_equal (column row 2) (whole version)

abbrev pub HasVersion : ℕ → Trees → Type 0
HasVersion version trees = list_any (is_version_row version) (trees 0) ≡ true

-- the row as it is made
abbrev pub version_row : ℕ → Row
version_row version = whole 1 ∷ Text (codes "schema") ∷ whole version ∷ []
