-- A row of a query's answer that stands for nothing.
use Rattle.std.specs.Prelude.{◌≡◌, ℕ, ℤ, List, slice_get, Some}
use Rattle.sqlite_value.specs.declared.value.Value.TheVariants.{Int}
use Rattle.sqlite_value.specs.Order.{Row, column}
use Rattle.acvp_store.specs.Private.Shown.{IsOfNone}

-- the row has this number in the column, and is that of no member that fits the program's types
abbrev pub IsStray : {T : Type 0} → (T → Type 0) → (T → Row) → ℕ → ℤ → Row → Type 0
IsStray fits shown at number row = (column row at ≡ Int number) × IsOfNone fits shown row

-- one of the rows is so
abbrev pub HasStray : {T : Type 0} → (T → Type 0) → (T → Row) → ℕ → ℤ → List Row → Type 0
HasStray fits shown at number rows =
    (place : ℕ) × (row : Row) × (slice_get rows place ≡ Some row) × IsStray fits shown at number row
