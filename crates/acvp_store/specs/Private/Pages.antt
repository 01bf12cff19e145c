-- What the rows of a query's answer are of.
use Rattle.std.specs.Prelude.{◌≡◌, ℕ, zero, suc, ◌+◌, List, [], ◌∷◌}
use Rattle.sqlite_value.specs.Order.{Row}
use Rattle.acvp_store.specs.Values.{whole}

-- where the row is what a query shows as one whose texts read, it is of that one
abbrev pub IsRowOf : {T : Type 0} → (T → Type 0) → (T → Row) → Row → T → Type 0
IsRowOf {T = T} reads shown row x = (y : T) → reads y → row ≡ shown y → x ≡ y

-- the greatest of so many numbers that come after one, as a query for it shows it
abbrev pub greatest : ℕ → ℕ → List Row
greatest before zero = []
greatest before (suc n) = (whole (before + suc n) ∷ []) ∷ []
