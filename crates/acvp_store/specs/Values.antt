-- How fields are kept in columns.
use Rattle.std.specs.Prelude.{ℕ, pos, Bool, if◌then◌else◌}
use Rattle.sqlite_value.specs.declared.value.Value.{Value}
use Rattle.sqlite_value.specs.declared.value.Value.TheVariants.{Int}

abbrev pub whole : ℕ → Value
whole n = Int (pos n)

-- a truth value is 0 or 1
abbrev pub flag : Bool → Value
flag b = if b then whole 1 else whole 0
