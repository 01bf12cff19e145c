-- Texts that are queries.
use Rattle.std.specs.Prelude.{◌≡◌, ℕ, Bool, true, false, List, Ok, Err}
use Rattle.sqlite_ast.specs.declared.Statement.{Statement}
use Rattle.sqlite_ast.specs.declared.Statement.TheVariants.{Select}
use Rattle.sqlite_resolve.specs.Compile.{first}
use Rattle.sqlite_resolve.specs.Lowering.{Checked}
use Rattle.sqlite_syntax.specs.declared.statement.Parsed.{Parsed}

-- a statement that changes no row
abbrev pub asks_by : Statement → Bool
asks_by (Select s) = true
asks_by _ = false

-- a text whose first statement reads so
abbrev pub asks : Checked Parsed → Bool
asks (Ok p) = asks_by p.statement
asks (Err e) = false

-- the text is a SELECT
abbrev pub IsQuery : List ℕ → Type 0
IsQuery text = asks (first text) ≡ true
