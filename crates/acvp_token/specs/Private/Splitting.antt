-- A text and the dots in it, for the private clauses of the code that takes a token apart.
use Rattle.std.specs.Prelude.{◌≡◌, ◌≢◌, ℕ, List, ◌++◌, codes, All}

-- no byte of the text is a dot
abbrev pub HasNoDot : List ℕ → Type 0
HasNoDot text = All (λ b. b ≢ 46) text

-- the text is three parts with dots between them, and no dot is in the first two
pub record IsSplit (text first second third : List ℕ) : Type 0 where
  pub whole : text ≡ first ++ codes "." ++ second ++ codes "." ++ third
  pub first_dotless : HasNoDot first
  pub second_dotless : HasNoDot second

-- no three parts with dots between them make the text
abbrev pub IsUnsplit : List ℕ → Type 0
IsUnsplit text = (first second third : List ℕ) → text ≢ first ++ codes "." ++ second ++ codes "." ++ third
