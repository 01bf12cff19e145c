-- What is handed on, a line at a time.
use Rattle.std.specs.Prelude.{◌≡◌, ℕ, List, [], ◌∷◌, ◌++◌, Option, Some, None, Result, OnOk}
use Rattle.acvp_tables.specs.Content.{Content}
use Rattle.acvp_tables.specs.Meaning.{Meaning}
use Rattle.acvp_tables.specs.State.{AreWellNumbered}

-- the line, where there is one
abbrev pub lines_of : Option (List ℕ) → List (List ℕ)
lines_of None = []
lines_of (Some line) = line ∷ []

module _ {L : Type 0} (takes : L → List ℕ → L → Type 0) where
  -- one line after another was handed on
  abbrev pub TakesAll : List (List ℕ) → L → L → Type 0
  TakesAll [] before after = after ≡ before
  TakesAll (line ∷ lines) before after = (between : L) × takes before line between × TakesAll lines between after

  -- these lines were handed on; after a fault so many of them, from the first on, and nothing else
  pub record HandsOn {X E : Type 0} (result : Result X E) (lines : List (List ℕ)) (before after : L) : Type 0 where
    pub told : List (List ℕ)
    pub untold : List (List ℕ)
    pub both : told ++ untold ≡ lines
    pub all : OnOk result (untold ≡ [])
    pub taken : TakesAll told before after

  -- so were the lines that are selected of each content that the tables stood for
  abbrev pub Tells : {T X E : Type 0} → Meaning T → Result X E → T → T → L → L → (Content → List (List ℕ)) → Type 0
  Tells meaning result old new before after selected = meaning.is_open new
      → (c : Content) → AreWellNumbered c → meaning.stands old c → HandsOn result (selected c) before after
