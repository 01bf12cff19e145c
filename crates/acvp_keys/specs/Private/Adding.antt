-- Lines that are added to a text.
use Rattle.std.specs.Prelude.{◌≡◌, List, ℕ, ◌++◌}
use Rattle.acvp_keys.specs.KeysFile.{AreLines}

-- a line that says this was added at the end
abbrev pub HasLineMore : {X : Type 0} → (List ℕ → X → Type 0) → List ℕ → X → List ℕ → Type 0
HasLineMore IsOne old x new = (line : List ℕ) × IsOne line x × (new ≡ old ++ line)

-- lines that say these were added there
abbrev pub HasLinesMore : {X : Type 0} → (List ℕ → X → Type 0) → List ℕ → List X → List ℕ → Type 0
HasLinesMore IsOne old xs new = (lines : List ℕ) × AreLines IsOne lines xs × (new ≡ old ++ lines)
