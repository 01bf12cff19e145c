-- Lines that are taken from the front of a text.
use Rattle.std.specs.Prelude.{◌≡◌, List, ℕ, ◌++◌}
use Rattle.acvp_keys.specs.KeysFile.{AreLines}

-- a line that says this stands at the front, with the rest behind it
abbrev pub StartsWith : {X : Type 0} → (List ℕ → X → Type 0) → List ℕ → X → List ℕ → Type 0
StartsWith IsOne text x rest = (line : List ℕ) × IsOne line x × (text ≡ line ++ rest)

-- no such line stands at the front
abbrev pub HasNoLine : {X : Type 0} → (List ℕ → X → Type 0) → List ℕ → Type 0
HasNoLine {X} IsOne text = (x : X) (rest : List ℕ) → StartsWith IsOne text x rest → ⊥

-- lines that say these stand at the front, with the rest behind them
abbrev pub StartsWithLines : {X : Type 0} → (List ℕ → X → Type 0) → List ℕ → List X → List ℕ → Type 0
StartsWithLines IsOne text xs rest = (front : List ℕ) × AreLines IsOne front xs × (text ≡ front ++ rest)
