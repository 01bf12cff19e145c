-- The generator as private clauses see it.
use Rattle.std.specs.Prelude.{ℕ, ◌+◌, List}

-- the seed, the number of the vector set, and the place of the next word
pub record GeneratorValue : Type 0 where
  pub seed : List ℕ
  pub vs : ℕ
  pub place : ℕ

-- the generator so many words further
abbrev pub moved : GeneratorValue → ℕ → GeneratorValue
moved g words = record g { place = g.place + words }
