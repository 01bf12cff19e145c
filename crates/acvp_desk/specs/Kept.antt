-- What holds of the records at all times.
use Rattle.std.specs.Prelude.{◌≡◌, ℕ, List, All, Some, slice_get, IfSome}
use Rattle.acvp_gen.specs.Prompts.{prompts_of}
use Rattle.acvp_answers.specs.Standards.{standard_of}
use Rattle.acvp_answers.specs.Verdicts.{verdicts_of, disposition_of}
use Rattle.acvp_tables.specs.Content.{Content}
use Rattle.acvp_tables.specs.Counted.{IsCounted}
use Rattle.acvp_tables.specs.Graded.{GradedValue}
use Rattle.acvp_tables.specs.State.{AreWellNumbered}
use Rattle.acvp_tables.specs.declared.rows.SetRow.{SetRow}

-- The verdicts that are kept are those on the kept answers by the standard answers to the prompts under the seed, and
-- the disposition is theirs.
pub record IsRightly (seed : List ℕ) (row : SetRow) (graded : GradedValue) : Type 0 where
  pub verdicts : graded.verdicts ≡ verdicts_of (standard_of (prompts_of seed row.number row.capability)) graded.answers
  pub disposition : graded.disposition ≡ disposition_of graded.verdicts

-- the seed of a vector set's epoch is there, and what is kept of its answers is right under it
unfoldable pub IsGradedSet : List (List ℕ) → SetRow → Type 0
IsGradedSet seeds row =
    (seed : List ℕ) × (slice_get seeds row.epoch ≡ Some seed) × IfSome row.graded (IsRightly seed row)

-- each vector set's
abbrev pub IsGraded : List (List ℕ) → Content → Type 0
IsGraded seeds c = All (IsGradedSet seeds) c.sets

pub record IsKept (seeds : List (List ℕ)) (c : Content) : Type 0 where
  pub sound : AreWellNumbered c
  pub counted : IsCounted c
  pub graded : IsGraded seeds c
