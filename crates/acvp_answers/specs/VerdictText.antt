-- Verdicts as they are kept: a text of one letter each.
use Rattle.std.specs.Prelude.{◌≢◌, ℕ, List, map}
use Rattle.acvp_answers.specs.declared.verdict.Verdict.{Verdict}
use Rattle.acvp_answers.specs.declared.verdict.Verdict.TheVariants.{Passed, Missing, Fail}
use Rattle.acvp_answers.specs.declared.verdict_text.TextFault.{TextFault}
use Rattle.acvp_answers.specs.declared.verdict_text.TextFault.TheVariants.{Letter, Memory}

-- the letters p, m and f in ASCII
abbrev pub letter_of : Verdict → ℕ
letter_of Passed = 0x70
letter_of Missing = 0x6d
letter_of Fail = 0x66

-- the letters of verdicts, in their order
abbrev pub verdicts_text : List Verdict → List ℕ
verdicts_text verdicts = map letter_of verdicts

-- why a text isn't read: it is the text of no verdicts; memory may run out at any text
abbrev pub IsUnread : List ℕ → TextFault → Type 0
IsUnread text Letter = (verdicts : List Verdict) → text ≢ verdicts_text verdicts
IsUnread text Memory = Unit {0}
