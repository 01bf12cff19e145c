-- Answers to a vector set, with what they came to.
use Rattle.std.specs.Prelude.{List}
use Rattle.acvp_answers.specs.Answer.{Answer}
use Rattle.acvp_answers.specs.declared.verdict.Verdict.{Verdict}
use Rattle.acvp_answers.specs.declared.verdict.Disposition.{Disposition}

pub record GradedValue : Type 0 where
  pub answers : List Answer
  pub verdicts : List Verdict
  pub disposition : Disposition
