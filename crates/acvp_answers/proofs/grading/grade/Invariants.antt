use Rattle.std.proofs.Common.{◌≡◌, ◌++◌}
use Rattle.acvp_answers.specs.Verdicts.{verdicts_of}
use Rattle.acvp_answers.proofs.grading.grade.Given as goal

abbrev pub invariant-loop-number : goal.invariant-loop-number
invariant-loop-number l =
    l.verdicts.items ++ verdicts_of l.number-iterator l.given ≡ verdicts_of l.standard l.given
