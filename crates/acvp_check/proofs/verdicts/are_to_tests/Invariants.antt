use Rattle.std.proofs.Common.{◌≡◌}
use Rattle.acvp_desk.specs.Answered.{are_to_tests}
use Rattle.acvp_check.proofs.verdicts.are_to_tests.Given as goal

abbrev pub invariant-loop-number : goal.invariant-loop-number
invariant-loop-number l = are_to_tests l.standard l.number-iterator ≡ are_to_tests l.standard l.answers
