use Rattle.std.proofs.Common.{◌≡◌}
use Rattle.std.specs.List.{slice_get}
use Rattle.acvp_answers.specs.Answer.{shown}
use Rattle.acvp_answers.proofs.answers.nth_of.Given as goal

abbrev pub invariant-loop-number : goal.invariant-loop-number
invariant-loop-number l = slice_get (shown l.number-iterator) l.left ≡ slice_get (shown l.kept.entries) l.fn.i
