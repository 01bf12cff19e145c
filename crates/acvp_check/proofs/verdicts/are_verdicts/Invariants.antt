use Rattle.std.proofs.Common.{◌≡◌, drop}
use Rattle.std.specs.Cmp.Lexicographic.{pointwise}
use Rattle.acvp_check.specs.Conditions.{is_verdict}
use Rattle.acvp_check.proofs.verdicts.are_verdicts.Given as goal

abbrev pub invariant-loop-i : goal.invariant-loop-i
invariant-loop-i l = pointwise is_verdict (drop l.i l.kept) (drop l.i l.others) ≡ pointwise is_verdict l.kept l.others
