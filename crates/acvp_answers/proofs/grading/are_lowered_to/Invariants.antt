use Rattle.std.proofs.Common.{◌≡◌, drop, map, string_bytes}
use Rattle.acvp_answers.specs.Verdicts.{are_lowered_to}
use Rattle.acvp_answers.proofs.grading.are_lowered_to.Given as goal

abbrev pub invariant-loop-i : goal.invariant-loop-i
invariant-loop-i l = are_lowered_to (map string_bytes (drop l.i l.given)) (map string_bytes (drop l.i l.wanted))
    ≡ are_lowered_to (map string_bytes l.given) (map string_bytes l.wanted)
