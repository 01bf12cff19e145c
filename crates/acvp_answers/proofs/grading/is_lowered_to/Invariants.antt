use Rattle.std.proofs.Common.{◌≡◌, drop}
use Rattle.std.specs.Str.{bytes_eq, str_to_ascii_lowercase}
use Rattle.acvp_answers.proofs.grading.is_lowered_to.Given as goal

abbrev pub invariant-loop-i : goal.invariant-loop-i
invariant-loop-i l = bytes_eq (str_to_ascii_lowercase (drop l.i l.given)) (drop l.i l.wanted)
    ≡ bytes_eq (str_to_ascii_lowercase l.given) l.wanted
