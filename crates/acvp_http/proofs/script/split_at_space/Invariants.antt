use Rattle.std.proofs.Common.{take}
use Rattle.acvp_http.specs.Private.Lines.{Lacks}
use Rattle.acvp_http.proofs.script.split_at_space.Given as goal

abbrev pub invariant-loop-i : goal.invariant-loop-i
invariant-loop-i l = Lacks 32 (take l.i l.text)
