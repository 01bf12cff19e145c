use Rattle.std.proofs.Common.{take}
use Rattle.acvp_caps.specs.Private.Walk.{IsGreatest}
use Rattle.acvp_caps.proofs.walk.greatest_member.Given as goal

abbrev pub invariant-loop-item : goal.invariant-loop-item
invariant-loop-item l = IsGreatest (take l.item-index l.items) l.greatest
