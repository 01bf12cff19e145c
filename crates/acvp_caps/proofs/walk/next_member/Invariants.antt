use Rattle.std.proofs.Common.{take}
use Rattle.acvp_caps.specs.Members.{is_member}
use Rattle.acvp_caps.specs.Private.Walk.{IsNextMember}
use Rattle.acvp_caps.proofs.walk.next_member.Given as goal

abbrev pub invariant-loop-item : goal.invariant-loop-item
invariant-loop-item l = IsNextMember (is_member (take l.item-index l.items)) l.start l.next
