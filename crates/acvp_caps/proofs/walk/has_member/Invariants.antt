use Rattle.std.proofs.Common.{◌≡◌, false, take}
use Rattle.acvp_caps.specs.Members.{is_member}
use Rattle.acvp_caps.proofs.walk.has_member.Given as goal

abbrev pub invariant-loop-item : goal.invariant-loop-item
invariant-loop-item l = is_member (take l.item-index l.items) l.n ≡ false
