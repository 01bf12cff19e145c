use Rattle.std.proofs.Common.{◌-◌}
use Rattle.std.specs.Prelude.{unwrap_or, option_map}
use Rattle.acvp_caps.specs.Members.{members}
use Rattle.acvp_caps.proofs.SideBySide.{IsSideBySide}
use Rattle.acvp_caps.proofs.walk.have_same_members.Given as goal

abbrev pub invariant-loop-next : goal.invariant-loop-next
invariant-loop-next l = IsSideBySide (members l.a) (members l.b) l.next l.other

abbrev pub decreases-loop-next : goal.decreases-loop-next
decreases-loop-next l = unwrap_or (option_map (λ n. 524289 - n) l.next) 0
