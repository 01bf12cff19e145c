use Rattle.std.proofs.Common.{◌≡◌}
use Rattle.std.specs.List.{slice_get}
use Rattle.acvp_caps.specs.Members.{members}
use Rattle.acvp_caps.proofs.walk.nth_member.Given as goal

abbrev pub invariant-loop : goal.invariant-loop
invariant-loop l = l.next ≡ slice_get (members l.items) l.counter
