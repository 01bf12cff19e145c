use Rattle.std.proofs.Common.{◌≡◌, map}
use Rattle.std.specs.Prelude.{take}
use Rattle.acvp_desk.proofs.PassedSession.{outcome_of}
use Rattle.acvp_desk.proofs.find.set_outcomes.Given as goal

abbrev pub invariant-loop-set : goal.invariant-loop-set
invariant-loop-set g l = l.sets.items ≡ map outcome_of (take l.set-index l.set-items)
