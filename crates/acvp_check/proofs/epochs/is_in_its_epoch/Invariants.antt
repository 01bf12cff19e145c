use Rattle.std.proofs.Common.{◌≡◌, drop}
use Rattle.acvp_desk.specs.Epochs.{is_in_its_epoch}
use Rattle.acvp_check.proofs.epochs.is_in_its_epoch.Given as goal

abbrev pub invariant-loop-other : goal.invariant-loop-other
invariant-loop-other l = is_in_its_epoch (drop l.other-index l.sets) l.set ≡ is_in_its_epoch l.sets l.set
