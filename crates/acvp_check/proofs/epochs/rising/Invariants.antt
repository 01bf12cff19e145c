use Rattle.acvp_check.proofs.EpochLemmas.{IsWalked}
use Rattle.acvp_check.proofs.epochs.rising.Given as goal

abbrev pub invariant-loop-i : goal.invariant-loop-i
invariant-loop-i l = IsWalked l.sets l.start l.i l.session l.epoch
