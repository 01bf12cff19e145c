use Rattle.std.proofs.Common.{◌≡◌, take}
use Rattle.acvp_keys.proofs.ChangingLemmas.{AreRetired}
use Rattle.acvp_keys.proofs.changing.retire_oldest.Given as goal

abbrev pub invariant-loop-place : goal.invariant-loop-place
invariant-loop-place l = AreRetired (take l.place l.entries) × (l.entries ≡ l.fn.entries)
