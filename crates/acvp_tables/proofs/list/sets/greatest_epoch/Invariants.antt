use Rattle.std.proofs.Common.{◌≡◌, drop}
use Rattle.acvp_tables.specs.Content.{greatest_epoch_of}
use Rattle.acvp_tables.proofs.EpochLemmas.{merged}
use Rattle.acvp_tables.proofs.list.sets.greatest_epoch.Given as goal

abbrev pub invariant-loop-row : goal.invariant-loop-row
invariant-loop-row l = merged l.greatest (greatest_epoch_of (drop l.row-index l.rows)) ≡ greatest_epoch_of l.rows
