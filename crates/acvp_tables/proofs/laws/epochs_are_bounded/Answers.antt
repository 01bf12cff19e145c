use Rattle.acvp_tables.proofs.Bounds.{epochs_below, no_epoch}
use Rattle.acvp_tables.proofs.laws.epochs_are_bounded.Goals as goal

pub returns : goal.returns
returns k = record {
  greatest = λ rows. epochs_below rows;
  none = λ rows e. no_epoch rows e;
}
