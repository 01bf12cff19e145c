use Rattle.acvp_tables.proofs.NumbersKept.{well_changed, well_ordered}
use Rattle.acvp_tables.proofs.laws.numbers_are_kept.Goals as goal

pub returns : goal.returns
returns k = record {
  change = λ it state well next. well_changed it state well next;
  order = λ it state well next. well_ordered it state well next;
}
