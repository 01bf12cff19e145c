use Rattle.acvp_tables.proofs.Numbers.{keyed}
use Rattle.acvp_tables.proofs.OwnRows.{own_same, own_other, own_ordered, other_ordered}
use Rattle.acvp_tables.proofs.laws.changes_are_of_one_account.Goals as goal

pub returns : goal.returns
returns k = record {
  change = λ it state fits. own_same it state fits;
  others = λ v it state apart well fits. own_other v it state apart (keyed state well) fits;
  order = λ it state well. own_ordered it state (keyed state well);
  ordered_others = λ v it state apart well. other_ordered v it state apart (keyed state well);
}
