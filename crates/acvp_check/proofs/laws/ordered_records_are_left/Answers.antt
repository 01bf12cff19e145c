use Rattle.acvp_check.proofs.OrderedRows.{kept_in_order, left_in_order}
use Rattle.acvp_check.proofs.laws.ordered_records_are_left.Goals as goal

pub returns-clause-kept : goal.returns-clause-kept
returns-clause-kept c = λ seeds content ordered same up is. kept_in_order seeds content ordered same up is

pub returns-clause-left : goal.returns-clause-left
returns-clause-left c = λ seeds content ordered same up is. left_in_order seeds content ordered same up is
