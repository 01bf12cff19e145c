-- A request as far as the operator's decision goes, as the code holds it between its reads and its change.
use Rattle.acvp_tables.specs.Content.{purpose_of}
use Rattle.acvp_tables.specs.State.{State}
use Rattle.acvp_tables.specs.declared.rows.RequestRow.{RequestRow}
use Rattle.acvp_desk.specs.Orders.{approved_number, is_initial}
use Rattle.acvp_desk.specs.declared.order.Waiting.{Waiting}

abbrev pub waiting_in : State → RequestRow → Waiting
waiting_in state row = record {
  initial = is_initial row.status;
  account = row.account;
  purpose = purpose_of row.body;
  approved = approved_number state row;
}
