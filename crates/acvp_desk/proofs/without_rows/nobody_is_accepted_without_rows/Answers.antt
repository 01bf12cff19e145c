use Rattle.acvp_desk.proofs.WithoutRows.{nobody_accepted}
use Rattle.acvp_desk.proofs.without_rows.nobody_is_accepted_without_rows.Goals as goal

pub returns : goal.returns
returns c = nobody_accepted
