use Rattle.std.proofs.Common.{inl}
use Rattle.acvp_commands.proofs.done.taken_over.Goals as goal

pub returns-in-Ok : goal.returns-in-Ok
returns-in-Ok g c =
    inl (c.in-Ok.tables, c.in-Ok.ensures, rw c.into_connection.ensures c.done_on-tables.ensures)
