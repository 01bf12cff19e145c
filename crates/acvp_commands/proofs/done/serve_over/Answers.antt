use Rattle.std.proofs.Common.{inl}
use Rattle.acvp_commands.proofs.done.serve_over.Goals as goal

pub returns-in-Ok : goal.returns-in-Ok
returns-in-Ok g c =
    inl (
      c.in-Ok.desk.tables,
      c.in-Ok.ensures.looks,
      rw c.into_tables.ensures (rw c.in-Ok.ensures.keys at c.serve-outcome.ensures),
    )
