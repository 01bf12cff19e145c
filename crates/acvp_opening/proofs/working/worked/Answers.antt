use Rattle.std.proofs.Common.{inl}
use Rattle.acvp_opening.proofs.working.worked.Goals as goal

pub returns : goal.returns
returns g c = inl record {
  begun = c.prepared-connection.new.host;
  ended = c.done_over-connection.new.host;
  ready = c.prepared-connection.result.0;
  worked = c.done_over-connection.result.0;
  added = c.in-Ok.added;
  prepared = rw c.in-Ok.is at c.prepared-connection.ensures;
  is_done = c.done_over-connection.ensures;
  taken_back = c.taken_back.ensures;
  told = rw c.has_served.ensures at (rw c.is_some.ensures at c.is_wanted_closed-wanted.ensures);
}
