use Rattle.std.proofs.Common.{◌≡◌, map}
use Rattle.std.specs.Prelude.{take}
use Rattle.acvp_desk.specs.Replies.{listed_shown}
use Rattle.acvp_desk.proofs.listing.all_shown.Given as goal

abbrev pub invariant-loop-row : goal.invariant-loop-row
invariant-loop-row l = l.sessions.items ≡ map listed_shown (take l.row-index l.fn.rows)
