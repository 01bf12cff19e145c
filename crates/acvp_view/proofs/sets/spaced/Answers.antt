use Rattle.std.proofs.Common.{rules, append_assoc}
use Rattle.acvp_view.proofs.sets.spaced.Goals as goal

pub returns : goal.returns
returns c = let said = c.format.ensures.ok in search (rules, append_assoc)
