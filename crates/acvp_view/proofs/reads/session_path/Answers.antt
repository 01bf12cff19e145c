use Rattle.std.proofs.Common.{rules}
use Rattle.acvp_view.proofs.reads.session_path.Goals as goal

pub returns : goal.returns
returns c = let said = c.format.ensures.ok in search rules
