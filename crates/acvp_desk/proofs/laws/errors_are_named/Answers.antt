use Rattle.acvp_desk.proofs.ErrorBodies.{named}
use Rattle.acvp_desk.proofs.laws.errors_are_named.Goals as goal

pub returns : goal.returns
returns c = named
