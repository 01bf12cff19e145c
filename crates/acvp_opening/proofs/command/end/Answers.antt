use Rattle.std.proofs.Common.{[], ◌∷◌, refl}
use Rattle.acvp_opening.specs.Steps.{Closed}
use Rattle.acvp_opening.proofs.command.end.Goals as goal

pub returns-then-closes : goal.returns-then-closes
returns-then-closes g c = (
  Closed c.args.opened ∷ [],
  rw c.if-closes.true refl,
  (c.close.new.self, c.close.ensures, refl),
)
