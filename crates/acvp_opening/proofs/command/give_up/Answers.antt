use Rattle.std.proofs.Common.{[], ◌∷◌, refl}
use Rattle.acvp_opening.specs.Steps.{LetGo, LogRemoved}
use Rattle.acvp_opening.proofs.command.give_up.Goals as goal

pub returns-then-not-is_new_log : goal.returns-then-not-is_new_log
returns-then-not-is_new_log g c = (
  LetGo c.args.opened ∷ [],
  rw c.if-not-is_new_log.true refl,
  (c.let_go.new.self, c.let_go.ensures, refl),
)

pub returns : goal.returns
returns g c = (
  LogRemoved c.args.name.now ∷ LetGo c.args.opened ∷ [],
  rw c.if-not-is_new_log.false refl,
  (c.remove_log.new.self, c.remove_log.ensures, (c.let_go-2.new.self, c.let_go-2.ensures, refl)),
)
