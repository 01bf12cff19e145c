use Rattle.std.proofs.Common.{[], ◌∷◌, inl, inr, refl, option_map, string_bytes}
use Rattle.acvp_opening.specs.Steps.{Asked, AnswerLost}
use Rattle.acvp_opening.proofs.command.asked.Goals as goal

pub returns-in-Ok : goal.returns-in-Ok
returns-in-Ok g c = (
  Asked c.args.name.now c.args.line.now (option_map string_bytes c.in-Ok.answer) ∷ [],
  inl (option_map string_bytes c.in-Ok.answer, c.said_of.ensures, refl),
  (c.ask.new.self, c.in-Ok.ensures, refl),
)

pub returns-in-Err : goal.returns-in-Err
returns-in-Err g c = (
  AnswerLost c.args.name.now c.args.line.now c.in-Err.fault ∷ [],
  inr (c.in-Err.fault, refl, refl),
  (c.ask.new.self, c.in-Err.ensures, refl),
)
