use Rattle.std.proofs.Common.{[], ◌∷◌, inl, inr, refl, string_bytes}
use Rattle.acvp_opening.specs.Steps.{MomentRead}
use Rattle.acvp_opening.proofs.command.relayed.Goals as goal

pub returns-in-Ok : goal.returns-in-Ok
returns-in-Ok g c =
    let (rest, answered, done) = c.asked.ensures in
    let told = rw c.as_str.ensures.value at answered in (
      MomentRead c.moment-moment.result ∷ rest,
      (c.moment-moment.result, rest, refl, inl (string_bytes c.in-Ok.line, c.in-Ok.ensures, told)),
      (c.moment-moment.new.self, c.moment-moment.ensures, done),
    )

pub returns-in-Err : goal.returns-in-Err
returns-in-Err g c = (
  MomentRead c.moment-moment.result ∷ [],
  (c.moment-moment.result, [], refl, inr (refl, refl)),
  (c.moment-moment.new.self, c.moment-moment.ensures, refl),
)
