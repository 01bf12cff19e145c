use Rattle.std.proofs.Common.{◌∷◌, refl}
use Rattle.acvp_opening.specs.Steps.{Worked}
use Rattle.acvp_opening.proofs.command.done_over_open.Goals as goal

pub returns : goal.returns
returns g c =
    let (rest, ended, done) = c.end.ensures in
    let worked = Worked c.args.opened c.args.work c.work-ended.result.1 c.work-ended.result.2 c.work-ended.result.0 in (
      worked ∷ rest,
      (
        c.work-ended.result.0,
        c.work-ended.result.1,
        c.work-ended.result.2,
        rest,
        refl,
        rw c.closes-closes.ensures at ended,
        c.said_at_end.ensures,
      ),
      (c.work-ended.new.self, c.work-ended.ensures, done),
    )
