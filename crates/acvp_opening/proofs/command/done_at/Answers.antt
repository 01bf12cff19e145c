use Rattle.std.proofs.Common.{◌∷◌, inl, inr, refl}
use Rattle.acvp_opening.specs.Runs.{may_be_made}
use Rattle.acvp_opening.specs.Steps.{LogSought, NotOpened, Opened}
use Rattle.acvp_opening.proofs.command.done_at.Goals as goal

pub returns-in-Ok : goal.returns-in-Ok
returns-in-Ok g c =
    let (rest, over, done) = c.done_over_open.ensures in
    let name = c.args.name.now in
    let opened = Opened name (may_be_made c.args.work) c.in-Ok.opened in (
      LogSought name c.has_no_log-is_new_log.result ∷ opened ∷ rest,
      (c.has_no_log-is_new_log.result, opened ∷ rest, refl, inl (c.in-Ok.opened, rest, refl, over)),
      (
        c.has_no_log-is_new_log.new.self,
        c.has_no_log-is_new_log.ensures,
        (c.open.new.self, rw c.may_be_made.ensures at c.in-Ok.ensures, done),
      ),
    )

pub returns-in-Err : goal.returns-in-Err
returns-in-Err g c =
    let (rest, told, done) = c.unopened.ensures in
    let name = c.args.name.now in
    let failed = NotOpened name (may_be_made c.args.work) c.in-Err.why in (
      LogSought name c.has_no_log-is_new_log.result ∷ failed ∷ rest,
      (c.has_no_log-is_new_log.result, failed ∷ rest, refl, inr (c.in-Err.why, rest, refl, told)),
      (
        c.has_no_log-is_new_log.new.self,
        c.has_no_log-is_new_log.ensures,
        (c.open.new.self, rw c.may_be_made.ensures at c.in-Err.ensures, done),
      ),
    )
