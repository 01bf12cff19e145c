use Rattle.std.proofs.Common.{ap, refl}
use Rattle.std.specs.Prelude.{option_copied, true}
use Rattle.acvp_check.proofs.NearLemmas.{there_by_any}
use Rattle.acvp_check.proofs.near.is_at_its_place.Goals as goal

pub returns-in-Some : goal.returns-in-Some
returns-in-Some c is =
    there_by_any c.args.number c.args.sessions.now (c.at_its_place.ensures c.in-Some.field-0.now (λ row. true)
    (ap (λ found. option_copied found) c.in-Some.is) refl)
