use Rattle.std.proofs.Common.{ap, sym, ◌∙◌}
use Rattle.std.specs.Prelude.{option_copied}
use Rattle.acvp_tables.specs.State.{certifies}
use Rattle.acvp_check.proofs.sessions.is_certified_at_its_place.Goals as goal

pub returns-in-Some : goal.returns-in-Some
returns-in-Some c is =
    c.at_its_place.ensures c.in-Some.row.now (λ row. certifies c.args.session row.body)
    (ap (λ found. option_copied found) c.in-Some.is) (sym c.certifies.ensures ∙ is)
