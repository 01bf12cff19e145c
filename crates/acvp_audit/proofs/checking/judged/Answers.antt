use Rattle.std.proofs.Common.{sym, ◌∙◌}
use Rattle.acvp_check.specs.Conditions.{all_conditions}
use Rattle.acvp_check.specs.Owners.{owner_conditions}
use Rattle.acvp_audit.proofs.Mine.{none_of_both}
use Rattle.acvp_audit.proofs.checking.judged.Goals as goal

pub returns-in-Ok-None-clause-fine : goal.returns-in-Ok-None-clause-fine
returns-in-Ok-None-clause-fine g c = λ live layout schema inside.
    let none = none_of_both (owner_conditions _) (all_conditions c.args.grades c.args.seeds.now c.args.account _)
    (sym c.in-Ok-None.ensures ∙ c.in-Ok-None.field-0-is) in (
      _,
      record { rows = c.in-Ok.ensures.rows live layout schema inside; owners = none.0; others = none.1 },
      c.totals_of.ensures.value,
    )
