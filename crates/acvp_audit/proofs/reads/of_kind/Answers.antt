use Rattle.sqlite.specs.Held.{state}
use Rattle.acvp_tables.specs.Content.{kind_number}
use Rattle.acvp_audit.proofs.Strays.{stray_objects}
use Rattle.acvp_audit.proofs.reads.of_kind.Goals as goal

pub returns-clause-stray : goal.returns-clause-stray
returns-clause-stray g c = λ live.
    stray_objects (kind_number c.args.kind) c.args.account (state g.S.Store c.args.tables.now) c.objects_numbered.result
    (c.objects_numbered.ensures.stray live) c.read_of.result c.read_of.ensures.stray
