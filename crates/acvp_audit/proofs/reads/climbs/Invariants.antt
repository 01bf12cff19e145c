use Rattle.std.proofs.Common.{◌≡◌, drop, map}
use Rattle.acvp_tables.specs.State.{objects_in}
use Rattle.acvp_audit.specs.Private.Climbs.{climbs, kind_climbs}
use Rattle.acvp_audit.proofs.reads.climbs.Given as goal

abbrev pub invariant-loop-row : goal.invariant-loop-row
invariant-loop-row l =
    climbs l.before (map (λ row. row.number) (objects_in l.kind (drop l.row-index l.objects)))
    ≡ kind_climbs l.objects l.kind
