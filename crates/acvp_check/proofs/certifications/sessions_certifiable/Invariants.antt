use Rattle.std.proofs.Common.{◌≡◌, drop}
use Rattle.std.specs.List.{flat_map}
use Rattle.acvp_mac.specs.Conditions.{judged}
use Rattle.acvp_check.specs.Conditions.{certifiable_conditions}
use Rattle.acvp_check.proofs.certifications.sessions_certifiable.Given as goal

abbrev pub invariant-loop-row : goal.invariant-loop-row
invariant-loop-row l =
    judged (flat_map (certifiable_conditions l.requests) (drop l.row-index l.rows)) (tt {0})
    ≡ judged (flat_map (certifiable_conditions l.requests) l.rows) (tt {0})
