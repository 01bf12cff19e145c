use Rattle.std.proofs.Common.{◌≡◌, drop}
use Rattle.std.specs.List.{flat_map}
use Rattle.acvp_mac.specs.Conditions.{judged}
use Rattle.acvp_check.specs.Conditions.{last_conditions}
use Rattle.acvp_check.proofs.certifications.requests_last.Given as goal

abbrev pub invariant-loop-row : goal.invariant-loop-row
invariant-loop-row l =
    judged (flat_map (last_conditions l.sessions) (drop l.row-index l.rows)) (tt {0})
    ≡ judged (flat_map (last_conditions l.sessions) l.rows) (tt {0})
