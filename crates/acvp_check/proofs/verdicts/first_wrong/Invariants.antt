use Rattle.std.proofs.Common.{◌≡◌, drop}
use Rattle.std.specs.List.{flat_map}
use Rattle.acvp_mac.specs.Conditions.{first_broken}
use Rattle.acvp_check.specs.Conditions.{verdict_row_conditions}
use Rattle.acvp_check.proofs.verdicts.first_wrong.Given as goal

abbrev pub invariant-loop-row : goal.invariant-loop-row
invariant-loop-row l =
    first_broken (flat_map (verdict_row_conditions l.seeds) (drop l.row-index l.rows))
    ≡ first_broken (flat_map (verdict_row_conditions l.seeds) l.rows)
