use Rattle.std.proofs.Common.{◌≡◌, drop}
use Rattle.std.specs.List.{flat_map}
use Rattle.acvp_mac.specs.Conditions.{judged}
use Rattle.acvp_check.specs.Conditions.{reviewer_row_conditions}
use Rattle.acvp_check.proofs.reviewers.reviewer_rows_wrong.Given as goal

abbrev pub invariant-loop-row : goal.invariant-loop-row
invariant-loop-row l =
    judged (flat_map (reviewer_row_conditions l.mine) (drop l.row-index l.rows)) (tt {0})
    ≡ judged (flat_map (reviewer_row_conditions l.mine) l.rows) (tt {0})
