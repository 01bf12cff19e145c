use Rattle.std.proofs.Common.{◌≡◌, drop}
use Rattle.std.specs.List.{flat_map}
use Rattle.acvp_mac.specs.Conditions.{judged}
use Rattle.acvp_check.proofs.walks.each.Given as goal

abbrev pub invariant-loop-row : goal.invariant-loop-row
invariant-loop-row g l =
    judged (flat_map (g.J.Judge.conditions l.judge) (drop l.row-index l.rows)) (tt {0})
    ≡ judged (flat_map (g.J.Judge.conditions l.judge) l.rows) (tt {0})
