use Rattle.std.proofs.Common.{◌≡◌, ◌≤◌, ◌+◌, drop, filter}
use Rattle.acvp_mac.specs.Conditions.{judged}
use Rattle.acvp_check.specs.Conditions.{numbered}
use Rattle.acvp_check.proofs.walks.rise.Given as goal

abbrev pub invariant-loop-row : goal.invariant-loop-row
invariant-loop-row g l =
    (judged (numbered g.N.Numbers.number g.N.Numbers.key l.next
    (filter (g.N.Numbers.selected l.these) (drop l.row-index l.rows))) (tt {0})
    ≡ judged (numbered g.N.Numbers.number g.N.Numbers.key l.first (filter (g.N.Numbers.selected l.these) l.rows))
    (tt {0}))
    × (l.next ≤ l.first + l.row-index)
