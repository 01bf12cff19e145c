use Rattle.std.proofs.Common.{◌≡◌, drop}
use Rattle.std.specs.Prelude.{find, ◌==◌}
use Rattle.acvp_check.proofs.near.by_walk.Given as goal

abbrev pub invariant-loop-row : goal.invariant-loop-row
invariant-loop-row g l =
    find (λ row. g.R.Numbered.number row == l.number) (drop l.row-index l.rows)
    ≡ find (λ row. g.R.Numbered.number row == l.number) l.rows
