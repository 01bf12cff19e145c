use Rattle.std.specs.Prelude.{ℕ, ◌≤◌, ◌<◌}
use Rattle.std.specs.List.{slice_index_or}
use Rattle.acvp_check.proofs.near.ascend.Given as goal

abbrev pub invariant-loop-row : goal.invariant-loop-row
invariant-loop-row g l =
    ((k : ℕ) (d : _) → k < l.row-index → g.R.OfSession.session (slice_index_or l.rows k d) ≤ l.last)
    × ((a b : ℕ) (d : _) → a ≤ b → b < l.row-index
    → g.R.OfSession.session (slice_index_or l.rows a d) ≤ g.R.OfSession.session (slice_index_or l.rows b d))
