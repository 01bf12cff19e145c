use Rattle.std.proofs.Common.{◌≡◌, map}
use Rattle.std.specs.Prelude.{take}
use Rattle.acvp_desk.specs.Replies.{result_shown}
use Rattle.acvp_desk.proofs.session.results_at.Given as goal

abbrev pub invariant-loop-outcome : goal.invariant-loop-outcome
invariant-loop-outcome l = l.results.items ≡ map (result_shown l.moment l.fn.facts) (take l.outcome-index l.fn.outcomes)
