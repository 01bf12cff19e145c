use Rattle.std.proofs.Common.{◌≡◌, length}
use Rattle.acvp_http.specs.Asks.{skip_spaces}
use Rattle.acvp_http.proofs.token.without_first_spaces.Given as goal

abbrev pub invariant-loop-behind : goal.invariant-loop-behind
invariant-loop-behind l = skip_spaces l.rest ≡ skip_spaces l.text

abbrev pub decreases-loop-behind : goal.decreases-loop-behind
decreases-loop-behind l = length l.rest
