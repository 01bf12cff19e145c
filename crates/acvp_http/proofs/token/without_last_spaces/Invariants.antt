use Rattle.std.proofs.Common.{◌≡◌, length}
use Rattle.acvp_http.specs.Private.Spaces.{skip_last_spaces}
use Rattle.acvp_http.proofs.token.without_last_spaces.Given as goal

abbrev pub invariant-loop-before : goal.invariant-loop-before
invariant-loop-before l = skip_last_spaces l.rest ≡ skip_last_spaces l.text

abbrev pub decreases-loop-before : goal.decreases-loop-before
decreases-loop-before l = length l.rest
