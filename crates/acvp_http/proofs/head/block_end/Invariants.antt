use Rattle.std.proofs.Common.{◌≡◌, ◌<◌, ℕ, take, false}
use Rattle.acvp_http.specs.Asks.{ends_empty}
use Rattle.acvp_http.proofs.head.block_end.Given as goal

abbrev pub invariant-loop-n : goal.invariant-loop-n
invariant-loop-n l = (k : ℕ) → k < l.n → ends_empty (take k l.window) ≡ false
