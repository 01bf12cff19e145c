use Rattle.std.proofs.Common.{◌≡◌, take, filter}
use Rattle.std.specs.Prelude.{nat_lt}
use Rattle.acvp_desk.proofs.reviewers.above.Given as goal

abbrev pub invariant-loop-other : goal.invariant-loop-other
invariant-loop-other l = l.some.items ≡ filter (λ b. nat_lt l.account b) (take l.other-index l.accounts)
