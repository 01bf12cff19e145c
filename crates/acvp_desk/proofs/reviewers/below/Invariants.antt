use Rattle.std.proofs.Common.{◌≡◌, take, filter}
use Rattle.std.specs.Prelude.{nat_lt}
use Rattle.acvp_desk.proofs.reviewers.below.Given as goal

abbrev pub invariant-loop-other : goal.invariant-loop-other
invariant-loop-other l = l.some.items ≡ filter (λ b. nat_lt b l.account) (take l.other-index l.accounts)
