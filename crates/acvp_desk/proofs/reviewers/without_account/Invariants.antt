use Rattle.std.proofs.Common.{◌≡◌, take, filter}
use Rattle.std.specs.Prelude.{◌==◌, not}
use Rattle.acvp_desk.proofs.reviewers.without_account.Given as goal

abbrev pub invariant-loop-other : goal.invariant-loop-other
invariant-loop-other l = l.left.items ≡ filter (λ b. not (b == l.account)) (take l.other-index l.accounts)
