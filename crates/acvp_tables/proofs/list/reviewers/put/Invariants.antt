use Rattle.std.proofs.Common.{◌≡◌, ◌++◌, drop, take}
use Rattle.acvp_tables.specs.Private.Ascending.{with_number}
use Rattle.acvp_tables.proofs.list.reviewers.put.Given as goal

abbrev pub invariant-loop-other : goal.invariant-loop-other
invariant-loop-other l = (take l.place l.fn.numbers.items ++ with_number l.number (drop l.place l.fn.numbers.items)
    ≡ with_number l.number l.fn.numbers.items) × (l.place ≡ l.other-index)
