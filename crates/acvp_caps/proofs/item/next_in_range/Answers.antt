use Rattle.std.proofs.Common.{◌-◌, ◌%◌, ◌≤◌, arith}
use Rattle.acvp_caps.proofs.Ranges.{range_step}
use Rattle.acvp_caps.proofs.item.next_in_range.Goals as goal

pub returns-then-step-max : goal.returns-then-step-max
returns-then-step-max c =
    let a = c.args in
    let past : (a.start - a.min) % a.increment ≤ a.increment = omega arith in
    range_step a.min a.max a.increment a.start (omega arith) (omega arith) past (omega arith)
