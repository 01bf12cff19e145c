use Rattle.std.proofs.Common.{◌≤◌, sym, ◌∙◌, arith}
use Rattle.acvp_caps.proofs.MembersLemmas.{member-at, members-past, step-first, step-more}
use Rattle.acvp_caps.proofs.walk.nth_member.Goals as goal

pub loop-init : goal.loop-init
loop-init c = step-first c.args.items.now c.next_member-next.result c.next_member-next.ensures

pub returns-in_err-n : goal.returns-in_err-n
returns-in_err-n c =
    c.from_residual.ensures
    ∙ members-past c.args.items.now c.loop.counter c.args.place (sym (c.in_err-n.was {u = tt})
    ∙ c.loop.invariant) (omega arith)

pub overflow_add-n : goal.overflow_add-n
overflow_add-n c =
    let at = member-at c.args.items.now c.loop.counter c.in_ok-n.n c.requires.formed c.requires.bounded
    (sym c.loop.invariant ∙ c.in_ok-n.was {u = tt}) in
    let limit : c.in_ok-n.n ≤ 524288 = at.limit in
    omega arith

pub loop-preserved : goal.loop-preserved
loop-preserved c =
    step-more c.args.items.now c.loop.counter c.in_ok-n.n c.loop.next c.next_member-next-in-loop.result c.loop.invariant
    (c.in_ok-n.was {u = tt}) c.next_member-next-in-loop.ensures
