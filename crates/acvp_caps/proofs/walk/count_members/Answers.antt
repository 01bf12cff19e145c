use Rattle.std.proofs.Common.{◌≤◌, sym, ◌∙◌, arith}
use Rattle.acvp_caps.specs.Members.{is_member}
use Rattle.acvp_caps.proofs.MembersLemmas.{member-at, members-end, step-first, step-more, step-smaller}
use Rattle.acvp_caps.proofs.walk.count_members.Goals as goal

pub loop-next-init : goal.loop-next-init
loop-next-init c = (step-first c.args.items.now c.next_member-next.result c.next_member-next.ensures, omega arith)

pub overflow_add-count : goal.overflow_add-count
overflow_add-count c =
    let at = member-at c.args.items.now c.loop-next.count c.in-Some.n c.requires.formed c.requires.bounded
    (sym c.loop-next.invariant.0 ∙ c.in-Some.is) in
    let count : c.loop-next.count ≤ 524288 = omega (arith, at.place, at.limit) in
    omega arith

pub overflow_add-n : goal.overflow_add-n
overflow_add-n c =
    let at = member-at c.args.items.now c.loop-next.count c.in-Some.n c.requires.formed c.requires.bounded
    (sym c.loop-next.invariant.0 ∙ c.in-Some.is) in
    let limit : c.in-Some.n ≤ 524288 = at.limit in
    omega arith

pub loop-next-smaller : goal.loop-next-smaller
loop-next-smaller c =
    let at = member-at c.args.items.now c.loop-next.count c.in-Some.n c.requires.formed c.requires.bounded
    (sym c.loop-next.invariant.0 ∙ c.in-Some.is) in
    rw c.in-Some.is (step-smaller
    (is_member c.args.items.now) c.in-Some.n c.next_member-next-in-Some.result at.limit
    c.next_member-next-in-Some.ensures)

pub loop-next-preserved : goal.loop-next-preserved
loop-next-preserved c =
    let at = member-at c.args.items.now c.loop-next.count c.in-Some.n c.requires.formed c.requires.bounded
    (sym c.loop-next.invariant.0 ∙ c.in-Some.is) in (
      step-more c.args.items.now c.loop-next.count c.in-Some.n c.loop-next.next c.next_member-next-in-Some.result
          c.loop-next.invariant.0 c.in-Some.is c.next_member-next-in-Some.ensures,
      omega (arith, at.within),
    )

pub returns : goal.returns
returns c =
    let most = members-end c.args.items.now c.loop-next.count c.loop-next.next c.loop-next.invariant.0 c.in_default.is
    in
    omega (arith, most)
