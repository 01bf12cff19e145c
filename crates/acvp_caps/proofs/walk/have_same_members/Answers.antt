use Rattle.std.proofs.Common.{sym, ◌∙◌, arith}
use Rattle.acvp_caps.specs.Members.{is_member}
use Rattle.acvp_caps.proofs.MembersLemmas.{step-smaller}
use Rattle.acvp_caps.proofs.SideBySide.{side-first, side-more, side-member, side-ended, that-number}
use Rattle.acvp_caps.proofs.walk.have_same_members.Goals as goal

pub loop-next-init : goal.loop-next-init
loop-next-init c =
    side-first c.args.a.now c.args.b.now c.next_member-next.result c.next_member-other.result c.next_member-next.ensures
    c.next_member-other.ensures

pub overflow_add-n : goal.overflow_add-n
overflow_add-n c =
    let limit = side-member c.args.a.now c.args.b.now c.loop-next.next c.loop-next.other c.in-Some.n c.requires.formed.0
    c.requires.bounded c.loop-next.invariant c.in-Some.is in
    omega (arith, limit)

pub overflow_add-n-in-Some : goal.overflow_add-n-in-Some
overflow_add-n-in-Some c =
    let limit = side-member c.args.a.now c.args.b.now c.loop-next.next c.loop-next.other c.in-Some.n c.requires.formed.0
    c.requires.bounded c.loop-next.invariant c.in-Some.is in
    omega (arith, limit)

pub loop-next-smaller : goal.loop-next-smaller
loop-next-smaller c =
    let limit = side-member c.args.a.now c.args.b.now c.loop-next.next c.loop-next.other c.in-Some.n c.requires.formed.0
    c.requires.bounded c.loop-next.invariant c.in-Some.is in
    rw c.in-Some.is (step-smaller (is_member c.args.a.now) c.in-Some.n c.next_member-next-in-Some.result limit
    c.next_member-next-in-Some.ensures)

pub loop-next-preserved : goal.loop-next-preserved
loop-next-preserved c =
    let same = that-number c.loop-next.other c.in-Some.n (sym c.if-ne.false ∙ c.ne.ensures) in
    side-more c.args.a.now c.args.b.now c.loop-next.next c.loop-next.other c.next_member-next-in-Some.result
    c.next_member-other-in-Some.result c.in-Some.n c.loop-next.invariant c.in-Some.is same
    c.next_member-next-in-Some.ensures c.next_member-other-in-Some.ensures

pub returns : goal.returns
returns c =
    side-ended c.args.a.now c.args.b.now c.loop-next.next c.loop-next.other c.is_none.result c.loop-next.invariant
    c.in_default.is c.is_none.ensures
