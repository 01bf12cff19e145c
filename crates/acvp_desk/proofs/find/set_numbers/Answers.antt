use Rattle.std.proofs.Common.{arith, ◌∙◌}
use Rattle.acvp_desk.proofs.FoundRows.{numbers_of_sets}
use Rattle.acvp_desk.proofs.find.set_numbers.Goals as goal

pub returns-clause-found : goal.returns-clause-found
returns-clause-found g c =
    λ live seeds content kept h.
    numbers_of_sets c.selections_follow.ensures.live_sets content c.args.session c.loop-set.set-index
    c.deref-set-items.result.now
    c.loop-set.numbers.items c.loop-set.invariant (omega (arith, c.loop-set-test.false, c.loop-set.auto.set-index-end))
    (c.deref-set-items.ensures.value ∙ c.in_ok-sets.ensures.found live content kept.sound h)
