use Rattle.std.proofs.Common.{arith, ◌∙◌}
use Rattle.acvp_desk.proofs.FoundRows.{outcomes_of_sets}
use Rattle.acvp_desk.proofs.find.set_outcomes.Goals as goal

pub returns-clause-found : goal.returns-clause-found
returns-clause-found g c =
    λ live seeds content kept h.
    outcomes_of_sets c.selections_follow.ensures.live_sets seeds content c.args.session c.loop-set.set-index
    c.deref-set-items.result.now
    c.loop-set.sets.items kept c.loop-set.invariant
    (omega (arith, c.loop-set-test.false, c.loop-set.auto.set-index-end))
    (c.deref-set-items.ensures.value ∙ c.in_ok-found.ensures.found live content kept.sound h)
