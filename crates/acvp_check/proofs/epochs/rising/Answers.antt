use Rattle.std.proofs.Common.{◌+◌, ◌∙◌, sym, subst, arith}
use Rattle.acvp_check.proofs.EpochLemmas.{IsWalked, all_held, walked_later, walked_same}
use Rattle.acvp_check.proofs.epochs.rising.Goals as goal
use Rattle.acvp_check.proofs.epochs.rising.Goals.{then-is_later, else-is_later+else-not-is_of}

pub loop-i-preserved : goal.loop-i-preserved
loop-i-preserved c =
    let sets = c.args.sets.now in
    let row = c.index-sets-i.result in
    elim c.if-is_later.branch [
      | then-is_later w ↦ subst (λ start. IsWalked sets start (c.loop-i.i + 1) row.session row.epoch) (sym w.start-is)
          (walked_later sets c.loop-i.start c.loop-i.i c.loop-i.session c.loop-i.epoch c.loop-i.invariant row
          c.loop-i-test.true c.index-sets-i.is (sym c.is_later.ensures ∙ w.if-is_later.true) c.requires)
      | else-is_later+else-not-is_of w ↦ subst (λ start. IsWalked sets start (c.loop-i.i + 1) row.session row.epoch)
          (sym w.start-is)
          (walked_same sets c.loop-i.start c.loop-i.i c.loop-i.session c.loop-i.epoch c.loop-i.invariant row
          c.loop-i-test.true c.index-sets-i.is (sym w.is_of.ensures ∙ w.if-not-is_of.false))
    ]

pub returns-clause-held : goal.returns-clause-held
returns-clause-held c = λ k d few.
    all_held c.args.sets.now c.loop-i.start c.loop-i.i c.loop-i.session c.loop-i.epoch c.loop-i.invariant
    (λ n e behind inside. absurd (omega (arith, behind, inside, c.loop-i-test.false))) k d
    (omega (arith, few, c.loop-i-test.false))
