use Rattle.std.proofs.Common.{rules, ◌≡◌, ℤ, [], ◌∷◌, ◌++◌, Some, slice_get, sym, ap, subst, ◌∙◌}
use Rattle.acvp_store.proofs.Words.{HasStraySet, IsSet, slice_get-get_or, Stray}
use Rattle.acvp_store.proofs.Told.{told_more}
use Rattle.acvp_store.proofs.set_ranges.sets_told.Goals as goal

pub loop-set-preserved : goal.loop-set-preserved
loop-set-preserved c =
    let items : c.push.new.self.items ≡ c.loop-set.told.items ++ c.in_ok-row.row ∷ [] = search rules in
    told_more IsSet c.args.sets.now c.loop-set.told.items c.push.new.self.items c.loop-set.set-index c.set-item.result
    c.in_ok-row.row items c.loop-set-test.true c.loop-set.invariant
    (subst (λ s. IsSet s c.in_ok-row.row) c.set-item.is c.in_ok-row.ensures.told)

pub returns-in_err-row-clause-stray : goal.returns-in_err-row-clause-stray
returns-in_err-row-clause-stray c =
    let there : slice_get c.args.sets.now c.loop-set.set-index ≡ Some c.set-item.result =
    slice_get-get_or c.args.sets.now c.loop-set.set-index c.set-item.result c.loop-set-test.true
    ∙ ap Some (sym c.set-item.is) in
    let stray : (number : ℤ) → c.in_err-row.field-0.0 ≡ Stray number → HasStraySet number c.args.sets.now =
    λ number is. record {
      place = c.loop-set.set-index;
      columns = c.set-item.result;
      there = there;
      is =
          (c.in_err-row.ensures.stray number is).0;
      of_none = (c.in_err-row.ensures.stray number is).1;
    } in
    search rules
