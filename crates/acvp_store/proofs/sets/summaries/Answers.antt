use Rattle.std.proofs.Common.{rules, ◌≡◌, [], ◌∷◌, ◌++◌, Some, slice_get, sym, ap, subst, ◌∙◌}
use Rattle.acvp_store.proofs.Words.{HasUnjudged, IsSummary, slice_get-get_or, StoreFault}
use Rattle.acvp_store.proofs.Told.{told_more}
use Rattle.acvp_store.proofs.sets.summaries.Goals as goal

pub loop-set-preserved : goal.loop-set-preserved
loop-set-preserved c =
    let items : c.push.new.self.items ≡ c.loop-set.told.items ++ c.in_ok-one.one ∷ [] = search rules in
    told_more IsSummary c.args.sets.now c.loop-set.told.items c.push.new.self.items c.loop-set.set-index
    c.set-item.result c.in_ok-one.one items c.loop-set-test.true c.loop-set.invariant
    (subst (λ s. IsSummary s c.in_ok-one.one) c.set-item.is c.in_ok-one.ensures.told)

pub returns-in_err-one-clause-refused : goal.returns-in_err-one-clause-refused
returns-in_err-one-clause-refused c =
    let there : slice_get c.args.sets.now c.loop-set.set-index ≡ Some c.set-item.result =
    slice_get-get_or c.args.sets.now c.loop-set.set-index c.set-item.result c.loop-set-test.true
    ∙ ap Some (sym c.set-item.is) in
    let unjudged : c.in_err-one.field-0.0 ≡ StoreFault.Refused → HasUnjudged c.args.sets.now =
    λ is. record {
      place = c.loop-set.set-index;
      columns = c.set-item.result;
      there = there;
      of_none =
          c.in_err-one.ensures.refused is;
    } in
    search rules
