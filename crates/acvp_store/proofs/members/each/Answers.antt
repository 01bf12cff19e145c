use Rattle.std.proofs.Common.{rules, ◌≡◌, [], ◌∷◌, ◌++◌, Some, slice_get, sym, ap, subst, ◌∙◌}
use Rattle.acvp_store.proofs.Words.{BeginsWith, HasOneOfNone, IsRowOf, slice_get-get_or, StoreFault, take_more}
use Rattle.acvp_store.proofs.Words.{zip_push}
use Rattle.acvp_store.proofs.members.each.Goals as goal

pub loop-row-preserved : goal.loop-row-preserved
loop-row-preserved g c =
    let items : c.push.new.self.items ≡ c.loop-row.found.items ++ c.in_ok-value.value ∷ [] = search rules in
    rw (items, take_more c.args.rows.now c.loop-row.row-index c.row-item.result c.loop-row-test.true) (
      zip_push (IsRowOf g.T.Member.reads g.T.Member.shown) _ _ _ _ c.loop-row.invariant.0
          (subst (λ r. IsRowOf g.T.Member.reads g.T.Member.shown r c.in_ok-value.value) c.row-item.is
          c.in_ok-value.ensures.known),
      zip_push (λ row x. BeginsWith (g.T.Member.shown x) row
          × g.T.Member.judged_so x) _ _ _ _ c.loop-row.invariant.1
          (subst (λ r. BeginsWith (g.T.Member.shown c.in_ok-value.value) r
          × g.T.Member.judged_so c.in_ok-value.value) c.row-item.is c.in_ok-value.ensures.judged),
    )

pub returns-in_err-value-clause-refused : goal.returns-in_err-value-clause-refused
returns-in_err-value-clause-refused g c =
    let at : slice_get c.args.rows.now c.loop-row.row-index ≡ Some c.row-item.result =
    slice_get-get_or c.args.rows.now c.loop-row.row-index c.row-item.result c.loop-row-test.true
    ∙ ap Some (sym c.row-item.is) in
    let none : c.in_err-value.field-0.0 ≡ StoreFault.Refused
    → HasOneOfNone (λ x. g.T.Member.reads x × g.T.Member.fits x) g.T.Member.shown c.args.rows.now =
    λ is. (c.loop-row.row-index, c.row-item.result, at, c.in_err-value.ensures.refused is) in
    search rules
