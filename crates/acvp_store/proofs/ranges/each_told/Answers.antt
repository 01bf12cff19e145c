use Rattle.std.proofs.Common.{rules, ◌≡◌, ℤ, [], ◌∷◌, ◌++◌, Some, slice_get, sym, ap, subst, ◌∙◌}
use Rattle.acvp_store.proofs.Words.{BeginsWith, HasStray, slice_get-get_or, Stray, take_more, zip_push}
use Rattle.acvp_store.proofs.ranges.each_told.Goals as goal

pub loop-row-preserved : goal.loop-row-preserved
loop-row-preserved g c =
    let items : c.push.new.self.items ≡ c.loop-row.found.items ++ c.in_ok-value.value ∷ [] = search rules in
    rw (items, take_more c.args.rows.now c.loop-row.row-index c.row-item.result c.loop-row-test.true)
    (zip_push (λ row x. BeginsWith (g.T.Member.shown x) row × g.T.Member.judged_so x) _ _ _ _ c.loop-row.invariant
    (subst (λ r. BeginsWith (g.T.Member.shown c.in_ok-value.value) r
    × g.T.Member.judged_so c.in_ok-value.value) c.row-item.is c.in_ok-value.ensures.judged))

pub returns-in_err-value-clause-stray : goal.returns-in_err-value-clause-stray
returns-in_err-value-clause-stray g c =
    let at : slice_get c.args.rows.now c.loop-row.row-index ≡ Some c.row-item.result =
    slice_get-get_or c.args.rows.now c.loop-row.row-index c.row-item.result c.loop-row-test.true
    ∙ ap Some (sym c.row-item.is) in
    let there : (number : ℤ) → c.in_err-value.field-0.0 ≡ Stray number
    → HasStray (λ x. g.T.Member.reads x × g.T.Member.fits x) g.T.Member.shown c.args.at number c.args.rows.now =
    λ number is. (c.loop-row.row-index, c.row-item.result, at, c.in_err-value.ensures.stray number is) in
    search rules
