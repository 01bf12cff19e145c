use Rattle.std.proofs.Common.{[], ◌∷◌, arith, subst}
use Rattle.std.specs.List.{AllZip}
use Rattle.acvp_desk.proofs.FoundRows.{all_taken}
use Rattle.acvp_tables.specs.Content.{live_sets}
use Rattle.acvp_view.specs.Certified.{IsCertifiedSet}
use Rattle.acvp_view.proofs.CertifiedLemmas.{one_row_more}
use Rattle.acvp_view.proofs.certified.certified_sets.Goals as goal

pub loop-row-preserved : goal.loop-row-preserved
loop-row-preserved c =
    let (added, is, here) = c.in_ok-add_certified.ensures in
    one_row_more (IsCertifiedSet c.args.seeds.now) c.args.session c.args.rows.now c.loop-row.row-index c.row-item.result
    c.loop-row.sets.items c.add_certified.new.sets.items added
    c.loop-row-test.true c.loop-row.invariant is
    (subst (λ row. AllZip (IsCertifiedSet c.args.seeds.now) (live_sets c.args.session (row ∷ [])) added)
    c.row-item.is here)

pub returns : goal.returns
returns c = subst (λ rows.
    AllZip (IsCertifiedSet c.args.seeds.now) (live_sets c.args.session rows) c.loop-row.sets.items)
    (all_taken c.loop-row.row-index c.args.rows.now
    (omega (arith, c.loop-row-test.false, c.loop-row.auto.row-index-end))) c.loop-row.invariant
