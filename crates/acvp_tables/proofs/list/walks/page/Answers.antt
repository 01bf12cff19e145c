use Rattle.std.proofs.Common.{◌∙◌, ◌≡◌, true, false, sym, ap, ◌++◌}
use Rattle.acvp_tables.specs.Content.{page}
use Rattle.acvp_tables.proofs.ListLemmas.{unseen, one_skipped, one_shown}
use Rattle.acvp_tables.proofs.list.walks.page.Goals as goal
use Rattle.acvp_tables.proofs.list.walks.page.Goals.{then-test+then-to_skip-eq0+in_ok-push_shown}
use Rattle.acvp_tables.proofs.list.walks.page.Goals.{then-test+else-to_skip-eq0, else-test}

-- src/list/walks.rt:103:5
pub loop-row-preserved : goal.loop-row-preserved
loop-row-preserved g c = elim c.if-test.branch [
  | then-test+then-to_skip-eq0+in_ok-push_shown w ↦
      let on : g.T.Predicate.passes c.args.test.now c.row-item.result ≡ true = sym c.test.ensures ∙ w.if-test.true in
      let e = one_shown (g.T.Predicate.passes c.args.test.now)
      (g.S.Show.shown c.args.show.now) c.loop-row.found.items c.args.rows.now c.loop-row.row-index
      c.loop-row.to_show c.row-item.result c.loop-row-test.true c.row-item.is on c.if-to_show-eq0.false in
      rw (w.found-is, w.in_ok-push_shown.ensures, w.to_skip-is, w.to_show-is, w.if-to_skip-eq0.true)
      (sym e ∙ (rw w.if-to_skip-eq0.true at c.loop-row.invariant))
  | then-test+else-to_skip-eq0 w ↦
      let on : g.T.Predicate.passes c.args.test.now c.row-item.result ≡ true = sym c.test.ensures ∙ w.if-test.true in
      rw (w.found-is, w.to_skip-is, w.to_show-is)
      (sym (one_skipped (g.T.Predicate.passes c.args.test.now)
      (g.S.Show.shown c.args.show.now) c.loop-row.found.items c.args.rows.now c.loop-row.row-index
      c.loop-row.to_skip c.loop-row.to_show c.row-item.result c.loop-row-test.true c.row-item.is on
      w.if-to_skip-eq0.false) ∙ c.loop-row.invariant)
  | else-test w ↦
      let off : g.T.Predicate.passes c.args.test.now c.row-item.result ≡ false = sym c.test.ensures ∙ w.if-test.false in
      rw (w.found-is, w.to_skip-is, w.to_show-is)
      (ap (λ xs. c.loop-row.found.items ++ page c.loop-row.to_skip c.loop-row.to_show xs)
      (sym (unseen (g.T.Predicate.passes c.args.test.now)
      (g.S.Show.shown c.args.show.now) c.args.rows.now c.loop-row.row-index c.row-item.result c.loop-row-test.true
      c.row-item.is off)) ∙ c.loop-row.invariant)
]
