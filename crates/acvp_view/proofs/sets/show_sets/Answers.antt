use Rattle.std.proofs.Common.{◌≡◌, ◌+◌, ◌*◌, [], arith, refl}
use Rattle.acvp_view.proofs.DecisionLemmas.{shown_next, shown_none}
use Rattle.acvp_view.proofs.EscapeLemmas.{shown_both}
use Rattle.acvp_view.proofs.sets.show_sets.Goals as goal

pub loop-place-init : goal.loop-place-init
loop-place-init g c = (
  shown_none c.args.form g.L.Lines.takes g.T.Tables.meaning g.met.T.Tables.rests c.args.session c.args.tables.now
      c.args.lines.now,
  record { texts = []; taken = refl },
)

pub loop-place-preserved : goal.loop-place-preserved
loop-place-preserved g c = (
  shown_next c.args.form g.L.Lines.takes g.T.Tables.meaning c.in_ok-show_set_at.field-0 c.args.session
      c.loop-place.place (c.args.session * 100 + 1 + c.loop-place.place) (c.loop-place.place + 1) c.args.tables.now
      c.loop-place.tables c.show_set_at.new.tables c.args.lines.now c.loop-place.lines c.show_set_at.new.lines refl refl
      c.loop-place.invariant.0 c.in_ok-show_set_at.ensures.looks c.in_ok-show_set_at.ensures.told,
  shown_both c.args.form g.L.Lines.takes c.args.lines.now c.loop-place.lines c.show_set_at.new.lines
      c.loop-place.invariant.1 c.in_ok-show_set_at.ensures.shown,
)

pub returns-clause-told : goal.returns-clause-told
returns-clause-told g c =
    let all : c.loop-place.place ≡ 20 = omega (arith, c.loop-place.auto.place-end, c.loop-place-test.false) in
    rw all at c.loop-place.invariant.0.1
