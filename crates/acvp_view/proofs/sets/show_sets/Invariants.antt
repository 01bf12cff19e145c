use Rattle.acvp_view.specs.Escaped.{HandsOnShown}
use Rattle.acvp_view.proofs.DecisionLemmas.{IsShownTo}
use Rattle.acvp_view.proofs.sets.show_sets.Given as goal

abbrev pub invariant-loop-place : goal.invariant-loop-place
invariant-loop-place g l =
    IsShownTo l.form g.L.Lines.takes g.T.Tables.meaning l.session l.place l.fn.tables l.tables l.fn.lines l.lines
    × HandsOnShown l.fn.form g.L.Lines.takes l.fn.lines l.lines
