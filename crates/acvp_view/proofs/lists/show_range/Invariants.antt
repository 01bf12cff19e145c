use Rattle.acvp_view.specs.Listed.{request_line}
use Rattle.acvp_view.specs.Lines.{lines_of}
use Rattle.acvp_view.proofs.LineLemmas.{IsToldTo}
use Rattle.acvp_view.proofs.lists.show_range.Given as goal

abbrev pub invariant-loop-place : goal.invariant-loop-place
invariant-loop-place g l =
    IsToldTo g.L.Lines.takes g.T.Tables.meaning (λ c number. lines_of (request_line l.form l.all number c)) l.first
    l.place l.fn.tables l.tables l.fn.lines l.lines
