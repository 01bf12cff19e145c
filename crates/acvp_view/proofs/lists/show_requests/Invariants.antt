use Rattle.std.proofs.Common.{◌-◌}
use Rattle.acvp_view.specs.Listed.{request_lines_of}
use Rattle.acvp_view.proofs.LineLemmas.{IsToldTo}
use Rattle.acvp_view.proofs.lists.show_requests.Given as goal

abbrev pub invariant-loop-account : goal.invariant-loop-account
invariant-loop-account g l =
    IsToldTo g.L.Lines.takes g.T.Tables.meaning (request_lines_of l.form l.all) 1 (l.account - 1) l.fn.tables l.tables
    l.fn.lines l.lines
