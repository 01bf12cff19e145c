use Rattle.std.proofs.Common.{◌-◌}
use Rattle.acvp_view.specs.Listed.{account_line}
use Rattle.acvp_view.specs.Lines.{lines_of}
use Rattle.acvp_view.proofs.LineLemmas.{IsToldTo}
use Rattle.acvp_view.proofs.lists.show_accounts.Given as goal

abbrev pub invariant-loop-number : goal.invariant-loop-number
invariant-loop-number g l =
    IsToldTo g.L.Lines.takes g.T.Tables.meaning (λ c number. lines_of (account_line l.form number c)) 1 (l.number - 1)
    l.fn.tables l.tables l.fn.lines l.lines
