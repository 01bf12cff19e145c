use Rattle.std.proofs.Common.{◌+◌, refl, arith}
use Rattle.acvp_view.specs.Listed.{request_line}
use Rattle.acvp_view.specs.Lines.{lines_of}
use Rattle.std.proofs.lemmas.Result.{err_from_is_err_and}
use Rattle.acvp_view.proofs.LineLemmas.{told_fault, told_next, told_whole}
use Rattle.acvp_view.proofs.lists.show_range.Goals as goal

pub loop-place-preserved : goal.loop-place-preserved
loop-place-preserved g c =
    told_next g.L.Lines.takes g.T.Tables.meaning
    (λ content number. lines_of (request_line c.args.form c.args.all number content)) c.args.first c.loop-place.place
    (c.args.first + c.loop-place.place) (c.loop-place.place + 1) c.in_ok-show_numbered.field-0
    c.args.tables.now c.loop-place.tables c.show_numbered.new.tables c.args.lines.now c.loop-place.lines
    c.show_numbered.new.lines
    refl refl c.loop-place.invariant c.in_ok-show_numbered.ensures.looks c.in_ok-show_numbered.ensures.told

pub returns-in_err-show_numbered-clause-told : goal.returns-in_err-show_numbered-clause-told
returns-in_err-show_numbered-clause-told g c =
    let (fault, is, same) = err_from_is_err_and c.from_residual.result c.from_residual.ensures.1 in
    told_fault g.L.Lines.takes g.T.Tables.meaning c.from_residual.result
    (λ content number. lines_of (request_line c.args.form c.args.all number content)) c.args.first c.loop-place.place
    (c.args.first + c.loop-place.place) c.args.count c.in_err-show_numbered.field-0.0 fault
    c.args.tables.now c.loop-place.tables c.show_numbered.new.tables c.args.lines.now c.loop-place.lines
    c.show_numbered.new.lines
    is refl (omega (arith, c.loop-place-test.true)) c.loop-place.invariant c.in_err-show_numbered.ensures.looks
    c.in_err-show_numbered.ensures.told

pub returns-clause-told : goal.returns-clause-told
returns-clause-told g c =
    told_whole g.L.Lines.takes g.T.Tables.meaning
    (λ content number. lines_of (request_line c.args.form c.args.all number content)) c.args.first c.loop-place.place
    c.args.count _ c.args.tables.now c.loop-place.tables
    c.args.lines.now c.loop-place.lines
    (omega (arith, c.loop-place.auto.place-end, c.loop-place-test.false)) c.loop-place.invariant
