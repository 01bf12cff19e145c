use Rattle.std.proofs.Common.{[], codes}
use Rattle.acvp_desk.specs.declared.wish.SessionWish.TheVariants.{Read, Results}
use Rattle.acvp_view.specs.Decision.{session_reads}
use Rattle.acvp_view.proofs.DecisionLemmas.{read_both}
use Rattle.acvp_view.proofs.reads.show_whole_session.Goals as goal

pub returns-clause-read : goal.returns-clause-read
returns-clause-read g c =
    let reader = c.args.reader.now in
    let keys = c.args.desk.now.keys in
    let same = c.in_ok-show_session.ensures.keys in
    read_both reader.form g.L.Lines.takes g.T.Tables.meaning c.in_ok-show_session.field-0 c.show_session-2.result
    keys.seed c.args.desk.now.tables c.show_session.new.desk.tables c.show_session-2.new.desk.tables c.args.lines.now
    c.show_session.new.lines c.show_session-2.new.lines
    (session_reads reader.form keys reader.moment reader.bound.now c.args.session [] Read)
    (session_reads reader.form keys reader.moment reader.bound.now c.args.session (codes "/results") Results)
    c.show_session-2.ensures.was_clean c.in_ok-show_session.ensures.read (rw same at c.show_session-2.ensures.read)
