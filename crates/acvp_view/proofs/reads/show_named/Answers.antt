use Rattle.std.proofs.Common.{subst}
use Rattle.acvp_desk.specs.declared.keys.Keys.{Keys}
use Rattle.acvp_view.specs.Decision.{ShowsRead, part_reads, whole_session_reads}
use Rattle.acvp_view.proofs.DecisionLemmas.{read_both}
use Rattle.acvp_view.proofs.reads.show_named.Goals as goal

pub returns-clause-read : goal.returns-clause-read
returns-clause-read g c =
    let reader = c.args.reader.now in
    let keys = c.args.desk.now.keys in
    let same = c.in_ok-show_whole_session.ensures.keys in
    read_both reader.form g.L.Lines.takes g.T.Tables.meaning c.in_ok-show_whole_session.field-0 c.show_parts.result
    keys.seed c.args.desk.now.tables c.show_whole_session.new.desk.tables c.show_parts.new.desk.tables
    c.args.lines.now c.show_whole_session.new.lines c.show_parts.new.lines
    (whole_session_reads reader.form keys reader.moment reader.bound.now c.args.certification.session)
    (part_reads reader.form keys reader.moment reader.own.now c.args.certification c.args.vendor)
    c.show_parts.ensures.was_clean c.in_ok-show_whole_session.ensures.read (subst (λ (k : Keys). ShowsRead reader.form
    g.L.Lines.takes g.T.Tables.meaning k.seed c.show_parts.result c.show_whole_session.new.desk.tables
    c.show_parts.new.desk.tables c.show_whole_session.new.lines c.show_parts.new.lines
    (part_reads reader.form k reader.moment reader.own.now c.args.certification c.args.vendor)) same
    c.show_parts.ensures.read)
