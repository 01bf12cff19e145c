use Rattle.acvp_http.proofs.AnsweredApart.{taken_apart}
use Rattle.acvp_http.proofs.HandledLemmas.{handled_at_once}
use Rattle.acvp_http.proofs.ServeLemmas.{refused_late}
use Rattle.acvp_http.proofs.serve.handle_bytes.Goals as goal

pub returns-in-Some-clause-apart : goal.returns-in-Some-clause-apart
returns-in-Some-clause-apart g c =
    taken_apart g.T.Tables.meaning c.request_isolation.ensures c.args.desk.now.keys c.args.moment c.args.bytes.now
    c.answer.result.reply
    c.args.desk.now.tables c.answer.new.desk.tables c.answer.ensures.handled.served

pub returns-in-None-clause-handled : goal.returns-in-None-clause-handled
returns-in-None-clause-handled g c =
    handled_at_once g.T.Tables.meaning g.met.T.Tables.rests c.args.moment c.args.bytes.now c.args.desk.now
    c.refusal.result (refused_late c.args.moment c.args.bytes.now c.refusal.result c.in-None.ensures c.refusal.ensures)

pub returns-in-None-clause-apart : goal.returns-in-None-clause-apart
returns-in-None-clause-apart g c =
    let handled = handled_at_once g.T.Tables.meaning g.met.T.Tables.rests c.args.moment c.args.bytes.now c.args.desk.now
    c.refusal.result (refused_late c.args.moment c.args.bytes.now c.refusal.result c.in-None.ensures
    c.refusal.ensures) in
    taken_apart g.T.Tables.meaning c.request_isolation.ensures c.args.desk.now.keys c.args.moment c.args.bytes.now
    c.refusal.result
    c.args.desk.now.tables c.args.desk.now.tables handled.served
