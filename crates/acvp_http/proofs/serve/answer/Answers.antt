use Rattle.std.proofs.Common.{Some, inl, inr, refl, ap, drop}
use Rattle.acvp_desk.specs.Answer.{spare}
use Rattle.acvp_desk.specs.Request.{request_value}
use Rattle.acvp_http.specs.Asks.{refused, wrong_method}
use Rattle.acvp_http.proofs.HandledLemmas.{handled_at_once, handled_denied, handled_given, told_apart}
use Rattle.acvp_http.proofs.ServeLemmas.{refused_early}
use Rattle.acvp_http.proofs.ToldLemmas.{told_method, told_refused}
use Rattle.acvp_http.proofs.serve.answer.Goals as goal

pub returns-in-Err-clause-handled : goal.returns-in-Err-clause-handled
returns-in-Err-clause-handled g c =
    handled_at_once g.T.Tables.meaning g.met.T.Tables.rests c.args.moment c.args.bytes.now c.args.desk.now
    c.refused_at_once.result.reply (refused_early c.args.moment c.args.bytes.now
    (refused c.in-Err.rule) c.args.date.now c.refused_at_once.result.reply c.requires.served
    (rw c.in-Err.is at c.requires.head) c.requires.dated (ap (λ a. a.reply) c.refused_at_once.ensures))

pub returns-in-Err-clause-told : goal.returns-in-Err-clause-told
returns-in-Err-clause-told g c =
    told_refused c.args.desk.now.tables c.args.desk.now.keys c.args.moment c.args.bytes.now
    c.refused_at_once.result.reply
    c.refused_at_once.result.told (refused_early c.args.moment c.args.bytes.now
    (refused c.in-Err.rule) c.args.date.now c.refused_at_once.result.reply c.requires.served
    (rw c.in-Err.is at c.requires.head) c.requires.dated (ap (λ a. a.reply) c.refused_at_once.ensures))
    c.in-Err.rule (Some c.args.date.now) (ap (λ a. a.reply) c.refused_at_once.ensures)
    (ap (λ a. a.told) c.refused_at_once.ensures)

pub returns-in-Err-ByRule-clause-handled : goal.returns-in-Err-ByRule-clause-handled
returns-in-Err-ByRule-clause-handled g c =
    handled_at_once g.T.Tables.meaning g.met.T.Tables.rests c.args.moment c.args.bytes.now c.args.desk.now
    c.refused_at_once-in-Err-ByRule.result.reply
    (refused_early c.args.moment c.args.bytes.now
    (refused c.in-Err-ByRule.rule) c.args.date.now c.refused_at_once-in-Err-ByRule.result.reply c.requires.served
    (rw c.in-Err-ByRule.field-0-is at c.in-Err-ByRule.ensures) c.requires.dated
    (ap (λ a. a.reply) c.refused_at_once-in-Err-ByRule.ensures))

pub returns-in-Err-ByRule-clause-told : goal.returns-in-Err-ByRule-clause-told
returns-in-Err-ByRule-clause-told g c =
    told_refused c.args.desk.now.tables c.args.desk.now.keys c.args.moment c.args.bytes.now
    c.refused_at_once-in-Err-ByRule.result.reply
    c.refused_at_once-in-Err-ByRule.result.told (refused_early c.args.moment c.args.bytes.now
    (refused c.in-Err-ByRule.rule) c.args.date.now c.refused_at_once-in-Err-ByRule.result.reply c.requires.served
    (rw c.in-Err-ByRule.field-0-is at c.in-Err-ByRule.ensures) c.requires.dated
    (ap (λ a. a.reply) c.refused_at_once-in-Err-ByRule.ensures))
    c.in-Err-ByRule.rule (Some c.args.date.now) (ap (λ a. a.reply) c.refused_at_once-in-Err-ByRule.ensures)
    (ap (λ a. a.told) c.refused_at_once-in-Err-ByRule.ensures)

pub returns-in-Err-WrongMethod-clause-handled : goal.returns-in-Err-WrongMethod-clause-handled
returns-in-Err-WrongMethod-clause-handled g c =
    handled_at_once g.T.Tables.meaning g.met.T.Tables.rests c.args.moment c.args.bytes.now c.args.desk.now
    c.wrong_method.result (refused_early c.args.moment c.args.bytes.now
    (wrong_method c.in-Err-WrongMethod.path) c.args.date.now c.wrong_method.result c.requires.served
    (rw c.in-Err-WrongMethod.field-0-is at c.in-Err-WrongMethod.ensures) c.requires.dated c.wrong_method.ensures)

pub returns-in-Err-WrongMethod-clause-told : goal.returns-in-Err-WrongMethod-clause-told
returns-in-Err-WrongMethod-clause-told g c =
    told_method c.args.desk.now.tables c.args.desk.now.keys c.args.moment c.args.bytes.now c.wrong_method.result
    c.at_once.result
    (refused_early c.args.moment c.args.bytes.now
    (wrong_method c.in-Err-WrongMethod.path) c.args.date.now c.wrong_method.result c.requires.served
    (rw c.in-Err-WrongMethod.field-0-is at c.in-Err-WrongMethod.ensures) c.requires.dated c.wrong_method.ensures)
    c.args.date.now c.in-Err-WrongMethod.path c.wrong_method.ensures c.at_once.ensures

pub returns-in-Given-clause-handled : goal.returns-in-Given-clause-handled
returns-in-Given-clause-handled g c =
    handled_given g.T.Tables.meaning g.met.T.Tables.rests c.args.moment c.args.bytes.now
    (request_value c.in-Ok-parse_request.request)
    (c.requires.served, c.in-Ok-parse_request.ensures) c.args.date.now c.requires.dated c.args.desk.now
    c.handle-reply.new.self c.handle-reply.ensures.keys
    c.handle-reply.result.changed c.accepted.result c.records_are_kept.ensures.start
    (λ keys m r shown is. told_apart is (c.nobody_is_accepted_without_rows.ensures keys m r)) c.in-Given.buffer
    (rw c.in-Given.is at c.handle-reply.ensures.served) c.accepted.ensures

pub returns-in-Given-clause-told : goal.returns-in-Given-clause-told
returns-in-Given-clause-told g c = record {
  shows = (c.args.date.now, drop spare c.in-Given.buffer.items, c.accepted.ensures);
  names = inr (
    request_value c.in-Ok-parse_request.request,
    (c.requires.served, c.in-Ok-parse_request.ensures),
    refl,
    rw c.in-Given.is at c.handle-reply.ensures.named,
  );
}

pub returns-in-Denied-clause-handled : goal.returns-in-Denied-clause-handled
returns-in-Denied-clause-handled g c =
    handled_denied g.T.Tables.meaning g.met.T.Tables.rests c.args.moment c.args.bytes.now
    (request_value c.in-Ok-parse_request.request)
    (c.requires.served, c.in-Ok-parse_request.ensures) c.args.date.now c.requires.dated c.args.desk.now
    c.handle-reply.new.self c.handle-reply.ensures.keys
    c.handle-reply.result.changed c.refusal.result c.in-Denied.rule
    (rw c.in-Denied.is at c.handle-reply.ensures.served) c.refusal.ensures

pub returns-in-Denied-clause-told : goal.returns-in-Denied-clause-told
returns-in-Denied-clause-told g c = record {
  shows = inl (Some c.args.date.now, c.refusal.ensures);
  names = inr (
    request_value c.in-Ok-parse_request.request,
    (c.requires.served, c.in-Ok-parse_request.ensures),
    refl,
    rw c.in-Denied.is at c.handle-reply.ensures.named,
  );
}
