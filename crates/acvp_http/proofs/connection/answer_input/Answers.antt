use Rattle.std.proofs.Common.{[], None, ap, inl}
use Rattle.acvp_policy.specs.declared.rule.Rule.TheVariants.{ClockOutOfRange}
use Rattle.acvp_http.proofs.HandledLemmas.{handled_at_once, shows_handled}
use Rattle.acvp_http.proofs.NeededLemmas.{answers_late, answers_early}
use Rattle.acvp_http.proofs.KnownLemmas.{consumes_nothing}
use Rattle.acvp_http.proofs.ServeLemmas.{refused_late}
use Rattle.acvp_http.proofs.ToldLemmas.{told_refused}
use Rattle.acvp_http.proofs.connection.answer_input.Goals as goal

pub returns-in_default-clause-answered : goal.returns-in_default-clause-answered
returns-in_default-clause-answered g c =
    let handled = handled_at_once g.T.Tables.meaning g.met.T.Tables.rests c.args.moment [] c.args.desk.now
    c.refused_at_once.result.reply (refused_late c.args.moment [] c.refused_at_once.result.reply c.in_default.ensures
    (ap (λ a. a.reply) c.refused_at_once.ensures)) in (
      c.requires,
      answers_late g.T.Tables.meaning c.args.desk.now.keys c.args.moment c.refused_at_once.result.reply
          c.args.desk.now.tables
          c.args.desk.now.tables (g.S.Source.stream c.args.reader.now) c.in_default.ensures handled.served
          (shows_handled g.T.Tables.meaning g.met.T.Tables.rests c.args.moment [] c.refused_at_once.result.reply
          c.args.desk.now c.args.desk.now handled)
          handled.stays_open,
    )

pub returns-in-Ok-clause-answered : goal.returns-in-Ok-clause-answered
returns-in-Ok-clause-answered g c =
    let (clear, consumed, needed, parses) = c.in-Ok.ensures in
    let handled = rw c.deref.ensures.value at c.answer.ensures.handled in (
      clear,
      answers_early g.T.Tables.meaning c.args.desk.now.keys c.args.moment c.answer.result.reply c.args.desk.now.tables
          c.answer.new.desk.tables (g.S.Source.stream c.args.reader.now)
          (g.S.Source.stream c.receive.new.reader) c.in-Ok.field-0.bytes.items
          c.in-Some.ensures.0 consumed needed handled.served
          (shows_handled g.T.Tables.meaning g.met.T.Tables.rests c.args.moment c.in-Ok.field-0.bytes.items
          c.answer.result.reply
          c.args.desk.now c.answer.new.desk handled)
          handled.stays_open,
    )

pub returns-in_default-clause-told : goal.returns-in_default-clause-told
returns-in_default-clause-told g c = inl (
  [],
  consumes_nothing (g.S.Source.stream c.args.reader.now).held,
  told_refused c.args.desk.now.tables c.args.desk.now.keys c.args.moment [] c.refused_at_once.result.reply
      c.refused_at_once.result.told
      (refused_late c.args.moment [] c.refused_at_once.result.reply c.in_default.ensures
      (ap (λ a. a.reply) c.refused_at_once.ensures))
      ClockOutOfRange None (ap (λ a. a.reply) c.refused_at_once.ensures)
      (ap (λ a. a.told) c.refused_at_once.ensures),
)

pub returns-in-Ok-clause-told : goal.returns-in-Ok-clause-told
returns-in-Ok-clause-told g c =
    let (clear, consumed, needed, parses) = c.in-Ok.ensures in
    inl (c.in-Ok.field-0.bytes.items, consumed, rw c.deref.ensures.value at c.answer.ensures.told)
