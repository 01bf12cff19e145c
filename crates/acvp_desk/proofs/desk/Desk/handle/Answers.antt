use Rattle.acvp_desk.proofs.ServedApart.{served_apart, told_by_seen}
use Rattle.acvp_desk.proofs.desk.Desk.handle.Goals.{in-Ok, in-Err}
use Rattle.acvp_desk.proofs.desk.Desk.handle.Goals as goal

pub returns-clause-served : goal.returns-clause-served
returns-clause-served g c = elim c.match-result.branch [
  | in-Ok w ↦ rw (w.result-is, ← c.self.view_is) (rw w.in-Ok.is at c.serve-result.ensures.served)
  | in-Err w ↦ rw (w.result-is, ← c.self.view_is) (rw w.in-Err.is at c.serve-result.ensures.served)
]

pub returns-clause-apart : goal.returns-clause-apart
returns-clause-apart g c =
    served_apart c.effects_follow.ensures.request c.requests_are_apart.ensures c.nobody_is_answered_alike.ensures.answer
    c.seen_rows_answer.ensures.alike
    c.args.self.now.keys c.args.moment _ g.T.Tables.meaning c.args.self.now.tables c.serve-result.new.tables
    c.match-result.result.reply c.match-result.result.changed (returns-clause-served g c)

pub returns-clause-seen : goal.returns-clause-seen
returns-clause-seen g c =
    told_by_seen c.effects_follow.ensures.request c.requests_are_apart.ensures c.nobody_is_answered_alike.ensures.answer
    c.seen_rows_answer.ensures.alike
    c.args.self.now.keys c.args.moment _ g.T.Tables.meaning c.args.self.now.tables c.serve-result.new.tables
    c.match-result.result.reply c.match-result.result.changed (returns-clause-served g c)
