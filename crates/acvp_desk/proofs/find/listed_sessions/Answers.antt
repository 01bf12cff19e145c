use Rattle.std.proofs.Common.{arith}
use Rattle.acvp_tables.specs.State.{session_record}
use Rattle.acvp_desk.specs.Place.{listed_session}
use Rattle.acvp_desk.proofs.WalkedRows.{looks_twice, one_more, all_read}
use Rattle.acvp_desk.proofs.find.listed_sessions.Goals as goal

pub loop-row-preserved : goal.loop-row-preserved
loop-row-preserved g c = (
  looks_twice g.T.Tables.meaning c.loop-row.sessions.items c.in_ok-session.session c.push.new.self.items
      c.args.tables.now c.loop-row.tables c.listed_session.new.tables c.loop-row.invariant.0
      c.in_ok-session.ensures.looks,
  λ live seeds content kept h. let looks = c.in_ok-session.ensures.looks in let up = looks.was_open live in
      one_more (λ row. listed_session content.requests (session_record row)) c.args.rows.now c.loop-row.row-index _
      c.in_ok-session.session
      c.loop-row.sessions.items c.push.new.self.items c.loop-row-test.true
      (c.loop-row.invariant.1 up seeds content kept h)
      (c.in_ok-session.ensures.found live seeds content kept (c.loop-row.invariant.0.same up content h))
      c.in_default.ensures.items,
)

pub returns-clause-found : goal.returns-clause-found
returns-clause-found g c =
    λ live seeds content kept h.
    all_read session_record (listed_session content.requests) c.args.rows.now c.loop-row.row-index
    c.loop-row.sessions.items
    (c.loop-row.invariant.1 live seeds content kept h)
    (omega (arith, c.loop-row-test.false, c.loop-row.auto.row-index-end))
