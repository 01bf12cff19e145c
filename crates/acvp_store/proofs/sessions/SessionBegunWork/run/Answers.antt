use Rattle.acvp_store.proofs.Words.{state}
use Rattle.acvp_store.proofs.Writings.{SessionAdded, writes}
use Rattle.acvp_store.proofs.MemberRows.{flag_is, add_session_effect}
use Rattle.acvp_store.proofs.sessions.SessionBegunWork.run.Goals as goal

pub returns-clause-inside : goal.returns-clause-inside
returns-clause-inside g c =
    let old = state g.S.Store c.args.tx.now.conn.now in
    let s = c.args.self.now.session.now in
    writes SessionAdded _ _ _ _ (rw (
      c.in_ok-number.ensures.1,
      c.to_sql.ensures,
      c.from.ensures,
      c.to_sql-2.ensures,
      c.sample.ensures,
      flag_is
          s.registration.sample,
      c.in_ok-created.ensures.1,
      c.to_sql-3.ensures,
      c.capabilities.ensures.value,
    ) at
    c.perform.ensures.performed) _ (λ layout. add_session_effect layout old s c.in_ok-number.ensures.0)
