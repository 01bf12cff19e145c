use Rattle.acvp_store.proofs.Words.{state}
use Rattle.acvp_store.proofs.Writings.{SessionPassed, writes}
use Rattle.acvp_store.proofs.MemberRows.{pass_effect}
use Rattle.acvp_store.proofs.sessions.PassedSessionWork.run.Goals as goal

pub returns-clause-inside : goal.returns-clause-inside
returns-clause-inside g c =
    let old = state g.S.Store c.args.tx.now.conn.now in
    writes SessionPassed _ _ _ _ (rw (c.in_ok-number.ensures.1, c.in_ok-passed.ensures.1) at
    c.perform.ensures.performed) _ (λ layout. pass_effect layout old _ _)
