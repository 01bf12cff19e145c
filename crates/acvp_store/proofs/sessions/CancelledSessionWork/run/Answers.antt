use Rattle.acvp_store.proofs.Words.{state}
use Rattle.acvp_store.proofs.Writings.{SessionCancelled, writes}
use Rattle.acvp_store.proofs.MemberRows.{cancel_effect}
use Rattle.acvp_store.proofs.sessions.CancelledSessionWork.run.Goals as goal

pub returns-clause-inside : goal.returns-clause-inside
returns-clause-inside g c =
    let old = state g.S.Store c.args.tx.now.conn.now in
    writes SessionCancelled _ _ _ _ (rw c.in_ok-number.ensures.1 at c.perform.ensures.performed) _
    (λ layout. cancel_effect layout old _)
