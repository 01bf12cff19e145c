use Rattle.acvp_store.proofs.Words.{state}
use Rattle.acvp_store.proofs.Writings.{SetCancelled, writes}
use Rattle.acvp_store.proofs.SetRows.{cancel_set_effect}
use Rattle.acvp_store.proofs.sets.SetCancelledWork.run.Goals as goal

pub returns-clause-inside : goal.returns-clause-inside
returns-clause-inside g c =
    let old = state g.S.Store c.args.tx.now.conn.now in
    writes SetCancelled _ _ _ _ (rw c.in_ok-number.ensures.1 at c.perform.ensures.performed) _
    (λ layout. cancel_set_effect layout old _)
