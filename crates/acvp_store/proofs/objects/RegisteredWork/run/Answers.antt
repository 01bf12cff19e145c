use Rattle.acvp_store.proofs.Words.{state}
use Rattle.acvp_store.proofs.Writings.{ObjectRegistered, writes}
use Rattle.acvp_store.proofs.RegisteredObject.{register_effect}
use Rattle.acvp_store.proofs.objects.RegisteredWork.run.Goals as goal

pub returns-clause-inside : goal.returns-clause-inside
returns-clause-inside g c =
    let old = state g.S.Store c.args.tx.now.conn.now in
    writes ObjectRegistered _ _ _ _
    (rw (c.in_ok-request.ensures.1, c.in_ok-number.ensures.1) at c.perform.ensures.performed) _
    (λ layout. register_effect layout old _ _ c.in_ok-number.ensures.0)
