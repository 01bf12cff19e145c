use Rattle.acvp_store.proofs.Words.{state}
use Rattle.acvp_store.proofs.Writings.{RequestDecided, writes}
use Rattle.acvp_store.proofs.MemberRows.{decide_effect}
use Rattle.acvp_store.proofs.requests.DecidedRequestWork.run.Goals as goal

pub returns-clause-inside : goal.returns-clause-inside
returns-clause-inside g c =
    let old = state g.S.Store c.args.tx.now.conn.now in
    writes RequestDecided _ _ _ _ (rw
    (c.in_ok-number.ensures.1, c.to_sql.ensures, c.status_number.ensures, c.in_ok-approved.ensures) at
    c.perform.ensures.performed) _ (λ layout. decide_effect layout old _ _)
