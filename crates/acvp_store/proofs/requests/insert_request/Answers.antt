use Rattle.acvp_store.proofs.Words.{state}
use Rattle.acvp_store.proofs.Writings.{RequestAdded, writes}
use Rattle.acvp_store.proofs.MemberRows.{add_request_effect}
use Rattle.acvp_store.proofs.requests.insert_request.Goals as goal

pub returns-clause-inside : goal.returns-clause-inside
returns-clause-inside g c row is =
    let old = state g.S.Store c.args.tx.now.conn.now in
    writes RequestAdded _ _ _ _ (rw
    (c.in_ok-number.ensures.1, c.to_sql.ensures, c.from.ensures, c.to_sql-2.ensures, c.to_sql-3.ensures) at
    c.perform.ensures.performed) _ (λ layout. add_request_effect layout old row _ _ _ _ is c.in_ok-number.ensures.0)
