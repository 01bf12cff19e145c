use Rattle.acvp_store.proofs.Words.{state}
use Rattle.acvp_store.proofs.Writings.{SetAdded, writes}
use Rattle.acvp_store.proofs.SetRows.{add_set_effect}
use Rattle.acvp_store.proofs.sets.insert_set.Goals as goal

pub returns-clause-inside : goal.returns-clause-inside
returns-clause-inside g c =
    let old = state g.S.Store c.args.tx.now.conn.now in
    writes SetAdded _ _ _ _ (rw (
      c.in_ok-number.ensures.1,
      c.in_ok-session.ensures.1,
      c.to_sql.ensures,
      c.as_str.ensures.value,
      c.in_ok-epoch.ensures.1,
    ) at c.perform.ensures.performed) _
    (λ layout. add_set_effect layout old _ _ c.args.capability.now _ _ c.in_ok-text.ensures c.in_ok-number.ensures.0)
