use Rattle.acvp_store.proofs.Words.{state}
use Rattle.acvp_store.proofs.Writings.{AccountDisabled, writes}
use Rattle.acvp_store.proofs.MemberRows.{disable_effect}
use Rattle.acvp_store.proofs.accounts.DisabledAccountWork.run.Goals as goal

pub returns-clause-inside : goal.returns-clause-inside
returns-clause-inside g c =
    let old = state g.S.Store c.args.tx.now.conn.now in
    writes AccountDisabled _ _ _ _ (rw (c.to_sql.ensures, c.from.ensures) at c.perform.ensures.performed) _
    (λ layout. disable_effect layout old _)
