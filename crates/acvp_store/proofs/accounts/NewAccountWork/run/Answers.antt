use Rattle.std.proofs.Common.{◌<◌, ◌^◌, arith}
use Rattle.acvp_store.proofs.Words.{state}
use Rattle.acvp_store.proofs.Writings.{AccountAdded, writes}
use Rattle.acvp_store.proofs.MemberRows.{add_effect}
use Rattle.acvp_store.proofs.accounts.NewAccountWork.run.Goals as goal

pub returns-clause-inside : goal.returns-clause-inside
returns-clause-inside g c =
    let old = state g.S.Store c.args.tx.now.conn.now in
    let a = c.args.self.now in
    let low : a.account < 2 ^ 63 = omega (arith, c.from.ensures) in
    writes AccountAdded _ _ _ _ (rw (c.to_sql.ensures, c.to_sql-2.ensures, c.as_slice.ensures, c.from.ensures) at
    c.perform.ensures.performed) _ (λ layout. add_effect layout old a low)
