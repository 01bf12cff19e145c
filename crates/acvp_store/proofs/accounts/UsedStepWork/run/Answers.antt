use Rattle.acvp_store.proofs.Words.{state}
use Rattle.acvp_store.proofs.Writings.{StepUsed, writes}
use Rattle.acvp_store.proofs.MemberRows.{step_effect}
use Rattle.acvp_store.proofs.accounts.UsedStepWork.run.Goals as goal

pub returns-clause-inside : goal.returns-clause-inside
returns-clause-inside g c =
    let old = state g.S.Store c.args.tx.now.conn.now in
    writes StepUsed _ _ _ _ (rw (c.to_sql.ensures, c.from.ensures, c.in_ok-step.ensures.1) at
    c.perform.ensures.performed) _ (λ layout. step_effect layout old _ _)
