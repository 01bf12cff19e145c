use Rattle.acvp_store.proofs.Words.{state}
use Rattle.acvp_store.proofs.Writings.{ReviewerAdded, writes}
use Rattle.acvp_store.proofs.ReviewerRows.{add_reviewer_effect}
use Rattle.acvp_store.proofs.reviewers.ReviewerAddedWork.run.Goals as goal

pub returns-clause-inside : goal.returns-clause-inside
returns-clause-inside g c =
    let old = state g.S.Store c.args.tx.now.conn.now in
    writes ReviewerAdded _ _ _ _ (rw (c.in_ok-session.ensures.1, c.to_sql.ensures, c.from.ensures) at
    c.perform.ensures.performed) _ (λ layout. add_reviewer_effect layout old _ c.in_ok-session.ensures.0)
