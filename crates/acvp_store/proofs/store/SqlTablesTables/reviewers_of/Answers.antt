use Rattle.acvp_store.proofs.Words.{Content, IfOk-weaker, reviewers_of}
use Rattle.acvp_store.proofs.KeptPromises.{finds, reads}
use Rattle.acvp_store.proofs.store.SqlTablesTables.reviewers_of.Goals as goal

pub returns-clause-reads : goal.returns-clause-reads
returns-clause-reads g c =
    rw (← c.self.view_is)
    (reads g.S.Store _ _ c.self.invariant (g.met.S.Store.settled _) _ c.find_reviewers.ensures.read)

pub returns-clause-found : goal.returns-clause-found
returns-clause-found g c =
    let old = c.self.inside.connection in
    rw (← c.self.view_is) (finds g.S.Store old c.find_reviewers.new.conn c.find_reviewers.result (λ v. v.items)
    (λ (content : Content). reviewers_of c.args.session content.reviewers)
    (λ live. IfOk-weaker c.find_reviewers.result _ _
    (λ x is layout schema content sound st. is layout schema content sound st.reviewers)
    (c.find_reviewers.ensures.found live)))
