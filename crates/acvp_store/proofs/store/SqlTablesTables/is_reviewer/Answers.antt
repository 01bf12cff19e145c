use Rattle.acvp_store.proofs.Words.{Content, IfOk-weaker, is_reviewer}
use Rattle.acvp_store.proofs.KeptPromises.{finds, reads}
use Rattle.acvp_store.proofs.store.SqlTablesTables.is_reviewer.Goals as goal

pub returns-clause-reads : goal.returns-clause-reads
returns-clause-reads g c =
    rw (← c.self.view_is)
    (reads g.S.Store _ _ c.self.invariant (g.met.S.Store.settled _) _ c.find_reviewer.ensures.read)

pub returns-clause-found : goal.returns-clause-found
returns-clause-found g c =
    let old = c.self.inside.connection in
    rw (← c.self.view_is) (finds g.S.Store old c.find_reviewer.new.conn c.find_reviewer.result (λ x. x)
    (λ (content : Content). is_reviewer c.args.session c.args.account content.reviewers)
    (λ live. IfOk-weaker c.find_reviewer.result _ _
    (λ x is layout schema content sound st. is layout schema content.reviewers st.reviewers)
    (c.find_reviewer.ensures.found live)))
