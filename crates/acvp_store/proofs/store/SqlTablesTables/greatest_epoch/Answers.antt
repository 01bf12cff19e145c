use Rattle.acvp_store.proofs.Words.{Content, greatest_epoch_of, IfOk-weaker}
use Rattle.acvp_store.proofs.KeptPromises.{finds, reads}
use Rattle.acvp_store.proofs.store.SqlTablesTables.greatest_epoch.Goals as goal

pub returns-clause-reads : goal.returns-clause-reads
returns-clause-reads g c =
    rw (← c.self.view_is) (reads g.S.Store _ _ c.self.invariant (g.met.S.Store.settled _) _ c.find_epoch.ensures.read)

pub returns-clause-found : goal.returns-clause-found
returns-clause-found g c =
    let old = c.self.inside.connection in
    rw (← c.self.view_is) (finds g.S.Store old c.find_epoch.new.conn c.find_epoch.result (λ x. x)
    (λ (content : Content). greatest_epoch_of content.sets)
    (λ live. IfOk-weaker c.find_epoch.result _ _
    (λ x is layout schema content sound st. is layout schema content.sets st.sets)
    (c.find_epoch.ensures.found live)))
