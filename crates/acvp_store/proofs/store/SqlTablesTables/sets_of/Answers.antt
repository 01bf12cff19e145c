use Rattle.acvp_store.proofs.Words.{Content, IfOk-weaker, live_sets, map, set_summary}
use Rattle.acvp_store.proofs.KeptPromises.{finds, reads}
use Rattle.acvp_store.proofs.store.SqlTablesTables.sets_of.Goals as goal

pub returns-clause-reads : goal.returns-clause-reads
returns-clause-reads g c =
    rw (← c.self.view_is) (reads g.S.Store _ _ c.self.invariant (g.met.S.Store.settled _) _ c.find_sets.ensures.read)

pub returns-clause-found : goal.returns-clause-found
returns-clause-found g c =
    let old = c.self.inside.connection in
    rw (← c.self.view_is) (finds g.S.Store old c.find_sets.new.conn c.find_sets.result (λ v. v.items)
    (λ (content : Content). map set_summary (live_sets c.args.session content.sets))
    (λ live. IfOk-weaker c.find_sets.result _ _
    (λ x is layout schema content sound st. is layout schema content sound st.sets)
    (c.find_sets.ensures.found live)))
