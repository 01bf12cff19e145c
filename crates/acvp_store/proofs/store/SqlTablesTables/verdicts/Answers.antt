use Rattle.acvp_store.proofs.Words.{Content, IfOk-weaker, option_and_then, option_map, set_at, set_verdicts}
use Rattle.acvp_store.proofs.KeptPromises.{finds, reads}
use Rattle.acvp_store.proofs.store.SqlTablesTables.verdicts.Goals as goal

pub returns-clause-reads : goal.returns-clause-reads
returns-clause-reads g c =
    rw (← c.self.view_is)
    (reads g.S.Store _ _ c.self.invariant (g.met.S.Store.settled _) _ c.find_verdicts.ensures.read)

pub returns-clause-found : goal.returns-clause-found
returns-clause-found g c =
    let old = c.self.inside.connection in
    rw (← c.self.view_is) (finds g.S.Store old c.find_verdicts.new.conn c.find_verdicts.result
    (option_map (λ v. v.items))
    (λ (content : Content). option_and_then set_verdicts (set_at c.args.set content.sets))
    (λ live. IfOk-weaker c.find_verdicts.result _ _
    (λ x is layout schema content sound st. is layout schema content.sets st.sets)
    (c.find_verdicts.ensures.found live)))
