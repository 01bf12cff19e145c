use Rattle.acvp_store.proofs.KeptPromises.{reads}
use Rattle.acvp_store.proofs.store.SqlTablesTables.requests.Goals as goal

pub returns-clause-reads : goal.returns-clause-reads
returns-clause-reads g c =
    rw (← c.self.view_is)
    (reads g.S.Store _ _ c.self.invariant (g.met.S.Store.settled _) _ c.page_requests.ensures.read)
