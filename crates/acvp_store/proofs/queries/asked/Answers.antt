use Rattle.acvp_store.proofs.QueryLeaves.{clean_if_open, failed, reads}
use Rattle.acvp_store.proofs.Told.{told}
use Rattle.acvp_store.proofs.queries.asked.Goals as goal

pub returns-clause-shown : goal.returns-clause-shown
returns-clause-shown g c live =
    let clean = clean_if_open _ _ (g.met.S.Store.shut_if_dirty c.query_all.new.self.store) live in
    told c.query_all.result c.rows_in.result c.rows_in.ensures.ok _ _ _ (λ rows found same shown. rw same shown)
    c.rows_in.ensures.same (c.query_all.ensures.ok clean)

pub returns-clause-refused : goal.returns-clause-refused
returns-clause-refused g c live =
    let clean = clean_if_open _ _ (g.met.S.Store.shut_if_dirty c.query_all.new.self.store) live in
    failed c.query_all.result c.rows_in.result _ c.rows_in.ensures.refused (c.query_all.ensures.err clean)

pub returns-clause-read : goal.returns-clause-read
returns-clause-read g c ready is =
    reads _ _ _ _ (g.met.S.Store.shut_if_dirty c.query_all.new.self.store) ready is c.query_all.ensures.survives
    c.query_all.result (λ v. v.items) c.query_all.ensures.ok c.query_all.ensures.err c.rows_in.result
    c.rows_in.ensures.ok
