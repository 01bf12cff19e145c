use Rattle.acvp_store.proofs.Words.{length, requests_of}
use Rattle.acvp_store.proofs.RowCounts.{requests_counted}
use Rattle.acvp_store.proofs.Finding.{is_query, NewestRequest, read_as, told}
use Rattle.acvp_store.proofs.counts.count_requests.Goals as goal

pub returns-clause-read : goal.returns-clause-read
returns-clause-read g c =
    read_as c.asked.result c.counted.result _ _ c.counted.ensures.ok
    (c.asked.ensures.read (λ live. (c.requires live).ready) (is_query NewestRequest))

pub returns-clause-found : goal.returns-clause-found
returns-clause-found g c live =
    let store = c.requires ((returns-clause-read g c).stays.was_open live) in
    told c.asked.result c.counted.result c.counted.ensures.ok _ _ _ (λ rows found is shown d sound held.
    is (length (requests_of c.args.account d.requests))
    (requests_counted store.schema.0 c.args.account _ _ rows.items store.schema.1
    (rw (c.page_of-at.ensures.first, c.page_of-at.ensures.last) at shown) d sound held))
    c.counted.ensures.found (c.asked.ensures.shown live)
