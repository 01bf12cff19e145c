use Rattle.acvp_store.proofs.Words.{AreWellNumbered, HoldsRequests, IfOk-weaker, PurposeReads}
use Rattle.acvp_store.proofs.Words.{summary_shown}
use Rattle.acvp_store.proofs.PageRows.{request_page}
use Rattle.acvp_store.proofs.Finding.{all_listed, is_query, read_as, RequestPage}
use Rattle.acvp_store.proofs.requests.page_requests.Goals as goal

pub returns-clause-read : goal.returns-clause-read
returns-clause-read g c =
    read_as c.asked.result c.listed.result _ _ c.listed.ensures.ok
    (c.asked.ensures.read (λ live. (c.requires live).ready) (is_query RequestPage))

pub returns-clause-found : goal.returns-clause-found
returns-clause-found g c live =
    let store = c.requires ((returns-clause-read g c).stays.was_open live) in
    all_listed AreWellNumbered (λ d. HoldsRequests _ d.requests) (λ s. PurposeReads s.purpose) summary_shown
    c.asked.result (λ v. v.items) c.listed.result (λ v. v.items) _ c.listed.ensures.ok c.listed.ensures.found
    (IfOk-weaker c.asked.result _ _
    (λ rows shown d sound held. request_page store.schema.0 c.args.account c.args.offset c.args.limit _ _ rows.items
    store.schema.1
    (rw (c.page_of-at.ensures.first, c.page_of-at.ensures.last, c.page_of-at.ensures.limit) at shown) d
    sound held) (c.asked.ensures.shown live))
