use Rattle.std.proofs.Common.{◌∙◌}
use Rattle.acvp_store.proofs.Words.{AreWellNumbered, Content, HoldsRequests, IfOk-weaker, is_under, IsReadable}
use Rattle.acvp_store.proofs.Words.{option_to_list, request_columns, request_key, request_shown, RequestRow}
use Rattle.acvp_store.proofs.RowsMet.{request_met}
use Rattle.acvp_store.proofs.PageRows.{request_found, request_is_at}
use Rattle.acvp_store.proofs.Finding.{is_query, keyed, met_as_found, one_listed, read_as, RequestAt}
use Rattle.acvp_store.proofs.requests.find_whole_request.Goals as goal

pub returns-clause-read : goal.returns-clause-read
returns-clause-read g c =
    read_as c.asked.result c.answered.result _ _ c.answered.ensures.ok
    (c.asked.ensures.read (λ live. (c.requires live).ready) (is_query RequestAt))

pub returns-clause-found : goal.returns-clause-found
returns-clause-found g c live =
    let store = c.requires ((returns-clause-read g c).stays.was_open live) in
    let n = c.args.number in
    IfOk-weaker c.answered.result _ _ (λ row is d sound held. is d sound held ∙ request_is_at n d.requests)
    (one_listed AreWellNumbered (λ d. HoldsRequests _ d.requests) (λ (r : RequestRow). IsReadable r.body)
    request_shown
    c.asked.result (λ v. v.items) c.answered.result (λ (d : Content). keyed request_key n d.requests)
    c.answered.ensures.ok
    c.answered.ensures.found
    (IfOk-weaker c.asked.result _ _
    (λ rows shown d sound held. request_found store.schema.0 n _ c.key.ensures.fits c.key.ensures.too_large _
    _ rows.items store.schema.1 shown d sound held)
    (c.asked.ensures.shown live)))

pub returns-clause-judged : goal.returns-clause-judged
returns-clause-judged g c live low =
    let store = c.requires ((returns-clause-read g c).stays.was_open live) in
    met_as_found (is_under c.args.number) request_columns request_shown _ (λ row x is. is) _ (λ v. v.items)
    option_to_list c.asked.result c.answered.result c.answered.ensures.ok
    c.answered.ensures.judged
    (IfOk-weaker c.asked.result _ _
    (λ rows shown. request_met store.schema.0 c.args.number _ low c.key.ensures.fits _ _ rows.items
    store.schema.1 shown) (c.asked.ensures.shown live))
