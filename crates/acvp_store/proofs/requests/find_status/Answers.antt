use Rattle.std.proofs.Common.{◌∙◌}
use Rattle.acvp_store.proofs.Words.{IfOk-weaker, is_under, option_to_list, status_columns, status_shown}
use Rattle.acvp_store.proofs.RowsMet.{status_met}
use Rattle.acvp_store.proofs.PageRows.{statuses, status_rows, status_of}
use Rattle.acvp_store.proofs.Finding.{is_query, met_as_found, read_as, StatusAt, told, unread}
use Rattle.acvp_store.proofs.requests.find_status.Goals as goal

pub returns-clause-read : goal.returns-clause-read
returns-clause-read g c =
    read_as c.asked.result c.answered.result _ _ c.answered.ensures.ok
    (c.asked.ensures.read (λ live. (c.requires live).ready) (is_query StatusAt))

pub returns-clause-found : goal.returns-clause-found
returns-clause-found g c live =
    let store = c.requires ((returns-clause-read g c).stays.was_open live) in
    let n = c.args.number in
    told c.asked.result c.answered.result c.answered.ensures.ok _ _ _
    (λ rows row is shown requests held. is (statuses n requests) (unread _)
    (status_rows store.schema.0 n _ c.key.ensures.fits c.key.ensures.too_large _ _ rows.items store.schema.1
    shown requests held) ∙ status_of n requests)
    c.answered.ensures.found (c.asked.ensures.shown live)

pub returns-clause-judged : goal.returns-clause-judged
returns-clause-judged g c live low =
    let store = c.requires ((returns-clause-read g c).stays.was_open live) in
    met_as_found (is_under c.args.number) status_columns status_shown _ (λ row x is. is) _ (λ v. v.items)
    option_to_list
    c.asked.result c.answered.result c.answered.ensures.ok c.answered.ensures.judged
    (IfOk-weaker c.asked.result _ _
    (λ rows shown. status_met store.schema.0 c.args.number _ low c.key.ensures.fits _ _ rows.items
    store.schema.1 shown) (c.asked.ensures.shown live))
