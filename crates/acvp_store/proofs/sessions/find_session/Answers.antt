use Rattle.std.proofs.Common.{◌∙◌}
use Rattle.acvp_store.proofs.Words.{IfOk-weaker, is_under, option_to_list, session_columns, session_key, session_row}
use Rattle.acvp_store.proofs.Words.{session_shown}
use Rattle.acvp_store.proofs.RowsMet.{session_met}
use Rattle.acvp_store.proofs.MemberRows.{session_rows}
use Rattle.acvp_store.proofs.Finding.{first_kept, is_query, keyed, met_as_found, read_as, SessionAt, told, unread}
use Rattle.acvp_store.proofs.sessions.find_session.Goals as goal

pub returns-clause-read : goal.returns-clause-read
returns-clause-read g c =
    read_as c.asked.result c.answered.result _ _ c.answered.ensures.ok
    (c.asked.ensures.read (λ live. (c.requires live).ready) (is_query SessionAt))

pub returns-clause-found : goal.returns-clause-found
returns-clause-found g c live =
    let store = c.requires ((returns-clause-read g c).stays.was_open live) in
    told c.asked.result c.answered.result c.answered.ensures.ok _ _ _
    (λ rows row is shown list kept. is (keyed session_key c.args.number kept.ordered) (unread _)
    (session_rows store.schema.0 c.args.number _ c.key.ensures.fits c.key.ensures.too_large _ _ rows.items
    store.schema.1 shown list kept)
    ∙ first_kept session_key session_row c.args.number _ list kept)
    c.answered.ensures.found (c.asked.ensures.shown live)

pub returns-clause-judged : goal.returns-clause-judged
returns-clause-judged g c live low =
    let store = c.requires ((returns-clause-read g c).stays.was_open live) in
    met_as_found (is_under c.args.number) session_columns session_shown _ (λ row x is. is) _ (λ v. v.items)
    option_to_list c.asked.result c.answered.result c.answered.ensures.ok
    c.answered.ensures.judged
    (IfOk-weaker c.asked.result _ _
    (λ rows shown. session_met store.schema.0 c.args.number _ low c.key.ensures.fits _ _ rows.items
    store.schema.1 shown) (c.asked.ensures.shown live))
