use Rattle.acvp_store.proofs.Words.{account_columns, account_key, account_row, account_shown, IfOk-weaker, is_under}
use Rattle.acvp_store.proofs.Words.{option_to_list, whole}
use Rattle.std.proofs.Common.{◌∙◌, refl, arith}
use Rattle.acvp_store.proofs.RowsMet.{account_met}
use Rattle.acvp_store.proofs.MemberRows.{account_rows}
use Rattle.acvp_store.proofs.Finding.{AccountAt, first_kept, is_query, keyed, met_as_found, read_as, told, unread}
use Rattle.acvp_store.proofs.accounts.find_account.Goals as goal

pub returns-clause-read : goal.returns-clause-read
returns-clause-read g c =
    read_as c.asked.result c.answered.result _ _ c.answered.ensures.ok
    (c.asked.ensures.read (λ live. (c.requires live).ready) (is_query AccountAt))

pub returns-clause-found : goal.returns-clause-found
returns-clause-found g c live =
    let store = c.requires ((returns-clause-read g c).stays.was_open live) in
    told c.asked.result c.answered.result c.answered.ensures.ok _ _ _
    (λ rows row is shown list kept. is (keyed account_key c.args.number kept.ordered) (unread _)
    (account_rows store.schema.0 c.args.number _ _ rows.items store.schema.1
    (rw (c.to_sql.ensures, c.from.ensures) at shown) list kept) ∙ first_kept account_key account_row
    c.args.number _ list kept)
    c.answered.ensures.found (c.asked.ensures.shown live)

pub returns-clause-judged : goal.returns-clause-judged
returns-clause-judged g c live =
    let store = c.requires ((returns-clause-read g c).stays.was_open live) in
    met_as_found (is_under c.args.number) account_columns account_shown _ (λ row x is. is) _ (λ v. v.items)
    option_to_list c.asked.result c.answered.result c.answered.ensures.ok
    c.answered.ensures.judged
    (IfOk-weaker c.asked.result _ _
    (λ rows shown. account_met store.schema.0 c.args.number (whole c.args.number) (omega arith) (λ _. refl) _ _
    rows.items
    store.schema.1 (rw (c.to_sql.ensures, c.from.ensures) at shown)) (c.asked.ensures.shown live))
