use Rattle.acvp_store.proofs.Words.{IfOk-weaker, is_under, IsJudgedWhole, IsSummaryOf, option_map, option_to_list}
use Rattle.acvp_store.proofs.Words.{read_columns, read_of, read_shown, set_summary, set_tree, state}
use Rattle.acvp_store.proofs.RowsMet.{set_met, judged_one}
use Rattle.acvp_store.proofs.SetRows.{set_rows, none_told, one_told, find_told}
use Rattle.acvp_store.proofs.Finding.{in_store, is_query, met, read_as, SetAt}
use Rattle.acvp_store.proofs.sets.find_set.Goals as goal

pub returns-clause-read : goal.returns-clause-read
returns-clause-read g c =
    read_as c.asked.result c.summarized.result _ _ (λ ok. c.answered.ensures.ok (c.summarized.ensures.ok ok))
    (c.asked.ensures.read (λ live. (c.requires live).ready) (is_query SetAt))

pub returns-clause-found : goal.returns-clause-found
returns-clause-found g c live =
    let old = state g.S.Store c.args.conn.now in
    in_store c.summarized.result old.now _ (λ layout schema.
    find_told read_of IsSummaryOf (option_map set_summary) none_told one_told c.args.number read_shown (λ s. s)
    (old.now.trees (set_tree layout))
    (λ v. v.items) c.asked.result c.answered.result c.summarized.result c.answered.ensures.ok
    c.summarized.ensures.ok c.answered.ensures.found c.summarized.ensures.told
    (IfOk-weaker c.asked.result _ _
    (λ rows shown. set_rows layout c.args.number _ c.key.ensures.fits c.key.ensures.too_large old _
    rows.items schema shown) (c.asked.ensures.shown live)))

pub returns-clause-judged : goal.returns-clause-judged
returns-clause-judged g c live low =
    let old = state g.S.Store c.args.conn.now in
    in_store c.summarized.result old.now _ (λ layout schema.
    met (is_under c.args.number) read_columns read_shown _ (λ row x is. is) IsJudgedWhole
    (old.now.trees (set_tree layout))
    (λ v. v.items) option_to_list c.asked.result c.answered.result c.summarized.result c.answered.ensures.ok
    c.summarized.ensures.ok c.answered.ensures.judged
    (IfOk-weaker c.summarized.result _ _
    (λ told tells. IfOk-weaker c.answered.result _ _ (λ found is. judged_one found told is) tells)
    c.summarized.ensures.told)
    (IfOk-weaker c.asked.result _ _
    (λ rows shown. set_met layout c.args.number _ low c.key.ensures.fits old _ rows.items schema
    shown) (c.asked.ensures.shown live)))
