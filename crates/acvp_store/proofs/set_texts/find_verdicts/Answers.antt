use Rattle.acvp_store.proofs.Words.{IfOk-weaker, option_and_then, option_map, set_tree, set_verdicts, SetColumns}
use Rattle.acvp_store.proofs.Words.{state, TellsVerdicts, text_shown}
use Rattle.acvp_store.proofs.SetRows.{verdict_rows, verdicts_told, find_told}
use Rattle.acvp_store.proofs.Finding.{in_store, is_query, read_as, VerdictsAt}
use Rattle.acvp_store.proofs.set_texts.find_verdicts.Goals as goal

pub returns-clause-read : goal.returns-clause-read
returns-clause-read g c =
    read_as c.asked.result c.verdicts_in.result _ _ (λ ok. c.answered.ensures.ok (c.verdicts_in.ensures.ok ok))
    (c.asked.ensures.read (λ live. (c.requires live).ready) (is_query VerdictsAt))

pub returns-clause-found : goal.returns-clause-found
returns-clause-found g c live =
    let old = state g.S.Store c.args.conn.now in
    in_store c.verdicts_in.result old.now _ (λ layout schema.
    find_told (λ (c : SetColumns). c.verdicts) TellsVerdicts (option_and_then set_verdicts)
    (λ y e. e) verdicts_told c.args.number text_shown (option_map (λ v. v.items)) (old.now.trees (set_tree layout))
    (λ v. v.items) c.asked.result c.answered.result c.verdicts_in.result c.answered.ensures.ok
    c.verdicts_in.ensures.ok c.answered.ensures.found c.verdicts_in.ensures.told
    (IfOk-weaker c.asked.result _ _
    (λ rows shown. verdict_rows layout c.args.number _ c.key.ensures.fits c.key.ensures.too_large old _
    rows.items schema shown) (c.asked.ensures.shown live)))
