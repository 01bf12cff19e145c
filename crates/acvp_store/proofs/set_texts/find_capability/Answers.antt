use Rattle.acvp_store.proofs.Words.{capability_column, IfOk-weaker, is_under, IsOfCapability, option_map}
use Rattle.acvp_store.proofs.Words.{option_to_list, set_tree, SetColumns, SetRow, Some, state}
use Rattle.acvp_store.proofs.Words.{TellsCapability, text_shown}
use Rattle.acvp_store.proofs.SetRows.{capability_rows, capability_some, find_told}
use Rattle.acvp_store.proofs.RowsMet.{capability_met, told_one}
use Rattle.acvp_store.proofs.Finding.{CapabilityAt, in_store, is_query, met, read_as}
use Rattle.acvp_store.proofs.set_texts.find_capability.Goals as goal

pub returns-clause-read : goal.returns-clause-read
returns-clause-read g c =
    read_as c.asked.result c.capability_in.result _ _ (λ ok. c.answered.ensures.ok (c.capability_in.ensures.ok ok))
    (c.asked.ensures.read (λ live. (c.requires live).ready) (is_query CapabilityAt))

pub returns-clause-found : goal.returns-clause-found
returns-clause-found g c live =
    let old = state g.S.Store c.args.conn.now in
    in_store c.capability_in.result old.now _ (λ layout schema.
    find_told (λ (c : SetColumns). Some c.capability) TellsCapability (option_map (λ (row : SetRow). row.capability))
    (λ y e. e) capability_some c.args.number text_shown (λ z. z) (old.now.trees (set_tree layout))
    (λ v. v.items) c.asked.result c.answered.result c.capability_in.result c.answered.ensures.ok
    c.capability_in.ensures.ok c.answered.ensures.found c.capability_in.ensures.told
    (IfOk-weaker c.asked.result _ _
    (λ rows shown. capability_rows layout c.args.number _ c.key.ensures.fits c.key.ensures.too_large old _
    rows.items schema shown) (c.asked.ensures.shown live)))

pub returns-clause-judged : goal.returns-clause-judged
returns-clause-judged g c live low =
    let old = state g.S.Store c.args.conn.now in
    in_store c.capability_in.result old.now _ (λ layout schema.
    met (is_under c.args.number) capability_column text_shown _ (λ row x is. is) IsOfCapability
    (old.now.trees (set_tree layout))
    (λ v. v.items) option_to_list c.asked.result c.answered.result c.capability_in.result c.answered.ensures.ok
    c.capability_in.ensures.ok c.answered.ensures.judged
    (IfOk-weaker c.capability_in.result _ _
    (λ told tells. IfOk-weaker c.answered.result _ _ (λ found is. told_one found told is) tells)
    c.capability_in.ensures.told)
    (IfOk-weaker c.asked.result _ _
    (λ rows shown. capability_met layout c.args.number _ low c.key.ensures.fits old _ rows.items schema
    shown) (c.asked.ensures.shown live)))
