use Rattle.acvp_store.proofs.Words.{first_set, last_set, refl, set_tree, state}
use Rattle.acvp_store.proofs.RangeOutside.{all_within}
use Rattle.acvp_store.proofs.RangeColumns.{outside_none, outside_told}
use Rattle.acvp_store.proofs.Places.{sets_seen}
use Rattle.acvp_store.proofs.Finding.{in_store, is_query, read_as, SetOutside, told}
use Rattle.acvp_store.proofs.set_ranges.set_outside.Goals as goal

pub returns-clause-read : goal.returns-clause-read
returns-clause-read g c =
    read_as c.asked.result c.number_in.result _ _ c.number_in.ensures.ok
    (c.asked.ensures.read (λ live. (c.requires live).ready) (is_query SetOutside))

pub returns-clause-none : goal.returns-clause-none
returns-clause-none g c live =
    let old = state g.S.Store c.args.conn.now in
    in_store c.number_in.result old.now _ (λ layout schema.
    told c.asked.result c.number_in.result c.number_in.ensures.ok _ _ _
    (λ rows found is shown tree none. all_within (first_set 1) (last_set 9999) (old.now.trees (set_tree layout))
    tree.1
    (outside_none SetOutside layout (set_tree layout) 100000000 999999999999 refl (sets_seen layout) old _ rows.items
    schema shown (is none)))
    c.number_in.ensures.none (c.asked.ensures.shown live))

pub returns-clause-some : goal.returns-clause-some
returns-clause-some g c live =
    let old = state g.S.Store c.args.conn.now in
    in_store c.number_in.result old.now _ (λ layout schema.
    told c.asked.result c.number_in.result c.number_in.ensures.ok _ _ _
    (λ rows found is shown number at. outside_told SetOutside layout (set_tree layout) 100000000 999999999999 refl
    (sets_seen layout) old _ rows.items schema shown number (is number at))
    c.number_in.ensures.some (c.asked.ensures.shown live))
