use Rattle.acvp_store.proofs.Words.{object_tree, state}
use Rattle.acvp_store.proofs.ObjectRanges.{objects_typed, objects_outside, object_told, all_within}
use Rattle.acvp_store.proofs.Finding.{is_query, ObjectOutside, read_as, told}
use Rattle.acvp_store.proofs.object_ranges.object_outside.Goals as goal

pub returns-clause-read : goal.returns-clause-read
returns-clause-read g c =
    read_as c.asked.result c.number_in.result _ _ c.number_in.ensures.ok
    (c.asked.ensures.read (λ live. (c.requires live).ready) (is_query ObjectOutside))

pub returns-clause-none : goal.returns-clause-none
returns-clause-none g c live =
    let old = state g.S.Store c.args.conn.now in
    let store = c.requires ((returns-clause-read g c).stays.was_open live) in
    let table = old.now.trees object_tree in
    told c.asked.result c.number_in.result c.number_in.ensures.ok _ _ _
    (λ rows found is shown none. all_within table (objects_typed store.schema.0 old.now store.schema.1 store.sound)
    (objects_outside store.schema.0 old _ rows.items store.schema.1 shown (is none)))
    c.number_in.ensures.none (c.asked.ensures.shown live)

pub returns-clause-some : goal.returns-clause-some
returns-clause-some g c live =
    let store = c.requires ((returns-clause-read g c).stays.was_open live) in
    told c.asked.result c.number_in.result c.number_in.ensures.ok _ _ _
    (λ rows found is shown number at. object_told store.schema.0 _ _ rows.items store.schema.1 shown number
    (is number at))
    c.number_in.ensures.some (c.asked.ensures.shown live)
