use Rattle.std.specs.Prelude.{◌<◌, ◌^◌}
use Rattle.acvp_store.proofs.Words.{arith, first_set, IfOk-weaker, last_set, refl, set_columns, set_key, set_row}
use Rattle.acvp_store.proofs.Words.{set_tree, state, whole_shown}
use Rattle.acvp_store.proofs.RangeRows.{range_read}
use Rattle.acvp_store.proofs.RangeStrays.{fault_in_store}
use Rattle.acvp_store.proofs.SetRanges.{IsSetTyped, sets_typed, set_is, sets_met, sets_in_order, rows_through}
use Rattle.acvp_store.proofs.SetRanges.{stray_through}
use Rattle.acvp_store.proofs.Finding.{in_store, is_query, read_as, SetRange}
use Rattle.acvp_store.proofs.set_ranges.sets_numbered.Goals as goal

pub returns-clause-read : goal.returns-clause-read
returns-clause-read g c =
    read_as c.asked.result c.sets_in.result _ _ (λ ok. c.ranged-found.ensures.ok (c.sets_in.ensures.ok ok))
    (c.asked.ensures.read (λ live. (c.requires live).ready) (is_query SetRange))

pub returns-clause-rows : goal.returns-clause-rows
returns-clause-rows g c live =
    let old = state g.S.Store c.args.conn.now in
    let store = c.requires ((returns-clause-read g c).stays.was_open live) in
    let u = c.args.account in
    let low : last_set u < 2 ^ 63 = omega (arith, c.ranges.account.fits) in
    in_store c.sets_in.result old.now _ (λ layout schema.
    rows_through (first_set u) (last_set u) (old.now.trees (set_tree layout)) c.asked.result
    (λ v. v.items) c.ranged-found.result (λ v. v.items) c.sets_in.result
    (λ v. v.items) c.ranged-found.ensures.ok c.sets_in.ensures.ok c.ranged-found.ensures.judged
    c.sets_in.ensures.told
    (range_read set_key set_row whole_shown set_columns IsSetTyped (λ s. refl) set_is (first_set u) (last_set u) low _
    (old.now.trees (set_tree layout)) c.asked.result (λ v. v.items) c.ranged-found.result
    (λ v. v.items) c.ranged-found.ensures.ok c.ranged-found.ensures.judged
    (sets_typed layout old.now schema store.sound)
    (IfOk-weaker c.asked.result _ _
    (λ rows shown. sets_in_order layout (first_set u) (last_set u) old _ rows.items schema
    (rw (c.set_numbers_of-numbers.ensures.first, c.set_numbers_of-numbers.ensures.last) at shown))
    (c.asked.ensures.shown live))))

pub returns-clause-stray : goal.returns-clause-stray
returns-clause-stray g c live =
    let old = state g.S.Store c.args.conn.now in
    let store = c.requires ((returns-clause-read g c).stays.was_open live) in
    let u = c.args.account in
    fault_in_store c.sets_in.result old.now _ (λ layout schema.
    stray_through (first_set u) (last_set u) (old.now.trees (set_tree layout)) c.asked.result
    (λ v. v.items) c.ranged-found.result
    (λ v. v.items) c.sets_in.result c.ranged-found.ensures.ok c.ranged-found.ensures.judged
    c.ranged-found.ensures.stray c.sets_in.ensures.stray
    (sets_typed layout old.now schema store.sound)
    (IfOk-weaker c.asked.result _ _
    (λ rows shown. sets_met layout (first_set u) (last_set u) old _ rows.items schema
    (rw (c.set_numbers_of-numbers.ensures.first, c.set_numbers_of-numbers.ensures.last) at shown))
    (c.asked.ensures.shown live)))
