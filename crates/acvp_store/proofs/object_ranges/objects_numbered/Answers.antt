use Rattle.std.specs.Prelude.{◌<◌, ◌^◌}
use Rattle.acvp_store.proofs.Words.{arith, first_number, IfOk-weaker, kind_number, last_number}
use Rattle.acvp_store.proofs.ObjectRanges.{objects_typed, objects_met, rows_told, stray_told}
use Rattle.acvp_store.proofs.Finding.{is_query, ObjectRange, read_as}
use Rattle.acvp_store.proofs.object_ranges.objects_numbered.Goals as goal

pub returns-clause-read : goal.returns-clause-read
returns-clause-read g c =
    read_as c.asked.result c.ranged.result _ _ c.ranged.ensures.ok
    (c.asked.ensures.read (λ live. (c.requires live).ready) (is_query ObjectRange))

pub returns-clause-rows : goal.returns-clause-rows
returns-clause-rows g c live =
    let store = c.requires ((returns-clause-read g c).stays.was_open live) in
    let u = c.args.account in
    let low : last_number u < 2 ^ 63 = omega (arith, c.ranges.account.fits) in
    rows_told (kind_number c.args.kind) (first_number u) (last_number u) low _ c.asked.result (λ v. v.items)
    c.ranged.result (λ v. v.items) c.ranged.ensures.ok c.ranged.ensures.judged
    (objects_typed store.schema.0 _ store.schema.1 store.sound)
    (IfOk-weaker c.asked.result _ _
    (λ rows shown. objects_met store.schema.0 (kind_number c.args.kind) (first_number u) (last_number u) _ _
    rows.items
    store.schema.1
    (rw (
      c.numbers_of-numbers.ensures.first,
      c.numbers_of-numbers.ensures.last,
      c.to_sql.ensures,
      c.kind_number.ensures,
    ) at shown))
    (c.asked.ensures.shown live))

pub returns-clause-stray : goal.returns-clause-stray
returns-clause-stray g c live =
    let store = c.requires ((returns-clause-read g c).stays.was_open live) in
    let u = c.args.account in
    stray_told (kind_number c.args.kind) (first_number u) (last_number u) _ c.asked.result (λ v. v.items)
    c.ranged.result c.ranged.ensures.stray
    (IfOk-weaker c.asked.result _ _
    (λ rows shown. objects_met store.schema.0 (kind_number c.args.kind) (first_number u) (last_number u) _ _
    rows.items
    store.schema.1
    (rw (
      c.numbers_of-numbers.ensures.first,
      c.numbers_of-numbers.ensures.last,
      c.to_sql.ensures,
      c.kind_number.ensures,
    ) at shown))
    (c.asked.ensures.shown live))
