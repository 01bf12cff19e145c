use Rattle.std.specs.Prelude.{◌<◌, ◌^◌}
use Rattle.acvp_store.proofs.Words.{arith, first_number, FitsRequest, HoldsRequests, IfOk-weaker}
use Rattle.acvp_store.proofs.Words.{is_between, IsRequestRow, last_number, refl, request_columns, request_key}
use Rattle.acvp_store.proofs.Words.{request_row, request_shown}
use Rattle.acvp_store.proofs.RangeColumns.{IsRequestTyped, requests_typed, request_is, requests_met, requests_in_order}
use Rattle.acvp_store.proofs.RangeRows.{range_given}
use Rattle.acvp_store.proofs.RangeStrays.{stray_of}
use Rattle.acvp_store.proofs.RequestRanges.{IsMember, each, shows, with_texts}
use Rattle.acvp_store.proofs.Finding.{is_query, read_as, RequestRange}
use Rattle.acvp_store.proofs.request_ranges.requests_numbered.Goals as goal

pub returns-clause-read : goal.returns-clause-read
returns-clause-read g c =
    read_as c.asked.result c.ranged.result _ _ c.ranged.ensures.ok
    (c.asked.ensures.read (λ live. (c.requires live).ready) (is_query RequestRange))

pub returns-clause-rows : goal.returns-clause-rows
returns-clause-rows g c live =
    let store = c.requires ((returns-clause-read g c).stays.was_open live) in
    let u = c.args.account in
    let low : last_number u < 2 ^ 63 = omega (arith, c.ranges.account.fits) in
    with_texts (first_number u) (last_number u) _ c.asked.result (λ v. v.items) c.ranged.result (λ v. v.items)
    c.ranged.ensures.ok c.ranged.ensures.judged
    (range_given request_key request_row request_shown request_columns IsRequestTyped (λ s. refl) request_is
    (first_number u) (last_number u) low _ _ c.asked.result (λ v. v.items) c.ranged.result (λ v. v.items)
    c.ranged.ensures.ok c.ranged.ensures.judged
    (λ full. requests_typed store.schema.0 _ store.schema.1 store.sound full)
    (IfOk-weaker c.asked.result _ _
    (λ rows shown. requests_in_order store.schema.0 (first_number u) (last_number u) _ _ rows.items store.schema.1
    (rw (c.numbers_of-numbers.ensures.first, c.numbers_of-numbers.ensures.last) at shown))
    (c.asked.ensures.shown live)))

pub returns-clause-stray : goal.returns-clause-stray
returns-clause-stray g c live =
    let store = c.requires ((returns-clause-read g c).stays.was_open live) in
    let u = c.args.account in
    stray_of HoldsRequests IsRequestRow FitsRequest each IsMember request_shown request_columns 0 0 (λ r. refl) shows
    (is_between (first_number u) (last_number u)) _ c.asked.result (λ v. v.items) c.ranged.result
    c.ranged.ensures.stray
    (IfOk-weaker c.asked.result _ _
    (λ rows shown. requests_met store.schema.0 (first_number u) (last_number u) _ _ rows.items store.schema.1
    (rw (c.numbers_of-numbers.ensures.first, c.numbers_of-numbers.ensures.last) at shown))
    (c.asked.ensures.shown live))
