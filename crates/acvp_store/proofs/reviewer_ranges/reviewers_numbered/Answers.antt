use Rattle.std.specs.Prelude.{◌<◌, ◌^◌}
use Rattle.acvp_store.proofs.Words.{arith, columns_of_reviewer, first_number, FitsReviewer, HoldsReviewers, IfOk-weaker}
use Rattle.acvp_store.proofs.Words.{is_column_between, IsReviewerRow, last_number, refl, reviewer_columns}
use Rattle.acvp_store.proofs.Words.{reviewer_tree, state, ⊤}
use Rattle.acvp_store.proofs.RangeStrays.{fault_in_store, stray_of}
use Rattle.acvp_store.proofs.ReviewerRanges.{reviewers_typed, reviewers_met, rows_told, each, shows}
use Rattle.acvp_store.proofs.Finding.{in_store, is_query, read_as, ReviewerRange}
use Rattle.acvp_store.proofs.reviewer_ranges.reviewers_numbered.Goals as goal

pub returns-clause-read : goal.returns-clause-read
returns-clause-read g c =
    read_as c.asked.result c.ranged.result _ _ c.ranged.ensures.ok
    (c.asked.ensures.read (λ live. (c.requires live).ready) (is_query ReviewerRange))

pub returns-clause-rows : goal.returns-clause-rows
returns-clause-rows g c live =
    let old = state g.S.Store c.args.conn.now in
    let store = c.requires ((returns-clause-read g c).stays.was_open live) in
    let u = c.args.account in
    let low : last_number u < 2 ^ 63 = omega (arith, c.ranges.account.fits) in
    in_store c.ranged.result old.now _ (λ layout schema.
    rows_told (first_number u) (last_number u) low _ (old.now.trees (reviewer_tree layout)) c.asked.result
    (λ v. v.items) c.ranged.result (λ v. v.items) c.ranged.ensures.ok c.ranged.ensures.judged
    (reviewers_typed layout old.now schema store.sound)
    (IfOk-weaker c.asked.result _ _
    (λ rows shown. reviewers_met layout (first_number u) (last_number u) old _ rows.items schema
    (rw (c.numbers_of-numbers.ensures.first, c.numbers_of-numbers.ensures.last) at shown))
    (c.asked.ensures.shown live)))

pub returns-clause-stray : goal.returns-clause-stray
returns-clause-stray g c live =
    let old = state g.S.Store c.args.conn.now in
    let u = c.args.account in
    fault_in_store c.ranged.result old.now _ (λ layout schema.
    stray_of HoldsReviewers IsReviewerRow FitsReviewer each
    (λ r. ⊤ × FitsReviewer r) reviewer_columns columns_of_reviewer 0 1 (λ r. refl) shows
    (is_column_between 1 (first_number u) (last_number u)) (old.now.trees (reviewer_tree layout)) c.asked.result
    (λ v. v.items) c.ranged.result c.ranged.ensures.stray
    (IfOk-weaker c.asked.result _ _
    (λ rows shown. reviewers_met layout (first_number u) (last_number u) old _ rows.items schema
    (rw (c.numbers_of-numbers.ensures.first, c.numbers_of-numbers.ensures.last) at shown))
    (c.asked.ensures.shown live)))
