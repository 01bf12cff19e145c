use Rattle.acvp_store.proofs.Words.{reviewer_tree, state}
use Rattle.acvp_store.proofs.ReviewerRanges.{reviewers_typed, reviewers_outside, reviewer_told, all_within}
use Rattle.acvp_store.proofs.Finding.{in_store, is_query, read_as, ReviewerOutside, told}
use Rattle.acvp_store.proofs.reviewer_ranges.reviewer_outside.Goals as goal

pub returns-clause-read : goal.returns-clause-read
returns-clause-read g c =
    read_as c.asked.result c.number_in.result _ _ c.number_in.ensures.ok
    (c.asked.ensures.read (λ live. (c.requires live).ready) (is_query ReviewerOutside))

pub returns-clause-none : goal.returns-clause-none
returns-clause-none g c live =
    let old = state g.S.Store c.args.conn.now in
    let store = c.requires ((returns-clause-read g c).stays.was_open live) in
    in_store c.number_in.result old.now _ (λ layout schema.
    let table = old.now.trees (reviewer_tree layout) in
    told c.asked.result c.number_in.result c.number_in.ensures.ok _ _ _
    (λ rows found is shown none. all_within table (reviewers_typed layout old.now schema store.sound)
    (reviewers_outside layout old _ rows.items schema shown (is none)))
    c.number_in.ensures.none (c.asked.ensures.shown live))

pub returns-clause-some : goal.returns-clause-some
returns-clause-some g c live =
    let old = state g.S.Store c.args.conn.now in
    in_store c.number_in.result old.now _ (λ layout schema.
    told c.asked.result c.number_in.result c.number_in.ensures.ok _ _ _
    (λ rows found is shown number at. reviewer_told layout old _ rows.items schema shown number (is number at))
    c.number_in.ensures.some (c.asked.ensures.shown live))
