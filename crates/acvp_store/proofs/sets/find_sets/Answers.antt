use Rattle.std.proofs.Common.{arith, ◌≡◌, ◌*◌, ◌+◌}
use Rattle.acvp_store.proofs.Words.{IfOk-weaker, is_live_row, IsJudged, set_tree, short_columns, short_shown}
use Rattle.acvp_store.proofs.Words.{state, parameter, whole}
use Rattle.acvp_store.proofs.RowsMet.{sets_met, judged_each}
use Rattle.acvp_store.proofs.SessionSets.{live_rows, find_live}
use Rattle.acvp_store.proofs.Finding.{in_store, is_query, met, read_as, SetsOf}
use Rattle.acvp_store.proofs.sets.find_sets.Goals as goal

pub returns-clause-read : goal.returns-clause-read
returns-clause-read g c =
    read_as c.asked.result c.summaries_in.result _ _ (λ ok. c.listed.ensures.ok (c.summaries_in.ensures.ok ok))
    (c.asked.ensures.read (λ live. (c.requires live).ready) (is_query SetsOf))

pub returns-clause-found : goal.returns-clause-found
returns-clause-found g c live =
    let old = state g.S.Store c.args.conn.now in
    let s = c.args.session in
    let low : parameter c.key.result ≡ whole (s * 100) = c.key.ensures.fits (omega arith) in
    let high : parameter c.key-2.result ≡ whole (s * 100 + 99) = c.key-2.ensures.fits (omega arith) in
    in_store c.summaries_in.result old.now _ (λ layout schema.
    find_live s (old.now.trees (set_tree layout)) (λ v. v.items) (λ v. v.items)
    (λ v. v.items) c.asked.result c.listed.result c.summaries_in.result c.listed.ensures.ok
    c.summaries_in.ensures.ok
    c.listed.ensures.found c.summaries_in.ensures.told
    (IfOk-weaker c.asked.result _ _
    (λ rows shown. live_rows layout s old _ rows.items schema
    (rw (low, high) at shown)) (c.asked.ensures.shown live)))

pub returns-clause-judged : goal.returns-clause-judged
returns-clause-judged g c live =
    let old = state g.S.Store c.args.conn.now in
    let s = c.args.session in
    let low : parameter c.key.result ≡ whole (s * 100) = c.key.ensures.fits (omega arith) in
    let high : parameter c.key-2.result ≡ whole (s * 100 + 99) = c.key-2.ensures.fits (omega arith) in
    in_store c.summaries_in.result old.now _ (λ layout schema.
    met (is_live_row s) short_columns short_shown _ (λ row x is. is) IsJudged (old.now.trees (set_tree layout))
    (λ v. v.items) (λ v. v.items) c.asked.result c.listed.result c.summaries_in.result c.listed.ensures.ok
    c.summaries_in.ensures.ok c.listed.ensures.judged
    (IfOk-weaker c.summaries_in.result _ _
    (λ told tells. IfOk-weaker c.listed.result _ _ (λ found is. judged_each found.items told.items is) tells)
    c.summaries_in.ensures.told)
    (IfOk-weaker c.asked.result _ _
    (λ rows shown. sets_met layout s old _ rows.items schema
    (rw (low, high) at shown)) (c.asked.ensures.shown live)))
