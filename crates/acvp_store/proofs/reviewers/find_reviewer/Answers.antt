use Rattle.std.proofs.Common.{◌∙◌, [], ◌∷◌}
use Rattle.acvp_store.proofs.Words.{Entry, is_pair, list_any-IsPermutation, ReviewerRow, state, whole}
use Rattle.acvp_store.proofs.ReviewerRows.{reviewer_rows, any_passes, any_row}
use Rattle.acvp_store.proofs.Finding.{in_store, is_query, read_as, ReviewerAt, told}
use Rattle.acvp_store.proofs.reviewers.find_reviewer.Goals as goal

pub returns-clause-read : goal.returns-clause-read
returns-clause-read g c =
    read_as c.asked.result c.any.result _ _ c.any.ensures.ok
    (c.asked.ensures.read (λ live. (c.requires live).ready) (is_query ReviewerAt))

pub returns-clause-found : goal.returns-clause-found
returns-clause-found g c live =
    let old = state g.S.Store c.args.conn.now in
    in_store c.any.result old.now _ (λ layout schema.
    told c.asked.result c.any.result c.any.ensures.ok _ _ _ (λ rows any is shown list h.
    let r = let it : ReviewerRow = record { session = c.args.session; account = c.args.account } in it in
    is ∙ any_passes (λ (e : Entry ReviewerRow). whole e.row.account ∷ []) (λ e. is_pair r e.row) h.kept.entries
    rows.items
    (reviewer_rows layout r old _ rows.items schema list h _ c.key.ensures.fits c.key.ensures.too_large
    (rw (c.to_sql.ensures, c.from.ensures) at shown))
    ∙ any_row (is_pair r) h.kept.entries ∙ list_any-IsPermutation (is_pair r) _ list h.kept.same)
    c.any.ensures.found (c.asked.ensures.shown live))
