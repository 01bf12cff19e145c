use Rattle.acvp_store.proofs.Words.{IfOk-weaker, reviewer_tree, state}
use Rattle.acvp_store.proofs.ReviewerRows.{session_rows, find_all}
use Rattle.acvp_store.proofs.Finding.{in_store, is_query, read_as, ReviewersOf}
use Rattle.acvp_store.proofs.reviewers.find_reviewers.Goals as goal

pub returns-clause-read : goal.returns-clause-read
returns-clause-read g c =
    read_as c.asked.result c.listed.result _ _ c.listed.ensures.ok
    (c.asked.ensures.read (λ live. (c.requires live).ready) (is_query ReviewersOf))

pub returns-clause-found : goal.returns-clause-found
returns-clause-found g c live =
    let old = state g.S.Store c.args.conn.now in
    in_store c.listed.result old.now _ (λ layout schema.
    find_all c.args.session (old.now.trees (reviewer_tree layout)) (λ v. v.items)
    (λ v. v.items) c.asked.result c.listed.result c.listed.ensures.ok
    c.listed.ensures.found
    (IfOk-weaker c.asked.result _ _
    (λ rows shown list h numbers rise same. session_rows layout c.args.session old _ rows.items schema list h numbers
    rise _ c.key.ensures.fits c.key.ensures.too_large shown
    same) (c.asked.ensures.shown live)))
