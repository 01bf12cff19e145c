use Rattle.std.proofs.Common.{filter, not}
use Rattle.acvp_tables.specs.declared.change.Change.TheVariants as change
use Rattle.acvp_store.proofs.Words.{after, Alters, HoldsReviewers, is_pair, reviewer_tree}
use Rattle.acvp_store.proofs.KeptPromises.{changes, reviewer_removed}
use Rattle.acvp_store.proofs.store.SqlTables.remove_reviewer.Goals as goal

pub returns : goal.returns
returns g c =
    let r = c.args.reviewer.now in
    rw (← c.self.view_is) (changes g.S.Store c.self.inside.connection c.commit.new.conn
    (λ layout. Alters layout (reviewer_tree layout) HoldsReviewers (filter (λ row. not (is_pair r row))))
    (after (change.RemoveReviewer r)) c.self.invariant (λ layout d e h. h.schema)
    (reviewer_removed r) c.commit.result c.commit.ensures)
