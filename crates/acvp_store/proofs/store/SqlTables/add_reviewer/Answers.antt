use Rattle.std.proofs.Common.{sym, ◌∙◌}
use Rattle.acvp_tables.specs.declared.change.Change.TheVariants as change
use Rattle.acvp_store.proofs.Words.{after}
use Rattle.acvp_store.proofs.KeptPromises.{reads, read_then, read_alone, serves_read, changes, reviewer_added}
use Rattle.acvp_store.proofs.KeptPromises.{reviewer_there}
use Rattle.acvp_store.proofs.store.SqlTables.add_reviewer.Goals as goal

pub returns-in-Ok-true : goal.returns-in-Ok-true
returns-in-Ok-true g c =
    let r = c.args.reviewer.now in
    let old = c.self.inside.connection in
    let read = reads g.S.Store old c.find_reviewer.new.conn c.self.invariant
    (λ db live may. g.met.S.Store.settled old.store db live may) _ c.in-Ok-true.ensures.read in
    rw (← c.self.view_is) (read_alone g.S.Store old c.find_reviewer.new.conn c.find_reviewer.new.conn
    (after (change.AddReviewer r)) c.in-Ok-true.field-0 tt read
    (λ live content sound st.
    reviewer_there r content (sym (c.in-Ok-true.ensures.found live st.0 st.1 content.reviewers st.2.reviewers)
    ∙ c.in-Ok-true.field-0-test)))

pub returns-in-Ok-false : goal.returns-in-Ok-false
returns-in-Ok-false g c =
    let r = c.args.reviewer.now in
    let old = c.self.inside.connection in
    let mid = c.find_reviewer.new.conn in
    let new = c.commit.new.conn in
    let read = reads g.S.Store old mid c.self.invariant
    (λ db live may. g.met.S.Store.settled old.store db live may) _ c.in-Ok-false.ensures.read in
    let serves = serves_read _ _ _ c.self.invariant c.in-Ok-false.ensures.read in
    rw (← c.self.view_is) (read_then g.S.Store old mid new
    (after (change.AddReviewer r)) c.in-Ok-false.field-0 c.commit.result read
    (changes g.S.Store mid new _ _ serves (λ layout d e h. h.schema) (reviewer_added r) c.commit.result
    c.commit.ensures))
