use Rattle.acvp_store.proofs.Words.{IfOk-weaker}
use Rattle.acvp_store.proofs.Told.{listed_as}
use Rattle.acvp_store.proofs.members.listed.Goals as goal

pub returns-in-Ok-clause-found : goal.returns-in-Ok-clause-found
returns-in-Ok-clause-found g c =
    IfOk-weaker c.each.result _ _
    (λ found all. rw c.in-Ok.is
    (λ list reads is. listed_as g.T.Member.reads g.T.Member.shown c.in-Ok.rows.items found.items list
    (rw c.deref.ensures.value at all) reads is)) c.each.ensures.known
