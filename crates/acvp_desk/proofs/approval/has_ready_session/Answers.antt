use Rattle.std.proofs.Common.{sym, ◌∙◌}
use Rattle.acvp_tables.specs.Content.{live_sets}
use Rattle.acvp_desk.proofs.ApprovedRequest.{ready_is}
use Rattle.acvp_desk.proofs.approval.has_ready_session.Goals as goal

pub returns-clause-found : goal.returns-clause-found
returns-clause-found g c =
    λ live content sound h. let up = c.in_ok-sets.ensures.looks.was_open live in
    let row = c.in_ok-row.ensures.found up content sound h in
    let sets = c.in_ok-sets.ensures.found live content sound (c.in_ok-row.ensures.reads.same up content h) in
    rw (← (sym c.in-Some.is ∙ row), c.is_ready.ensures)
    (ready_is c.args.number c.args.account c.in-Some.row c.deref.result.now
    (live_sets c.args.session content.sets) (c.deref.ensures.value ∙ sets))
