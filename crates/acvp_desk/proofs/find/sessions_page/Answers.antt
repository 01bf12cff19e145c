use Rattle.std.proofs.Common.{Some, ap, ◌∙◌}
use Rattle.acvp_desk.proofs.WalkedRows.{sessions_there}
use Rattle.acvp_desk.proofs.find.sessions_page.Goals as goal

pub returns-clause-found : goal.returns-clause-found
returns-clause-found g c =
    λ live seeds content kept h. let up = c.in_ok-sessions.ensures.looks.was_open live in
    let early = c.in_ok-rows.ensures.reads.was_open up in
    let counted = c.in_ok-total.ensures.reads.same early content h in
    let there = c.in_ok-rows.ensures.reads.same up content counted in
    rw (c.in-Some.is)
    (ap Some (sessions_there c.selections_follow.ensures.sessions c.selections_follow.ensures.page c.args.account
    content c.in-Some.page
    c.in_ok-total.total c.deref.result.now c.in_ok-sessions.sessions
    (c.in_ok-total.ensures.found early content kept.sound h)
    (c.deref.ensures.value ∙ c.in_ok-rows.ensures.found up content kept.sound counted)
    (c.in_ok-sessions.ensures.found live seeds content kept there)))
