use Rattle.std.proofs.Common.{sym, ◌∙◌}
use Rattle.acvp_tables.specs.State.{state_of}
use Rattle.acvp_desk.proofs.FoundRows.{session_stands}
use Rattle.acvp_desk.proofs.find.facts_by_row.Goals as goal

pub returns-clause-found : goal.returns-clause-found
unfolding state_of
returns-clause-found g c =
    λ live seeds content kept h.
    session_stands c.selections_follow.ensures.session c.selections_follow.ensures.live_sets seeds content
    c.args.number c.in-Some.row
    c.in_ok-certification.certification c.facts_of.result kept (sym h.1 ∙ c.in-Some.is)
    (c.in_ok-certification.ensures.found live seeds content kept h.0) c.facts_of.ensures
