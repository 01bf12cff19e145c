use Rattle.std.proofs.Common.{ap, sym, refl, ◌∙◌}
use Rattle.acvp_tables.specs.State.{state_of}
use Rattle.acvp_desk.specs.Place.{session_facts}
use Rattle.acvp_desk.specs.Sets.{set_facts}
use Rattle.acvp_desk.specs.declared.find.SetRows.{SetRows}
use Rattle.acvp_desk.proofs.SetLemmas.{facts_stand}
use Rattle.acvp_desk.proofs.find.facts_by_rows.Goals as goal

pub returns-in-Some-clause-found : goal.returns-in-Some-clause-found
returns-in-Some-clause-found g c =
    λ live seeds content kept h.
    let facts = c.in_ok-facts.ensures.found live seeds content kept (h.0, ap (λ (rows : SetRows). rows.session) h.1) in
    c.set_facts_from.ensures
    ∙ facts_stand c.selections_follow.ensures.set content c.args.session c.args.number
    (session_facts seeds (state_of content) c.args.session) c.in-Some.facts
    c.args.rows.now.set (sym c.in-Some.is ∙ facts) (ap (λ (rows : SetRows). rows.set) h.1)

pub returns-in-None-clause-found : goal.returns-in-None-clause-found
unfolding set_facts
returns-in-None-clause-found g c =
    λ live seeds content kept h.
    let facts = c.in_ok-facts.ensures.found live seeds content kept (h.0, ap (λ (rows : SetRows). rows.session) h.1) in
    let none = sym c.in-None.is ∙ facts in
    rw (← none) refl
