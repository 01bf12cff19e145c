use Rattle.std.proofs.Common.{inr, sym}
use Rattle.acvp_policy.specs.declared.rule.Rule.TheVariants as rule
use Rattle.acvp_desk.specs.Answer.{own_conditions, policy_conditions}
use Rattle.acvp_desk.specs.Desk.{keys_of}
use Rattle.acvp_desk.proofs.Decision.{denied_by, let_through, covered_by}
use Rattle.acvp_desk.proofs.FirstBroken.{front_broken, all_hold, denied_later}
use Rattle.acvp_desk.proofs.serve.plan.Goals as goal

pub returns-in-Err-clause-denied : goal.returns-in-Err-clause-denied
returns-in-Err-clause-denied c =
    inr (
    front_broken (policy_conditions c.args.moment c.args.found)
    (own_conditions c.args.cache.now.seeds c.args.body.now c.args.found) c.in-Err.rule
    (denied_by c.args.moment c.args.found c.args.action c.facts_in.result c.in-Err.rule (sym c.requires.action)
    c.facts_in.ensures c.in-Err.ensures.decision)
    )

pub returns-in-Err-draft_for-clause-denied : goal.returns-in-Err-draft_for-clause-denied
returns-in-Err-draft_for-clause-denied c =
    denied_later (policy_conditions c.args.moment c.args.found)
    (own_conditions c.args.cache.now.seeds c.args.body.now c.args.found) rule.Unavailable c.in-Err-draft_for.rule
    (let_through c.args.moment c.args.found c.args.action c.facts_in.result c.in-Ok.grant (sym c.requires.action)
    c.facts_in.ensures c.in-Ok.ensures.decision)
    c.in-Err-draft_for.ensures.denied

pub draft_for-requires-clause-held : goal.draft_for-requires-clause-held
draft_for-requires-clause-held c =
    let_through c.args.moment c.args.found c.args.action c.facts_in.result c.in-Ok.grant (sym c.requires.action)
    c.facts_in.ensures c.in-Ok.ensures.decision

pub returns-in-Ok-draft_for-clause-held : goal.returns-in-Ok-draft_for-clause-held
returns-in-Ok-draft_for-clause-held c =
    all_hold (policy_conditions c.args.moment c.args.found)
    (own_conditions c.args.cache.now.seeds c.args.body.now c.args.found)
    (let_through c.args.moment c.args.found c.args.action c.facts_in.result c.in-Ok.grant (sym c.requires.action)
    c.facts_in.ensures c.in-Ok.ensures.decision)
    c.in-Ok-draft_for.ensures.held

pub returns-in-Ok-draft_for-clause-covers : goal.returns-in-Ok-draft_for-clause-covers
returns-in-Ok-draft_for-clause-covers c =
    covered_by c.granted_resources.ensures.own
    (keys_of c.args.ring.now c.args.cache.now.seeds) c.args.moment c.args.body.now c.args.found c.args.action
    c.facts_in.result c.in-Ok.grant
    c.in-Ok-draft_for.draft.change c.requires.fit c.in-Ok-draft_for.ensures.held
    (sym c.requires.action) c.facts_in.ensures c.in-Ok.ensures.decision c.in-Ok.ensures.grant
    c.in-Ok-draft_for.ensures.change
