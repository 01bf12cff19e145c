use Rattle.std.proofs.Common.{[], ◌∷◌}
use Rattle.acvp_json.specs.ReviewerBody.{reviewer_body_conditions}
use Rattle.acvp_policy.specs.declared.rule.Rule.TheVariants as rule
use Rattle.acvp_desk.specs.Bodies.{body_conditions, rule_of}
use Rattle.acvp_desk.specs.Reviewers.{has_room, reviewer_at}
use Rattle.acvp_desk.proofs.FirstBroken.{denied_first}
use Rattle.acvp_desk.proofs.reviewers.draft_added.Goals as goal

pub returns-in-Err-clause-denied : goal.returns-in-Err-clause-denied
returns-in-Err-clause-denied c =
    denied_first (body_conditions rule_of reviewer_body_conditions c.args.body.now)
    ((has_room c.args.accounts.now (reviewer_at c.args.body.now), rule.ReviewersFull) ∷ []) rule.Unavailable
    c.in-Err.rule
    c.in-Err.ensures.err
