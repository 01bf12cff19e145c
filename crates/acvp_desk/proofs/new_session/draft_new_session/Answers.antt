use Rattle.std.proofs.Common.{[], ◌∷◌}
use Rattle.std.specs.Prelude.{nat_lt}
use Rattle.acvp_caps.specs.Registered.{registration_conditions}
use Rattle.acvp_policy.specs.declared.rule.Rule.TheVariants as rule
use Rattle.acvp_desk.specs.Bodies.{body_conditions, registration_rule}
use Rattle.acvp_desk.proofs.FirstBroken.{denied_first}
use Rattle.acvp_desk.proofs.new_session.draft_new_session.Goals as goal

pub returns-in-Err-clause-denied : goal.returns-in-Err-clause-denied
returns-in-Err-clause-denied c =
    denied_first (body_conditions registration_rule registration_conditions c.args.body.now)
    ((nat_lt c.args.sessions 999999, rule.AccountFull) ∷ []) rule.Unavailable c.in-Err.rule c.in-Err.ensures.err

pub returns-clause-reply : goal.returns-clause-reply
returns-clause-reply c = rw (
  c.newest_epoch.ensures,
  c.in-Ok.ensures.ok.1,
  ← c.next_number.ensures,
) c.told_session.ensures.reply
