use Rattle.std.specs.Prelude.{map}
use Rattle.acvp_json.specs.Envelope.{envelope_conditions, object_of}
use Rattle.acvp_caps.specs.Registered.{registration_conditions}
use Rattle.acvp_mac.specs.Conditions.{with_fault}
use Rattle.acvp_policy.specs.declared.rule.Rule.TheVariants as rule
use Rattle.acvp_desk.specs.Bodies.{object_conditions, registration_rule, rule_of}
use Rattle.acvp_desk.proofs.FirstBroken.{denied_first}
use Rattle.acvp_desk.proofs.body.registration_body.Goals as goal

pub returns-in-Err-clause-err : goal.returns-in-Err-clause-err
returns-in-Err-clause-err c =
    denied_first (map (with_fault rule_of) (envelope_conditions c.args.body.now))
    (map (with_fault registration_rule) (object_conditions registration_conditions (object_of c.args.body.now)))
    rule.Unavailable c.in-Err.rule c.in-Err.ensures.err
