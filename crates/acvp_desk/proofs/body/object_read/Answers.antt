use Rattle.std.proofs.Common.{refl}
use Rattle.std.specs.Prelude.{map}
use Rattle.acvp_json.specs.Envelope.{envelope_conditions, object_of}
use Rattle.acvp_mac.specs.Conditions.{with_fault}
use Rattle.acvp_registry.specs.Object.{object_conditions}
use Rattle.acvp_desk.specs.Asked.{object_in}
use Rattle.acvp_desk.specs.Bodies.{object_conditions as conditions_on, object_rule, rule_of}
use Rattle.acvp_desk.proofs.NextRequest.{object_judged}
use Rattle.acvp_desk.proofs.FirstBroken.{front_broken}
use Rattle.acvp_desk.proofs.body.object_read.Goals as goal

pub returns-in-Ok : goal.returns-in-Ok
returns-in-Ok c =
    let opened = rw c.in-Ok.is at c.in_ok-object.ensures.ok in
    object_judged c.args.kind c.args.body.now _ c.object_said.result opened.0 opened.1 c.object_said.ensures.ok
    c.object_said.ensures.err

pub returns-in-Err : goal.returns-in-Err
unfolding object_in
returns-in-Err c =
    let kind = c.args.kind in
    let body = c.args.body.now in
    let told = front_broken (map (with_fault rule_of) (envelope_conditions body))
    (map (with_fault object_rule) (conditions_on (object_conditions kind) (object_of body)))
    c.in-Err.rule (rw c.in-Err.is at c.in_ok-object.ensures.err) in
    rw told refl
