use Rattle.std.proofs.Common.{refl}
use Rattle.std.specs.Prelude.{map}
use Rattle.acvp_json.specs.CertifyBody.{certify_body_conditions}
use Rattle.acvp_json.specs.Envelope.{envelope_conditions, object_of}
use Rattle.acvp_mac.specs.Conditions.{with_fault}
use Rattle.acvp_desk.specs.Asked.{certified_in}
use Rattle.acvp_desk.specs.Bodies.{object_conditions, rule_of}
use Rattle.acvp_desk.proofs.NextRequest.{parts_judged}
use Rattle.acvp_desk.proofs.FirstBroken.{front_broken}
use Rattle.acvp_desk.proofs.body.certify_read.Goals as goal

pub returns-in-Ok : goal.returns-in-Ok
returns-in-Ok c =
    let opened = rw c.in-Ok.is at c.in_ok-object.ensures.ok in
    parts_judged c.args.body.now _ c.certify_said.result opened.0 opened.1 c.certify_said.ensures.ok
    c.certify_said.ensures.err

pub returns-in-Err : goal.returns-in-Err
unfolding certified_in
returns-in-Err c =
    let body = c.args.body.now in
    let told = front_broken (map (with_fault rule_of) (envelope_conditions body))
    (map (with_fault rule_of) (object_conditions certify_body_conditions (object_of body)))
    c.in-Err.rule (rw c.in-Err.is at c.in_ok-object.ensures.err) in
    rw told refl
