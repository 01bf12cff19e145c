use Rattle.std.proofs.Common.{Some, ap, sym, ◌∙◌}
use Rattle.std.specs.Prelude.{option_map}
use Rattle.acvp_json.specs.CertifyBody.{certify_body_conditions, certify_body_of}
use Rattle.acvp_json.specs.View.{view}
use Rattle.acvp_desk.specs.Bodies.{rule_of}
use Rattle.acvp_desk.proofs.FirstBroken.{broken}
use Rattle.acvp_desk.proofs.body.certify_said.Goals as goal

pub returns-in-Err-clause-err : goal.returns-in-Err-clause-err
returns-in-Err-clause-err c =
    let object = view c.args.object.now in
    c.renamed_conditions.ensures rule_of (certify_body_conditions object)
    ∙ ap (option_map rule_of)
    (broken (certify_body_conditions object) (certify_body_of object) c.in-Err.fault c.in-Err.ensures)
    ∙ ap Some (sym c.rule_of.ensures)
