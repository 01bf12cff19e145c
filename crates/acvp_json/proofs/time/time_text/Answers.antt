use Rattle.std.proofs.Common.{◌∙◌}
use Rattle.std.proofs.lemmas.Result.{IfOk-weaker}
use Rattle.acvp_json.proofs.TimeLemmas.{civil_is}
use Rattle.acvp_json.proofs.time.time_text.Goals as goal

pub returns : goal.returns
returns c =
    let is = civil_is c.args.moment c.civil_time-time.result c.requires c.civil_time-time.ensures in
    IfOk-weaker c.format.result _ _ (λ text written. written ∙ is) c.format.ensures.ok
