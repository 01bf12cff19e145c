use Rattle.std.proofs.Common.{◌∙◌, ap}
use Rattle.std.proofs.lemmas.Result.{IfOk-weaker}
use Rattle.serde_json.specs.Data.{array}
use Rattle.serde_json.specs.View.{items_of}
use Rattle.acvp_json.proofs.ReplyLemmas.{checkpoints_of}
use Rattle.acvp_json.proofs.expected.checkpoints_value.Goals as goal

pub returns : goal.returns
returns c =
    IfOk-weaker c.array.result _ _ (λ value is. is ∙ ap (λ ds. array (items_of ds)) (checkpoints_of c.args.texts.now))
    c.array.ensures
