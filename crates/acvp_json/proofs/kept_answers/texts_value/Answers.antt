use Rattle.std.proofs.Common.{◌∙◌, ap}
use Rattle.std.proofs.lemmas.Result.{IfOk-weaker}
use Rattle.serde_json.specs.Data.{array}
use Rattle.serde_json.specs.View.{items_of}
use Rattle.acvp_json.proofs.KeptLemmas.{texts_shown}
use Rattle.acvp_json.proofs.kept_answers.texts_value.Goals as goal

pub returns : goal.returns
returns c =
    IfOk-weaker c.array.result _ _ (λ value is. is ∙ ap (λ ds. array (items_of ds)) (texts_shown c.args.texts.now))
    c.array.ensures
