use Rattle.std.proofs.Common.{◌∙◌, ap, string_bytes}
use Rattle.std.specs.Prelude.{option_map}
use Rattle.std.proofs.lemmas.Result.{IfOk-weaker}
use Rattle.serde_json.specs.Written.{compact_text, has_float}
use Rattle.acvp_view.proofs.DataLemmas.{request-no_float}
use Rattle.acvp_view.proofs.listed.request_json.Goals as goal

pub returns : goal.returns
returns c =
    let is = c.in_ok-request_value.ensures in
    let plain = request-no_float c.args.it.now c.args.enabled c.args.session (option_map string_bytes c.args.name.now) in
    IfOk-weaker c.to_string.result _ _ (λ text told. told (ap has_float is ∙ plain) ∙ ap compact_text is)
    c.to_string.ensures.text
