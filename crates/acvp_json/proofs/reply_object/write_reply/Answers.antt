use Rattle.std.proofs.Common.{◌≡◌, false, ℕ, ap, ◌∙◌, Vec, Global}
use Rattle.serde_json.specs.View.{view}
use Rattle.serde_json.specs.Written.{compact_text, has_float}
use Rattle.acvp_json.specs.Written.{body_of, enveloped}
use Rattle.acvp_json.specs.ReplyData.{reply_data}
use Rattle.acvp_json.proofs.ReplyLemmas.{reply-no_float}
use Rattle.acvp_json.proofs.reply_object.write_reply.Goals as goal

pub returns : goal.returns
unfolding body_of
returns c =
    let is : view c.in_ok-value.value ≡ enveloped (reply_data c.args.reply.now) = c.in_ok-value.ensures
    ∙ ap enveloped c.in_ok-object.ensures in
    let plain : has_float (view c.in_ok-value.value) ≡ false = ap has_float is ∙ reply-no_float c.args.reply.now in
    ap (λ (v : Vec ℕ Global). v.items) c.into_bytes.ensures.value ∙ c.in_ok-text.ensures.text plain ∙ ap compact_text is
