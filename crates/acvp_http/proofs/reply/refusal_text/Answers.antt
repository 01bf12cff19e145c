use Rattle.std.proofs.Common.{option_copied, ◌∙◌, ap, length}
use Rattle.acvp_policy.specs.Rule.{rule_status}
use Rattle.acvp_desk.specs.Errors.{error_body}
use Rattle.acvp_http.proofs.ReplyLemmas.{framed_is}
use Rattle.acvp_http.proofs.reply.refusal_text.Goals as goal

pub returns : goal.returns
returns c =
    framed_is (rule_status c.args.rule) c.status.result
    (option_copied c.args.date) c.args.fields.now c.head-text.result c.as_slice.result.now
    (error_body c.args.rule) c.push.new.self c.len.result c.status.ensures.value
    (c.as_slice.ensures ∙ c.error_body-body.ensures.value)
    (c.len.ensures ∙ ap length c.error_body-body.ensures.value) c.head-text.ensures.value c.push.ensures.bytes
