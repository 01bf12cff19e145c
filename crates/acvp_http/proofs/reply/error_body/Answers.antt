use Rattle.std.proofs.Common.{codes, ◌∙◌, sym, ap, ◌++◌}
use Rattle.acvp_policy.specs.Rule.{rule_word}
use Rattle.acvp_http.proofs.ReplyLemmas.{written_thrice}
use Rattle.acvp_http.proofs.reply.error_body.Goals as goal

pub returns-clause-value : goal.returns-clause-value
returns-clause-value c =
    written_thrice c.new-body.result c.push.new.self c.push-2.new.self c.push-3.new.self
    (codes "[{\"acvVersion\":\"1.0\"},{\"error\":\"") (rule_word c.args.rule)
    (codes "\"}]") c.new-body.ensures c.push.ensures.bytes
    (c.push-2.ensures.bytes ∙ ap (λ w. c.push.new.self ++ w) (c.as_bytes.ensures.value
    ∙ c.word.ensures.value)) c.push-3.ensures.bytes
    ∙ sym (c.errors_are_named.ensures c.args.rule)
