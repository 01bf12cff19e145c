-- The body of each refusal, computed.
use Rattle.std.proofs.Common.{◌≡◌, ◌++◌, codes, refl}
use Rattle.serde_json.proofs.OnLiterals.{serde_json_on_literals}
use Rattle.acvp_json.specs.Written.{body_of}
use Rattle.acvp_policy.specs.Rule.{rule_word}
use Rattle.acvp_policy.specs.declared.rule.Rule.{Rule}
use Rattle.acvp_policy.specs.declared.rule.Rule.TheVariants.{BadHead}
use Rattle.acvp_desk.specs.Errors.{error_body}

pub named : (rule : Rule)
    → error_body rule ≡ codes "[{\"acvVersion\":\"1.0\"},{\"error\":\"" ++ rule_word rule ++ codes "\"}]"
unfolding serde_json_on_literals body_of error_body
named BadHead = refl
named _ = refl
