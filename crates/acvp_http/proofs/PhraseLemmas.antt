-- The phrases of the rules' status codes are short.
use Rattle.std.specs.Prelude.{◌≤◌, length}
use Rattle.std.proofs.Common.{lit≤}
use Rattle.acvp_policy.specs.declared.rule.Rule.{Rule}
use Rattle.acvp_policy.specs.declared.rule.Rule.TheVariants.{BadHead}
use Rattle.acvp_policy.specs.Rule.{rule_status}
use Rattle.acvp_http.specs.Reply.{phrase_of}

pub phrase_of-rule_status : (rule : Rule) → length (phrase_of (rule_status rule)) ≤ 31
phrase_of-rule_status BadHead = lit≤ tt
phrase_of-rule_status _ = lit≤ tt
