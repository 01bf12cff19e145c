-- The body of a refusal.
use Rattle.std.specs.Prelude.{ℕ, List, codes}
use Rattle.acvp_json.specs.Data.{Data, string, object, no_members, member}
use Rattle.acvp_json.specs.Written.{body_of}
use Rattle.acvp_policy.specs.Rule.{rule_word}
use Rattle.acvp_policy.specs.declared.rule.Rule.{Rule}

-- the object that names a rule
abbrev pub error_data : Rule → Data
error_data rule = object (member (codes "error") (string (rule_word rule)) no_members)

-- the body that names it
unfoldable pub error_body : Rule → List ℕ
error_body rule = body_of (error_data rule)
