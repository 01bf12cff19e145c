-- Facts that agree on the caller do so both ways.
use Rattle.std.proofs.Common.{sym}
use Rattle.acvp_policy.specs.declared.facts.Facts.{Facts}
use Rattle.acvp_policy.specs.Callers.{AgreeOnCaller}
use Rattle.acvp_policy.proofs.CallerRules.{caller_rule-kept, claims_conditions-agree}
use Rattle.acvp_policy.proofs.isolation.caller_rules_agree.Goals as goal

turned : (one other : Facts) → AgreeOnCaller one other → AgreeOnCaller other one
turned one other same = record {
  token = sym same.token;
  standing = sym same.standing;
  reviewer = sym same.reviewer;
  numbers = sym same.numbers;
}

pub returns : goal.returns
returns c = record {
  rules = λ action one other rule same on_caller. (
    caller_rule-kept action one other rule same on_caller,
    caller_rule-kept action other one rule (turned one other same) on_caller,
  );
  conditions = λ scope one other same. claims_conditions-agree scope one other same;
}
