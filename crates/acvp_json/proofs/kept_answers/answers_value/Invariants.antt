use Rattle.std.proofs.Common.{◌≡◌, ◌++◌, map}
use Rattle.serde_json.specs.View.{view}
use Rattle.acvp_json.specs.KeptAnswers.{answer_data}
use Rattle.acvp_json.proofs.kept_answers.answers_value.Given as goal

abbrev pub invariant-loop-number : goal.invariant-loop-number
invariant-loop-number l =
    map view l.values.items ++ map answer_data l.number-iterator ≡ map answer_data l.answers
