use Rattle.std.proofs.Common.{◌≡◌, drop}
use Rattle.acvp_json.specs.Private.AnswersReading.{after_all}
use Rattle.acvp_json.proofs.answers_body.add_group.Given as goal

abbrev pub invariant-loop-given : goal.invariant-loop-given
invariant-loop-given l =
    after_all l.prompts l.answers (drop l.given-index l.group) ≡ after_all l.prompts l.fn.answers l.group
