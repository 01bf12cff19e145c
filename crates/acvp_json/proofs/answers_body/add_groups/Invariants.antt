use Rattle.std.proofs.Common.{◌≡◌, drop, map}
use Rattle.acvp_json.specs.Elements.{joined}
use Rattle.acvp_json.specs.Private.AnswersReading.{after_all}
use Rattle.acvp_json.proofs.answers_body.add_groups.Given as goal

abbrev pub invariant-loop-group : goal.invariant-loop-group
invariant-loop-group l =
    after_all l.prompts l.answers (joined (map (λ g. g.items) (drop l.group-index l.groups)))
    ≡ after_all l.prompts l.fn.answers (joined (map (λ g. g.items) l.groups))
