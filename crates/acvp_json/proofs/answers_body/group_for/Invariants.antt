use Rattle.std.proofs.Common.{◌≡◌, drop}
use Rattle.std.specs.Prelude.{find, ◌==◌, ◌&&◌}
use Rattle.acvp_json.specs.AnswersBody.{has_test}
use Rattle.acvp_json.proofs.answers_body.group_for.Given as goal

abbrev pub invariant-loop-group : goal.invariant-loop-group
invariant-loop-group l =
    find (λ g. (g.number == l.given.group) && has_test l.given.test g) (drop l.group-index l.prompts.groups)
    ≡ find (λ g. (g.number == l.given.group) && has_test l.given.test g) l.prompts.groups
