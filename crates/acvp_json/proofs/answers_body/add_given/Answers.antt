use Rattle.std.proofs.Common.{◌≡◌, inr, true}
use Rattle.acvp_answers.specs.Answer.{is_answered}
use Rattle.acvp_json.proofs.AnswersLemmas.{given_twice}
use Rattle.acvp_json.proofs.answers_body.add_given.Goals as goal

pub returns-then-contains : goal.returns-then-contains
returns-then-contains c =
    let before : true ≡ is_answered c.args.answers.now c.args.given.now.test =
    rw (← c.given.view_is) c.if-contains.ensures in
    inr (given_twice c.args.prompts.now c.args.answers.now c.args.given.now c.in-Some.group.now c.in-Some.ensures
    before)
