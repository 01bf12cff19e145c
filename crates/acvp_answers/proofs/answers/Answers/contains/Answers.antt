use Rattle.acvp_answers.proofs.AnswerLemmas.{is_answered_by}
use Rattle.acvp_answers.proofs.answers.Answers.contains.Goals as goal

pub returns : goal.returns
returns c = rw c.self.view_is at
    (is_answered_by c.self.inside.texts c.args.number c.contains_key.result c.contains_key.ensures)
