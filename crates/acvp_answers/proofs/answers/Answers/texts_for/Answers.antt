use Rattle.std.proofs.Common.{◌≡◌, option_map}
use Rattle.acvp_answers.specs.Verdicts.{answer_to}
use Rattle.acvp_answers.specs.Answer.{shown_texts}
use Rattle.acvp_answers.proofs.AnswerLemmas.{answer_read}
use Rattle.acvp_answers.proofs.answers.Answers.texts_for.Goals as goal

pub returns-in-Some : goal.returns-in-Some
returns-in-Some c =
    let read : option_map (λ ts. shown_texts ts.now) c.get.result ≡ answer_to c.args.self.now c.args.number =
    answer_read c.self.inside.texts.entries c.args.self.now c.args.number c.get.result c.self.view_is
    c.get.ensures.value in
    rw c.deref.ensures.value (rw c.in-Some.is at read)

pub returns-in-None : goal.returns-in-None
returns-in-None c =
    let read : option_map (λ ts. shown_texts ts.now) c.get.result ≡ answer_to c.args.self.now c.args.number =
    answer_read c.self.inside.texts.entries c.args.self.now c.args.number c.get.result c.self.view_is
    c.get.ensures.value in
    rw c.in-None.is at read
