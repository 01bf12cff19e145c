use Rattle.std.proofs.Common.{refl, sym, ◌∙◌}
use Rattle.acvp_answers.proofs.AnswerLemmas.{has_number, lacks_number}
use Rattle.acvp_answers.specs.Answer.{shown_texts}
use Rattle.acvp_answers.proofs.MapLemmas.{insert_same}
use Rattle.acvp_answers.proofs.answers.Answers.insert.Goals as goal

pub returns-then-contains_key : goal.returns-then-contains_key
returns-then-contains_key c = (
  rw c.self.view_is at (has_number c.self.inside.texts c.args.number (sym c.contains_key.ensures
      ∙ c.if-contains_key.true)),
  refl,
)

pub returns-in-Ok : goal.returns-in-Ok
returns-in-Ok c = (
  rw c.self.view_is at (lacks_number c.self.inside.texts c.args.number (sym c.contains_key.ensures
      ∙ c.if-contains_key.false)),
  rw (c.in-Ok.ensures.entries, ← c.self.view_is)
      (insert_same shown_texts c.self.inside.texts.entries c.args.number c.args.texts),
)
