use Rattle.acvp_answers.specs.Answer.{shown_texts}
use Rattle.acvp_answers.proofs.MapLemmas.{keys_same}
use Rattle.acvp_answers.proofs.answers.Answers.iter.Goals as goal

pub returns-clause-ascending : goal.returns-clause-ascending
returns-clause-ascending c =
    rw (← c.self.view_is, keys_same shown_texts c.self.inside.texts.entries) c.iter-entries.ensures.ordered
