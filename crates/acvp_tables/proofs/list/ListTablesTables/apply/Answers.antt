use Rattle.acvp_tables.proofs.MadeLemmas.{made}
use Rattle.acvp_tables.proofs.Numbers.{once}
use Rattle.acvp_tables.proofs.list.ListTablesTables.apply.Goals as goal

-- src/list.rt:294:5
pub returns-in-KeepAnswers : goal.returns-in-KeepAnswers
returns-in-KeepAnswers c =
    rw c.in-KeepAnswers.is (made _ c.keep_answers.result c.args.self.now c.keep_answers.new.self _
    (λ sound. c.keep_answers.ensures.ok (once c.args.self.now sound c.in-KeepAnswers.kept.set))
    c.keep_answers.ensures.err c.keep_answers.ensures.memory)
