use Rattle.acvp_answers.proofs.VerdictTextLemmas.{same_verdicts}
use Rattle.acvp_answers.proofs.verdict_text.verdict_texts_read_one_way.Goals as goal

pub returns : goal.returns
returns c = λ one other e. same_verdicts one other e
