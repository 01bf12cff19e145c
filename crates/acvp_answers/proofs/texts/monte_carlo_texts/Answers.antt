use Rattle.std.proofs.Common.{rules}
use Rattle.acvp_answers.specs.Standards.{monte_carlo_texts}
use Rattle.acvp_answers.proofs.texts.monte_carlo_texts.Goals as goal

pub returns : goal.returns
unfolding monte_carlo_texts
returns c = search rules
