use Rattle.acvp_json.proofs.KeptLemmas.{kept_exactly}
use Rattle.acvp_json.proofs.kept_answers.answers_from_text.Goals as goal

pub returns-clause-exact : goal.returns-clause-exact
returns-clause-exact c = kept_exactly c.args.text.now
