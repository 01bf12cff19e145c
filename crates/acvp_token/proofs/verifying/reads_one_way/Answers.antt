use Rattle.acvp_token.specs.Keys.{one_key, named_key}
use Rattle.acvp_token.proofs.Agreement.{reads-unique}
use Rattle.acvp_token.proofs.verifying.reads_one_way.Goals as goal

pub returns-clause-key : goal.returns-clause-key
returns-clause-key c = λ key. reads-unique (one_key key)

pub returns-clause-ring : goal.returns-clause-ring
returns-clause-ring c = λ ring. reads-unique (named_key ring)
