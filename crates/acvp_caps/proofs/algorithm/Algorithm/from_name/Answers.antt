use Rattle.acvp_caps.proofs.Names.{named-means}
use Rattle.acvp_caps.proofs.algorithm.Algorithm.from_name.Goals as goal

pub returns-clause-name : goal.returns-clause-name
returns-clause-name c = rw c.algorithm_named.ensures (named-means c.args.name.now)
