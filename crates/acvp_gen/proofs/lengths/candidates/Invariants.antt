use Rattle.std.proofs.Common.{◌≡◌, ◌++◌, drop}
use Rattle.std.specs.Prelude.{filter}
use Rattle.acvp_gen.specs.Choice.{has}
use Rattle.acvp_gen.specs.Private.Candidates.{candidates}
use Rattle.acvp_gen.proofs.lengths.candidates.Given as goal

abbrev pub invariant-loop-edge : goal.invariant-loop-edge
invariant-loop-edge l = l.lengths.items ++ filter (has l.domain) (drop l.edge-index l.edges)
    ≡ candidates l.edges l.domain
