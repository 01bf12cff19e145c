use Rattle.std.proofs.Common.{◌≡◌, ◌++◌, drop, map}
use Rattle.acvp_gen.specs.Choice.{hash_test}
use Rattle.acvp_gen.proofs.choice.hash_shape.Given as goal

abbrev pub invariant-loop-length : goal.invariant-loop-length
invariant-loop-length l = l.tests.items ++ map hash_test (drop l.length-index l.lengths) ≡ map hash_test l.lengths
