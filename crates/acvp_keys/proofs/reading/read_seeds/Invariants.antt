use Rattle.std.proofs.Common.{take}
use Rattle.acvp_keys.specs.KeysFile.{IsSeedLine}
use Rattle.acvp_keys.specs.Private.Taking.{StartsWithLines}
use Rattle.acvp_keys.proofs.reading.read_seeds.Given as goal

abbrev pub invariant-loop-count : goal.invariant-loop-count
invariant-loop-count l = StartsWithLines IsSeedLine l.fn.text (take l.count l.seeds) l.rest
