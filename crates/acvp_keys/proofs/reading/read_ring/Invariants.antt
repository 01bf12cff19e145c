use Rattle.std.proofs.Common.{take}
use Rattle.acvp_keys.specs.KeysFile.{IsTokenLine}
use Rattle.acvp_keys.specs.Private.Taking.{StartsWithLines}
use Rattle.acvp_keys.proofs.reading.read_ring.Given as goal

abbrev pub invariant-loop-count : goal.invariant-loop-count
invariant-loop-count l = StartsWithLines IsTokenLine l.fn.text (take l.count l.entries) l.rest
