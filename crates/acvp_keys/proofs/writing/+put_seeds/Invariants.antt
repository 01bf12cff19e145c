use Rattle.std.proofs.Common.{length}
use Rattle.acvp_keys.proofs.writing.+put_seeds.Given as goal

abbrev pub decreases-put_seeds : goal.decreases-put_seeds
decreases-put_seeds l = length l.seeds.now
