use Rattle.std.proofs.Common.{take, arith}
use Rattle.std.proofs.lemmas.List.{take_more_set}
use Rattle.acvp_keys.specs.KeysFile.{IsSeedLine}
use Rattle.acvp_keys.proofs.KeysLemmas.{take_line}
use Rattle.acvp_keys.proofs.reading.read_seeds.Goals as goal

pub loop-count-preserved : goal.loop-count-preserved
loop-count-preserved c =
    rw (take_more_set c.loop-count.seeds c.loop-count.count c.in-Some.read.0 (omega arith))
    (take_line IsSeedLine c.args.text.now (take c.loop-count.count c.loop-count.seeds) c.in-Some.read.0
    c.loop-count.rest.now c.in-Some.read.1.now c.loop-count.invariant c.in-Some.ensures)
