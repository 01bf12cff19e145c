use Rattle.std.proofs.Common.{take, arith}
use Rattle.std.proofs.lemmas.List.{take_more_set}
use Rattle.acvp_keys.specs.KeysFile.{IsTokenLine}
use Rattle.acvp_keys.proofs.KeysLemmas.{take_line}
use Rattle.acvp_keys.proofs.reading.read_ring.Goals as goal

pub loop-count-preserved : goal.loop-count-preserved
loop-count-preserved c =
    rw (take_more_set c.loop-count.entries c.loop-count.count c.in-Some.entry (omega arith))
    (take_line IsTokenLine c.args.text.now (take c.loop-count.count c.loop-count.entries) c.in-Some.entry
    c.loop-count.rest.now c.in-Some.after.now c.loop-count.invariant c.in-Some.ensures)
