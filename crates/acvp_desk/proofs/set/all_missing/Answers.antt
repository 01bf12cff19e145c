use Rattle.std.proofs.Common.{◌≤◌, length, arith}
use Rattle.acvp_desk.proofs.SetLemmas.{all_told}
use Rattle.acvp_desk.proofs.set.all_missing.Goals as goal

pub returns : goal.returns
returns c =
    let past : length c.groups-group-items.result.now ≤ c.loop-group.group-index =
    omega (arith, c.loop-group-test.false, c.loop-group.auto.group-index-end) in
    all_told c.args.prompts.now c.loop-group.verdicts.items c.loop-group.group-index
    (rw c.groups-group-items.ensures.value at past) c.loop-group.invariant
