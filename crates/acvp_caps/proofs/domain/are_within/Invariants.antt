use Rattle.std.proofs.Common.{◌≡◌, true, take}
use Rattle.std.specs.List.{list_all}
use Rattle.acvp_caps.specs.Items.{item_within}
use Rattle.acvp_caps.proofs.domain.are_within.Given as goal

abbrev pub invariant-loop-item : goal.invariant-loop-item
invariant-loop-item l = list_all (item_within l.low l.high) (take l.item-index l.items) ≡ true
