use Rattle.std.proofs.Common.{◌≡◌, map, take}
use Rattle.serde_json.specs.View.{view}
use Rattle.acvp_json.proofs.array.array.Given as goal

abbrev pub invariant-loop-element : goal.invariant-loop-element
invariant-loop-element g l =
    map view l.values.items ≡ map (g.S.Shows.data_of l.show) (take l.element-index l.elements)
