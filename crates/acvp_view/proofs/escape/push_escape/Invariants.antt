use Rattle.std.specs.Prelude.{◌≡◌, ◌++◌, string_bytes, take}
use Rattle.std.specs.List.{flat_map}
use Rattle.acvp_view.specs.Escaped.{escape_of_unit}
use Rattle.acvp_view.proofs.escape.push_escape.Given as goal

abbrev pub invariant-loop-unit : goal.invariant-loop-unit
invariant-loop-unit l =
    string_bytes l.shown ≡ string_bytes l.initial.shown ++ flat_map escape_of_unit (take l.unit-index l.unit-items)
