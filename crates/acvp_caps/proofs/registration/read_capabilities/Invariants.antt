use Rattle.std.proofs.Common.{◌≡◌, None, take, length}
use Rattle.std.specs.Prelude.{map}
use Rattle.std.specs.List.{filter_map, flat_map}
use Rattle.serde_json.specs.View.{view}
use Rattle.acvp_caps.specs.Registered.{capability_at, capability_conditions}
use Rattle.acvp_mac.specs.Conditions.{first_broken}
use Rattle.acvp_caps.proofs.registration.read_capabilities.Given as goal

abbrev pub invariant-loop-value : goal.invariant-loop-value
invariant-loop-value l = record {
  read : l.capabilities.items ≡ filter_map capability_at (map view (take l.value-index l.values));
  count : length l.capabilities.items ≡ l.value-index;
  passed : first_broken (flat_map capability_conditions (map view (take l.value-index l.values))) ≡ None;
}
