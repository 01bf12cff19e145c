use Rattle.std.proofs.Common.{◌≡◌, true, take, map, length}
use Rattle.std.specs.List.{list_all, filter_map}
use Rattle.serde_json.specs.View.{view}
use Rattle.acvp_caps.specs.Registered.{item_of, is_item}
use Rattle.acvp_caps.proofs.item.read_items.Given as goal

abbrev pub invariant-loop-value : goal.invariant-loop-value
invariant-loop-value l = record {
  read : l.items.items ≡ filter_map item_of (map view (take l.value-index l.values));
  count : length l.items.items ≡ l.value-index;
  all : list_all is_item (map view (take l.value-index l.values)) ≡ true;
}
