use Rattle.std.proofs.Common.{◌≡◌, drop}
use Rattle.std.specs.Prelude.{nat_le}
use Rattle.serde_json.specs.Data.{items_depth, members_depth}
use Rattle.serde_json.specs.View.{items_view, members_view}
use Rattle.acvp_registry.proofs.depth.+depth.Given as goal

abbrev pub invariant-items_are_within-loop-item : goal.invariant-items_are_within-loop-item
invariant-items_are_within-loop-item l = nat_le (items_depth (items_view (drop l.item-index l.item-items))) l.limit
    ≡ nat_le (items_depth (items_view l.item-items)) l.limit

abbrev pub invariant-members_are_within-loop-member : goal.invariant-members_are_within-loop-member
invariant-members_are_within-loop-member l = nat_le (members_depth (members_view l.member-iterator)) l.limit
    ≡ nat_le (members_depth (members_view l.members.entries)) l.limit
