use Rattle.std.proofs.Common.{◌≡◌, ◌≤◌, length, map, drop}
use Rattle.serde_json.specs.Data.{no_members}
use Rattle.serde_json.specs.View.{view, members_view}
use Rattle.acvp_json.specs.Private.Placed.{placed, with_texts}
use Rattle.acvp_json.proofs.object.object.Given as goal

abbrev pub invariant-loop-name : goal.invariant-loop-name
invariant-loop-name g l =
    with_texts (map (λ t. (t.0.now, t.1.now)) (drop l.name-index l.texts)) (members_view l.members.entries)
    ≡ with_texts (map (λ t. (t.0.now, t.1.now)) l.texts) no_members

abbrev pub decreases-loop-value : goal.decreases-loop-value
decreases-loop-value g l = l.left.len

abbrev pub invariant-loop-value : goal.invariant-loop-value
invariant-loop-value g l = record {
  within : l.left.len ≤ length l.names;
  put : placed (map view l.left.items) (map (λ n. n.now) l.names) (members_view l.members.entries)
      ≡ placed (map view l.fn.values) (map (λ n. n.now) l.names)
      (with_texts (map (λ t. (t.0.now, t.1.now)) l.texts) no_members);
}
