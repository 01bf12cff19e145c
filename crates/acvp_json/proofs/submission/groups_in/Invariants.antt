use Rattle.std.proofs.Common.{◌≡◌, ◌++◌, map, option_map, drop}
use Rattle.serde_json.specs.View.{items_view}
use Rattle.acvp_json.specs.Elements.{each}
use Rattle.acvp_json.specs.SubmittedAnswers.{group_of}
use Rattle.acvp_json.proofs.submission.groups_in.Given as goal

abbrev pub invariant-loop-item : goal.invariant-loop-item
invariant-loop-item l =
    option_map (λ more. map (λ g. g.items) l.groups.items ++ more)
    (each group_of (items_view (drop l.item-index l.item-items)))
    ≡ each group_of (items_view l.item-items)
