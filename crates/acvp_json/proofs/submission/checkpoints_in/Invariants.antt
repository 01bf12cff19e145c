use Rattle.std.proofs.Common.{◌≡◌, ◌++◌, map, option_map, drop}
use Rattle.std.specs.Prelude.{codes}
use Rattle.serde_json.specs.View.{items_view}
use Rattle.acvp_json.specs.Elements.{each}
use Rattle.acvp_json.specs.Members.{text_at}
use Rattle.acvp_json.proofs.submission.checkpoints_in.Given as goal

abbrev pub invariant-loop-result : goal.invariant-loop-result
invariant-loop-result l =
    option_map (λ more. map (λ t. t.now) l.texts.items ++ more)
    (each (text_at (codes "md")) (items_view (drop l.result-index l.result-items)))
    ≡ each (text_at (codes "md")) (items_view l.result-items)
