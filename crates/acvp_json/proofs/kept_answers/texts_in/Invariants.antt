use Rattle.std.proofs.Common.{◌≡◌, ◌++◌, map, option_map, string_bytes, drop}
use Rattle.serde_json.specs.Find.{as_str}
use Rattle.serde_json.specs.View.{items_view}
use Rattle.acvp_json.specs.Elements.{each}
use Rattle.acvp_json.proofs.kept_answers.texts_in.Given as goal

abbrev pub invariant-loop-item : goal.invariant-loop-item
invariant-loop-item l =
    option_map (λ more. map string_bytes l.texts.items ++ more)
    (each as_str (items_view (drop l.item-index l.item-items)))
    ≡ each as_str (items_view l.item-items)
