use Rattle.std.proofs.Common.{◌≡◌, ◌++◌, option_map, drop}
use Rattle.serde_json.specs.View.{items_view}
use Rattle.acvp_json.specs.Elements.{each}
use Rattle.acvp_json.specs.SubmittedAnswers.{given_of}
use Rattle.acvp_json.proofs.submission.tests_in.Given as goal

abbrev pub invariant-loop-item : goal.invariant-loop-item
invariant-loop-item l =
    option_map (λ more. l.tests.items ++ more) (each (given_of l.group) (items_view (drop l.item-index l.item-items)))
    ≡ each (given_of l.group) (items_view l.item-items)
