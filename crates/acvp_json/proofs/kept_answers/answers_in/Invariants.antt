use Rattle.std.proofs.Common.{◌≡◌, ℕ, ◌++◌, true, None, option_map, drop}
use Rattle.std.specs.Prelude.{nat_lt}
use Rattle.std.specs.List.{list_all}
use Rattle.std.specs.Map.{keys_of}
use Rattle.serde_json.specs.View.{items_view}
use Rattle.acvp_json.specs.KeptAnswers.{answers_after, is_above}
use Rattle.acvp_json.proofs.kept_answers.answers_in.Given as goal

abbrev pub invariant-loop-item : goal.invariant-loop-item
invariant-loop-item l = record {
  read : option_map (λ more. l.answers ++ more) (answers_after l.last (items_view (drop l.item-index l.item-items)))
      ≡ answers_after None (items_view l.item-items);
  below : (n : ℕ) → is_above l.last n ≡ true → list_all (λ k. nat_lt k n) (keys_of l.answers) ≡ true;
}
