use Rattle.std.proofs.Common.{◌≡◌, ◌+◌, ◌++◌, drop, length, map}
use Rattle.std.specs.List.{flat_map, range_with_len}
use Rattle.std.specs.Map.{keys_of}
use Rattle.acvp_gen.specs.Prompts.{tests_in}
use Rattle.acvp_answers.specs.Standards.{group_answers, standard_of}
use Rattle.acvp_answers.proofs.answering.standard.Given as goal

abbrev pub invariant-loop-group : goal.invariant-loop-group
invariant-loop-group l =
    (l.answers ++ flat_map (group_answers l.name) (drop l.group-index l.prompts.groups) ≡ standard_of l.prompts)
    × (keys_of l.answers ≡ range_with_len 1 (length l.answers))
    × (map (λ t. t.number) (tests_in (drop l.group-index l.prompts.groups)) ≡ range_with_len (length l.answers + 1)
    (length (tests_in (drop l.group-index l.prompts.groups))))
