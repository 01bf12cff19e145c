use Rattle.std.proofs.Common.{◌≡◌, ◌+◌, ◌++◌, drop, length, map}
use Rattle.std.specs.List.{range_with_len}
use Rattle.std.specs.Map.{keys_of}
use Rattle.acvp_answers.specs.Standards.{texts_on, group_answers}
use Rattle.acvp_answers.proofs.answering.answer_group.Given as goal

abbrev pub invariant-loop-test : goal.invariant-loop-test
invariant-loop-test l =
    (l.answers ++ map (λ t. (t.number, texts_on l.name l.group.form t)) (drop l.test-index l.group.tests)
    ≡ l.fn.answers ++ group_answers l.name l.group)
    × (keys_of l.answers ≡ range_with_len 1 (length l.answers))
    × (map (λ t. t.number) (drop l.test-index l.group.tests) ≡ range_with_len (length l.answers + 1)
    (length (drop l.test-index l.group.tests)))
