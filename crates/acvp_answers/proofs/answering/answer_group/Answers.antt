use Rattle.std.proofs.Common.{◌≡◌, ◌+◌, ◌<◌, ◌∷◌, ◌++◌, ◌∙◌, drop, length, get_or, sym, ap}
use Rattle.std.proofs.lemmas.List.{drop_more}
use Rattle.acvp_answers.specs.Standards.{texts_on, group_answers}
use Rattle.acvp_answers.proofs.StandardLemmas.{one_answer_more}
use Rattle.acvp_answers.proofs.answering.answer_group.Goals as goal

pub loop-test-preserved : goal.loop-test-preserved
loop-test-preserved c =
    let is : c.test-item.result ≡ get_or c.args.group.now.tests c.loop-test.test-index c.test-item.result =
    rw c.tests-test-items.ensures at c.test-item.is in
    let within : c.loop-test.test-index < length c.args.group.now.tests =
    rw c.tests-test-items.ensures at c.loop-test-test.true in
    let next : drop c.loop-test.test-index c.args.group.now.tests ≡ c.test-item.result
    ∷ drop (c.loop-test.test-index + 1) c.args.group.now.tests =
    drop_more c.args.group.now.tests c.loop-test.test-index c.test-item.result within
    ∙ ap (λ t. t ∷ drop (c.loop-test.test-index + 1) c.args.group.now.tests) (sym is) in
    one_answer_more (λ t. texts_on c.args.name c.args.group.now.form t) c.loop-test.answers
    c.insert.new.self
    (c.args.answers.now ++ group_answers c.args.name c.args.group.now) c.test-item.result
    (drop c.loop-test.test-index c.args.group.now.tests) (drop (c.loop-test.test-index + 1) c.args.group.now.tests)
    c.in_ok-insert.field-0 _ next c.in_ok-texts.ensures
    (rw c.number.ensures at c.in_ok-insert.ensures) c.loop-test.invariant
