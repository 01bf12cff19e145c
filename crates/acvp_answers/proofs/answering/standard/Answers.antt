use Rattle.std.proofs.Common.{◌≡◌, ◌+◌, ◌<◌, ◌∷◌, ◌∙◌, drop, length, get_or, sym, ap}
use Rattle.std.proofs.lemmas.List.{drop_more}
use Rattle.acvp_answers.specs.Standards.{standard_of}
use Rattle.acvp_answers.proofs.StandardLemmas.{first_group, one_group_more}
use Rattle.acvp_answers.proofs.answering.standard.Goals as goal

pub answer_group-requires-clause-next : goal.answer_group-requires-clause-next
answer_group-requires-clause-next c =
    let is : c.group-item.result ≡ get_or c.args.prompts.now.groups c.loop-group.group-index c.group-item.result =
    rw c.groups-group-items.ensures.value at c.group-item.is in
    let within : c.loop-group.group-index < length c.args.prompts.now.groups =
    rw c.groups-group-items.ensures.value at c.loop-group-test.true in
    let next : drop c.loop-group.group-index c.args.prompts.now.groups ≡ c.group-item.result
    ∷ drop (c.loop-group.group-index + 1) c.args.prompts.now.groups =
    drop_more c.args.prompts.now.groups c.loop-group.group-index c.group-item.result within
    ∙ ap (λ g. g ∷ drop (c.loop-group.group-index + 1) c.args.prompts.now.groups) (sym is) in
    (first_group (length c.loop-group.answers) c.group-item.result
    (drop c.loop-group.group-index c.args.prompts.now.groups)
    (drop (c.loop-group.group-index + 1) c.args.prompts.now.groups) next c.loop-group.invariant.2).0

pub loop-group-preserved : goal.loop-group-preserved
loop-group-preserved c =
    let is : c.group-item.result ≡ get_or c.args.prompts.now.groups c.loop-group.group-index c.group-item.result =
    rw c.groups-group-items.ensures.value at c.group-item.is in
    let within : c.loop-group.group-index < length c.args.prompts.now.groups =
    rw c.groups-group-items.ensures.value at c.loop-group-test.true in
    let next : drop c.loop-group.group-index c.args.prompts.now.groups ≡ c.group-item.result
    ∷ drop (c.loop-group.group-index + 1) c.args.prompts.now.groups =
    drop_more c.args.prompts.now.groups c.loop-group.group-index c.group-item.result within
    ∙ ap (λ g. g ∷ drop (c.loop-group.group-index + 1) c.args.prompts.now.groups) (sym is) in
    one_group_more c.hash-name.result c.loop-group.answers c.answer_group.new.answers
    (standard_of c.args.prompts.now) c.group-item.result
    (drop c.loop-group.group-index c.args.prompts.now.groups)
    (drop (c.loop-group.group-index + 1) c.args.prompts.now.groups) next
    c.in_ok-answer_group.ensures.value c.in_ok-answer_group.ensures.before c.loop-group.invariant
