use Rattle.std.proofs.Common.{rules, ◌≡◌, ◌+◌, ◌∷◌, ◌∙◌, drop, map, sym, ap}
use Rattle.std.proofs.lemmas.List.{drop_more}
use Rattle.acvp_json.specs.Elements.{joined}
use Rattle.acvp_json.specs.Private.AnswersReading.{after_all}
use Rattle.acvp_json.proofs.AnswersLemmas.{groups_go_on, groups_end}
use Rattle.acvp_json.proofs.answers_body.add_groups.Goals as goal

pub returns-in_err-add_group : goal.returns-in_err-add_group
returns-in_err-add_group c =
    let next : drop c.loop-group.group-index c.args.groups.now ≡ c.group-item.result
    ∷ drop (c.loop-group.group-index + 1) c.args.groups.now =
    drop_more c.args.groups.now c.loop-group.group-index c.group-item.result c.loop-group-test.true
    ∙ ap (λ g. g ∷ drop (c.loop-group.group-index + 1) c.args.groups.now) (sym c.group-item.is) in
    let end = groups_end c.args.prompts.now c.loop-group.answers c.group-item.result.items
    (map (λ g. g.items) (drop (c.loop-group.group-index + 1) c.args.groups.now))
    (map (λ g. g.items) (drop c.loop-group.group-index c.args.groups.now))
    (after_all c.args.prompts.now c.args.answers.now (joined (map (λ g. g.items) c.args.groups.now)))
    c.in_err-add_group.field-0.0 (ap (λ gs. map (λ g. g.items) gs) next)
    (rw c.deref.ensures.value at c.in_err-add_group.ensures)
    c.loop-group.invariant in
    search rules

pub loop-group-preserved : goal.loop-group-preserved
loop-group-preserved c =
    let next : drop c.loop-group.group-index c.args.groups.now ≡ c.group-item.result
    ∷ drop (c.loop-group.group-index + 1) c.args.groups.now =
    drop_more c.args.groups.now c.loop-group.group-index c.group-item.result c.loop-group-test.true
    ∙ ap (λ g. g ∷ drop (c.loop-group.group-index + 1) c.args.groups.now) (sym c.group-item.is) in
    groups_go_on c.args.prompts.now c.loop-group.answers c.add_group.new.answers c.group-item.result.items
    (map (λ g. g.items) (drop (c.loop-group.group-index + 1) c.args.groups.now))
    (map (λ g. g.items) (drop c.loop-group.group-index c.args.groups.now))
    (after_all c.args.prompts.now c.args.answers.now (joined (map (λ g. g.items) c.args.groups.now)))
    (ap (λ gs. map (λ g. g.items) gs) next)
    (rw c.deref.ensures.value at c.in_ok-add_group.ensures) c.loop-group.invariant
