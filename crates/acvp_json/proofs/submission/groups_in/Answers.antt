use Rattle.std.proofs.Common.{[], ◌∷◌, map}
use Rattle.std.proofs.lemmas.List.{map-append}
use Rattle.acvp_json.specs.SubmittedAnswers.{group_of}
use Rattle.acvp_json.proofs.AnswersLemmas.{each-more}
use Rattle.acvp_json.proofs.submission.groups_in.Goals as goal

pub loop-item-preserved : goal.loop-item-preserved
loop-item-preserved c =
    rw (c.in_ok-push.ensures.items, map-append (λ g. g.items) c.loop-item.groups.items (c.in_ok-group_in.field-0 ∷ []))
    (each-more group_of c.deref-item-items.result.now c.loop-item.item-index c.item-item.result
    (map (λ g. g.items) c.loop-item.groups.items) c.in_ok-group_in.field-0.items _ c.loop-item-test.true c.item-item.is
    c.in_ok-group_in.ensures c.loop-item.invariant)
