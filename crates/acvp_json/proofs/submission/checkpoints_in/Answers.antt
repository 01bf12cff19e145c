use Rattle.std.proofs.Common.{[], ◌∷◌, map, sym}
use Rattle.std.specs.Prelude.{codes}
use Rattle.std.proofs.lemmas.List.{map-append}
use Rattle.acvp_json.specs.Members.{text_at}
use Rattle.acvp_json.proofs.AnswersLemmas.{each-more}
use Rattle.acvp_json.proofs.submission.checkpoints_in.Goals as goal

pub loop-result-preserved : goal.loop-result-preserved
loop-result-preserved c =
    rw (c.in_ok-push.ensures.items, map-append (λ t. t.now) c.loop-result.texts.items (c.in-Some-text_at.text ∷ []))
    (each-more (text_at (codes "md")) c.deref-result-items.result.now c.loop-result.result-index c.result-item.result
    (map (λ t. t.now) c.loop-result.texts.items) c.in-Some-text_at.text.now _ c.loop-result-test.true c.result-item.is
    (sym c.in-Some-text_at.ensures) c.loop-result.invariant)
