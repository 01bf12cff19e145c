use Rattle.acvp_http.proofs.HeadlineLemmas.{leaves, tells}
use Rattle.acvp_http.proofs.promise.headline.Goals as goal

pub returns : goal.returns
returns c = record {
  told = λ keys earlier later turn old new answers runs.
      tells c.effects_follow.ensures.request c.effects_follow.ensures.order keys earlier later turn old new answers
      runs;
  left = λ keys turns old new answers runs.
      leaves c.effects_follow.ensures.request c.effects_follow.ensures.order keys turns old new answers runs;
}
