use Rattle.std.proofs.Common.{◌∙◌, ◌≡◌}
use Rattle.std.specs.Prelude.{vec_len}
use Rattle.acvp_answers.proofs.CloneLemmas.{shown-clone}
use Rattle.acvp_answers.proofs.answers.AnswersClone.clone.Goals as goal

-- src/answers.rt:33:5
pub returns : goal.returns
returns c = record {
  cases = shown-clone (λ v w. vec_len w ≡ vec_len v) _ _ c.in_ok-texts.ensures.cases
      ∙ c.self.view_is;
}
