use Rattle.acvp_tables.proofs.AddedReviewers.{reviewers_added, reviewers_stay}
use Rattle.acvp_tables.proofs.laws.reviewers_are_added.Goals as goal

pub returns : goal.returns
returns k = record {
  change = λ s a it state there. reviewers_added s a it state there;
  order = λ it state. reviewers_stay it state;
}
