use Rattle.acvp_desk.proofs.ToldReviewers.{added_is_told, removed_is_told}
use Rattle.acvp_desk.proofs.laws.reviewers_are_told.Goals as goal

pub returns : goal.returns
returns c = record {
  added = added_is_told;
  removed = removed_is_told;
}
