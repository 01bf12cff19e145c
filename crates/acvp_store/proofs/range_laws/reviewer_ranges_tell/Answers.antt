use Rattle.acvp_store.proofs.ReviewerRanges.{reviewers_joined, reviewers_tree}
use Rattle.acvp_store.proofs.OneList.{same_reviewers}
use Rattle.acvp_store.proofs.range_laws.reviewer_ranges_tell.Goals as goal

pub returns : goal.returns
returns c = record { whole = reviewers_joined; same = same_reviewers; tree = reviewers_tree }
