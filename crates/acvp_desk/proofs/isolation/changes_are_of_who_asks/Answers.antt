use Rattle.acvp_desk.proofs.AddedReviewer.{asked_for}
use Rattle.acvp_desk.proofs.ChangesOwn.{of_account}
use Rattle.acvp_desk.proofs.isolation.changes_are_of_who_asks.Goals as goal

pub returns : goal.returns
returns g = record {
  account = λ keys moment r state u it well is makes.
      (of_account g.granted_resources.ensures.own g.grants_name_the_account.ensures g.numbers_tell.ensures.reviewer
      g.numbers_name.ensures.set keys moment r u state it well is makes).0;
  reviewer = λ keys moment r state s a makes. asked_for keys moment r state s a makes;
}
