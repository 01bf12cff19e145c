use Rattle.std.proofs.Common.{ap}
use Rattle.acvp_desk.specs.declared.found.SessionPlace.TheVariants.{Read, Results, ListSets, ListReviewers, AddReviewer}
use Rattle.acvp_desk.proofs.find.session_place.Goals as goal

pub returns-in_ok-set_numbers-in-Read-clause-found : goal.returns-in_ok-set_numbers-in-Read-clause-found
returns-in_ok-set_numbers-in-Read-clause-found g c =
    λ live seeds content kept h.
    rw (c.in-Read.is) (ap Read (c.in_ok-set_numbers-in-Read.ensures.found live seeds content kept h))

pub returns-in_ok-set_numbers-in-ListSets-clause-found : goal.returns-in_ok-set_numbers-in-ListSets-clause-found
returns-in_ok-set_numbers-in-ListSets-clause-found g c =
    λ live seeds content kept h.
    rw (c.in-ListSets.is) (ap ListSets (c.in_ok-set_numbers-in-ListSets.ensures.found live seeds content kept h))

pub returns-in_ok-reviewers-in-ListReviewers-clause-found : goal.returns-in_ok-reviewers-in-ListReviewers-clause-found
returns-in_ok-reviewers-in-ListReviewers-clause-found g c =
    λ live seeds content kept h.
    rw (c.in-ListReviewers.is)
    (ap ListReviewers (c.in_ok-reviewers-in-ListReviewers.ensures.found live seeds content kept h))

pub returns-in_ok-set_outcomes-in-Results-clause-found : goal.returns-in_ok-set_outcomes-in-Results-clause-found
returns-in_ok-set_outcomes-in-Results-clause-found g c =
    λ live seeds content kept h.
    rw (c.in-Results.is) (ap Results (c.in_ok-set_outcomes-in-Results.ensures.found live seeds content kept h))

pub returns-in_ok-reviewers-in-AddReviewer-clause-found : goal.returns-in_ok-reviewers-in-AddReviewer-clause-found
returns-in_ok-reviewers-in-AddReviewer-clause-found g c =
    λ live seeds content kept h.
    rw (c.in-AddReviewer.is) (ap AddReviewer
    (c.in_ok-reviewers-in-AddReviewer.ensures.found live seeds content kept h))
