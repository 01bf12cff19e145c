use Rattle.acvp_desk.proofs.Allowed.{algorithm_there, reviewer_found_there, session_found_there, set_found_there}
use Rattle.acvp_desk.proofs.draft.draft_place.Goals as goal

pub draft_algorithm-requires : goal.draft_algorithm-requires
draft_algorithm-requires c =
    algorithm_there c.args.moment c.args.caller c.requires.held c.in-Algorithm.number c.in-Algorithm.is

pub returns-in-CancelSet-clause-reply : goal.returns-in-CancelSet-clause-reply
returns-in-CancelSet-clause-reply c = rw (c.in-CancelSet.is) c.draft_cancelled.ensures.reply

pub returns-in-Certify-clause-reply : goal.returns-in-Certify-clause-reply
returns-in-Certify-clause-reply c = rw (c.in-Certify.is, ← c.acting-account.ensures) c.draft_certification.ensures.reply

pub returns-in_default-clause-denied : goal.returns-in_default-clause-denied
returns-in_default-clause-denied c =
    absurd (session_found_there c.args.moment c.args.caller c.requires.held c.in-Session.number c.in-Session.found
    c.in-Session.it c.in-Session.is c.in_default.is)

pub returns-in_default-found-clause-denied : goal.returns-in_default-found-clause-denied
returns-in_default-found-clause-denied c =
    absurd (reviewer_found_there c.args.moment c.args.caller c.requires.held c.in-Reviewer.session
    c.in-Reviewer.reviewer c.in-Reviewer.found c.in-Reviewer.accounts c.in-Reviewer.is c.in_default-found.is)

pub returns-in_default-found-2-clause-denied : goal.returns-in_default-found-2-clause-denied
returns-in_default-found-2-clause-denied c =
    absurd (set_found_there c.args.moment c.args.caller c.requires.held c.in-Set.session c.in-Set.number c.in-Set.found
    c.in-Set.it c.in-Set.is c.in_default-found-2.is)
