use Rattle.acvp_tables.specs.State.{state_of}
use Rattle.acvp_desk.proofs.NextReviewer.{none_reviews}
use Rattle.acvp_desk.proofs.find.reviewed_facts.Goals as goal

pub returns-then-reviewer-gt9999-clause-found : goal.returns-then-reviewer-gt9999-clause-found
returns-then-reviewer-gt9999-clause-found g c =
    λ live seeds content kept h. none_reviews c.numbers_tell.ensures.reviewer seeds
    (state_of content) c.args.session c.args.reviewer kept.sound c.if-reviewer-gt9999.true
