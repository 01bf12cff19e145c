use Rattle.std.proofs.Common.{ap, sym}
use Rattle.std.specs.Prelude.{not}
use Rattle.acvp_tables.specs.State.{state_of}
use Rattle.acvp_desk.proofs.FoundRows.{if_ok, reviewer_is}
use Rattle.acvp_desk.proofs.find.reviewer.Goals as goal

pub returns-clause-found : goal.returns-clause-found
returns-clause-found g c =
    λ clean. if_ok c.reviews.result
    (λ found seen seeds content kept h. reviewer_is c.args.ask.now c.in-Caller.caller c.in-Verified.claims found
    (state_of content)
    c.in-Caller.is c.in-Verified.is (ap not (sym c.if-is_some.ensures)) (seen seeds content kept h))
    (c.reviews.ensures.found clean)
