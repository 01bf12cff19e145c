use Rattle.std.proofs.Common.{None, Some}
use Rattle.acvp_desk.proofs.SetLemmas.{verdicts_found}
use Rattle.acvp_desk.proofs.find.set_verdicts.Goals as goal

pub returns-in-Some-clause-found : goal.returns-in-Some-clause-found
returns-in-Some-clause-found g c =
    λ live seeds content kept h. verdicts_found c.selections_follow.ensures.set seeds content c.args.number
    (Some c.in-Some.verdicts.items) kept
    (rw (c.in-Some.is) at (c.in_ok-verdicts.ensures.found live content kept.sound h))

pub returns-in-None-clause-found : goal.returns-in-None-clause-found
returns-in-None-clause-found g c =
    λ live seeds content kept h. verdicts_found c.selections_follow.ensures.set seeds content c.args.number None kept
    (rw (c.in-None.is) at (c.in_ok-verdicts.ensures.found live content kept.sound h))
