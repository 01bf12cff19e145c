use Rattle.std.proofs.Common.{arith}
use Rattle.std.proofs.lemmas.Bool.Decides.{nat_tests}
use Rattle.acvp_tables.specs.State.{state_of}
use Rattle.acvp_desk.specs.Place.{session_facts}
use Rattle.acvp_desk.proofs.SetLemmas.{no_set_elsewhere}
use Rattle.acvp_desk.proofs.find.set_facts.Goals as goal

pub returns-then-number-session-clause-found : goal.returns-then-number-session-clause-found
returns-then-number-session-clause-found g c =
    λ live seeds content kept h. no_set_elsewhere c.numbers_name.ensures.set
    (session_facts seeds (state_of content) c.args.session) c.args.session c.args.number
    (state_of content) kept.sound (grind (arith, nat_tests, c.if-number-session.true))
