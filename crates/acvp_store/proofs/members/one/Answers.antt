use Rattle.acvp_store.proofs.Words.{arith, rules}
use Rattle.acvp_store.proofs.Told.{none_found, one_found}
use Rattle.acvp_store.proofs.members.one.Goals as goal

pub returns-in-None-clause-found : goal.returns-in-None-clause-found
returns-in-None-clause-found g c list reads same =
    none_found g.T.Member.shown list c.args.rows.now same (search rules)

pub returns-in-Ok-clause-found : goal.returns-in-Ok-clause-found
returns-in-Ok-clause-found g c list reads same =
    one_found g.T.Member.reads g.T.Member.shown list c.args.rows.now c.in-Some.row.now c.in-Ok.x reads same
    (omega arith) (search rules) c.in-Ok.ensures.known
