use Rattle.acvp_store.proofs.Words.{IsAfterMigration, state}
use Rattle.acvp_store.proofs.Versions.{left_as_committed}
use Rattle.acvp_store.proofs.store.migrate_from.Goals as goal

pub returns-in-Ok-false-clause-left : goal.returns-in-Ok-false-clause-left
returns-in-Ok-false-clause-left g c =
    let old = c.args.connection in
    left_as_committed (state g.S.Store old) (state g.S.Store c.is_earlier.new.conn)
    (IsAfterMigration (state g.S.Store old).now)
    (λ db live may. g.met.S.Store.settled old.store db live may) c.in-Ok-false.ensures.read.left

pub returns-in-Err-clause-left : goal.returns-in-Err-clause-left
returns-in-Err-clause-left g c =
    let old = c.args.connection in
    left_as_committed (state g.S.Store old) (state g.S.Store c.is_earlier.new.conn)
    (IsAfterMigration (state g.S.Store old).now)
    (λ db live may. g.met.S.Store.settled old.store db live may) c.in-Err.ensures.read.left
