use Rattle.acvp_store.proofs.Words.{Migrated, Moves, schema_at, Second, state, Under}
use Rattle.acvp_store.proofs.MadeTables.{MovesSecondBeside, second_beside_moves}
use Rattle.acvp_store.proofs.KeptPromises.{written_as}
use Rattle.acvp_store.proofs.migration.move_second_beside.Goals as goal

pub returns : goal.returns
returns g c = written_as c.commit.result (state g.S.Store c.args.connection.now)
    (state g.S.Store c.commit.new.conn) MovesSecondBeside
    (Under (schema_at (Second Migrated)) (Moves (Second Migrated))) second_beside_moves c.commit.ensures
