use Rattle.acvp_store.proofs.Words.{Created, Moves, schema_at, Second, state, Under}
use Rattle.acvp_store.proofs.MadeTables.{MovesSecond, second_moves}
use Rattle.acvp_store.proofs.KeptPromises.{written_as}
use Rattle.acvp_store.proofs.migration.move_second.Goals as goal

pub returns : goal.returns
returns g c = written_as c.commit.result (state g.S.Store c.args.connection.now)
    (state g.S.Store c.commit.new.conn) MovesSecond
    (Under (schema_at (Second Created)) (Moves (Second Created))) second_moves c.commit.ensures
