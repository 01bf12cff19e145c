use Rattle.acvp_store.proofs.Words.{First, Moves, schema_at, state, Under}
use Rattle.acvp_store.proofs.MadeTables.{MovesFirst, first_moves}
use Rattle.acvp_store.proofs.KeptPromises.{written_as}
use Rattle.acvp_store.proofs.migration.move_first.Goals as goal

pub returns : goal.returns
returns g c = written_as c.commit.result (state g.S.Store c.args.connection.now)
    (state g.S.Store c.commit.new.conn) MovesFirst (Under (schema_at First) (Moves First)) first_moves c.commit.ensures
