use Rattle.acvp_store.proofs.Words.{Begins, no_schema, state, Under}
use Rattle.acvp_store.proofs.KeptPromises.{MakesAll, begins, written_as}
use Rattle.acvp_store.proofs.store.make_tables.Goals as goal

pub returns : goal.returns
returns g c = written_as c.commit.result (state g.S.Store c.args.connection.now)
    (state g.S.Store c.commit.new.conn) MakesAll (Under no_schema Begins) begins c.commit.ensures
