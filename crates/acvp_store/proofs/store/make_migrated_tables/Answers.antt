use Rattle.acvp_store.proofs.Words.{BecomesMigrated, no_schema, state, Under}
use Rattle.acvp_store.proofs.KeptPromises.{MakesMigrated, becomes_migrated, written_as}
use Rattle.acvp_store.proofs.store.make_migrated_tables.Goals as goal

pub returns : goal.returns
returns g c = written_as c.commit.result (state g.S.Store c.args.connection.now)
    (state g.S.Store c.commit.new.conn) MakesMigrated
    (Under no_schema BecomesMigrated) becomes_migrated c.commit.ensures
