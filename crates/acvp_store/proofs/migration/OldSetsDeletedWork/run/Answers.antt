use Rattle.acvp_store.proofs.Words.{[], EmptiesOldSets, Migrated, schema_of, state}
use Rattle.acvp_store.proofs.Texts.{delete_sets, deletes_sets}
use Rattle.acvp_store.proofs.Together.{inside}
use Rattle.acvp_store.proofs.MadeTables.{delete_effect}
use Rattle.acvp_store.proofs.migration.OldSetsDeletedWork.run.Goals as goal

pub returns-clause-inside : goal.returns-clause-inside
returns-clause-inside g c =
    let old = state g.S.Store c.args.tx.now.conn.now in
    inside (schema_of Migrated) delete_sets [] _ _ _ deletes_sets (λ count w. w) EmptiesOldSets (delete_effect old) _
    c.perform.ensures.performed
