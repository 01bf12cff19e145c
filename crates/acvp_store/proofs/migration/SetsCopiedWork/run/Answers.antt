use Rattle.acvp_store.proofs.Words.{[], CopiesSets, Migrated, schema_of, state}
use Rattle.acvp_store.proofs.Texts.{copy_sets, copies_sets}
use Rattle.acvp_store.proofs.Together.{inside}
use Rattle.acvp_store.proofs.MadeTables.{copy_effect}
use Rattle.acvp_store.proofs.migration.SetsCopiedWork.run.Goals as goal

pub returns-clause-inside : goal.returns-clause-inside
returns-clause-inside g c =
    let old = state g.S.Store c.args.tx.now.conn.now in
    inside (schema_of Migrated) copy_sets [] _ _ _ copies_sets (λ count w. w) CopiesSets (copy_effect old) _
    c.perform.ensures.performed
