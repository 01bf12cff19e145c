use Rattle.acvp_store.proofs.Words.{[], Created, WritesVersion, state}
use Rattle.acvp_store.proofs.Writings.{VersionAdded, writes_under}
use Rattle.acvp_store.proofs.MadeTables.{version_effect}
use Rattle.acvp_store.proofs.setup.VersionWork.run.Goals as goal

pub returns-clause-inside : goal.returns-clause-inside
returns-clause-inside g c =
    let old = state g.S.Store c.args.tx.now.conn.now in
    writes_under VersionAdded [] _ _ _ c.perform.ensures.performed Created (WritesVersion 3) (version_effect old)
