use Rattle.acvp_store.proofs.Words.{[], RaisesVersion, state}
use Rattle.acvp_store.proofs.Writings.{VersionRaised, writes}
use Rattle.acvp_store.proofs.MadeTables.{raise_effect}
use Rattle.acvp_store.proofs.migration.VersionRaisedWork.run.Goals as goal

pub returns-clause-inside : goal.returns-clause-inside
returns-clause-inside g c =
    let old = state g.S.Store c.args.tx.now.conn.now in
    writes VersionRaised [] _ _ _ c.perform.ensures.performed RaisesVersion (λ layout. raise_effect layout old)
