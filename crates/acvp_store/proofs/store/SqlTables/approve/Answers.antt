use Rattle.acvp_store.proofs.KeptPromises.{changes_both, approved}
use Rattle.acvp_store.proofs.store.SqlTables.approve.Goals as goal

pub returns : goal.returns
returns g c =
    rw (← c.self.view_is) (changes_both g.S.Store _ _ _ _ _ c.self.invariant (λ layout d e h. h.schema)
    (λ layout d e h. h.schema) (approved c.args.approval.now) _ c.commit.ensures)
