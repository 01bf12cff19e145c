use Rattle.acvp_tables.specs.Changes.{after_order}
use Rattle.acvp_store.proofs.KeptPromises.{accounts_altered, changes}
use Rattle.acvp_store.proofs.store.SqlTables.disable_account.Goals as goal

pub returns : goal.returns
unfolding after_order
returns g c =
    rw (← c.self.view_is) (changes g.S.Store _ _ _ _ c.self.invariant (λ layout d e h. h.schema)
    (λ layout d e h. accounts_altered _ layout d e h) _ c.commit.ensures)
