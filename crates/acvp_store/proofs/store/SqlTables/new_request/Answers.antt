use Rattle.acvp_tables.specs.Changes.{after}
use Rattle.acvp_store.proofs.KeptPromises.{requests_altered, changes}
use Rattle.acvp_store.proofs.store.SqlTables.new_request.Goals as goal

pub returns : goal.returns
unfolding after
returns g c =
    rw (← c.self.view_is) (changes g.S.Store _ _ _ _ c.self.invariant (λ layout d e h. h.schema)
    (λ layout d e h. requests_altered _ layout d e h) _ c.commit.ensures)
