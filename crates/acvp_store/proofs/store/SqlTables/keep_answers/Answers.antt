use Rattle.acvp_tables.specs.Changes.{after}
use Rattle.acvp_store.proofs.KeptPromises.{changes_both, sessions_altered, sets_altered}
use Rattle.acvp_store.proofs.store.SqlTables.keep_answers.Goals as goal

pub returns : goal.returns
unfolding after
returns g c =
    rw (← c.self.view_is) (changes_both g.S.Store _ _ _ _ _ c.self.invariant (λ layout d e h. h.schema)
    (λ layout d e h. h.schema)
    (λ layout d e h content sound st. sessions_altered _ layout h.0 e h.2 _
    (sets_altered _ layout d h.0 h.1 content st)) _ c.commit.ensures)
