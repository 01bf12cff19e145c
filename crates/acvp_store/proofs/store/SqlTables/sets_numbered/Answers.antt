use Rattle.acvp_store.proofs.store.SqlTables.sets_numbered.Goals as goal

pub returns-clause-rows : goal.returns-clause-rows
returns-clause-rows g c = rw (← c.self.view_is) c.sets_numbered.ensures.rows
