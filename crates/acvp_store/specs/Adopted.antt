-- When a database is a store's, and what taking it over leaves.
use Rattle.std.specs.Prelude.{◌≡◌, IsTrue}
use Rattle.sqlite.specs.Effect.{Database}
use Rattle.sqlite.specs.State.{State}
use Rattle.acvp_store.specs.Schema.{Layout, schema_of}
use Rattle.acvp_store.specs.Stands.{HasNoOldSets}
use Rattle.acvp_store.specs.Version.{HasVersion}

-- the tables are the store's, `meta` says so, and nothing is left in an earlier table of sets
pub record IsOurs (db : Database) : Type 0 where
  pub layout : Layout
  pub schema : db.schema ≡ schema_of layout
  pub version : HasVersion 3 db.trees
  pub no_old_sets : HasNoOldSets layout db.trees

-- it was a store's, and every row is as it was
pub record IsAdopted (old new : State) : Type 0 where
  pub was_open : IsTrue old.is_open
  pub ours : IsOurs old.now
  pub same : new.now ≡ old.now
