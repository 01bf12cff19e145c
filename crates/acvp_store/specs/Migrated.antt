-- What a migration makes of the tables of an earlier schema.
use Rattle.std.specs.Prelude.{◌≡◌, IsTrue}
use Rattle.sqlite.specs.Effect.{Database, IsDatabase}
use Rattle.sqlite.specs.State.{State}
use Rattle.sqlite_trees.specs.Tree.{Trees}
use Rattle.acvp_tables.specs.Content.{Content}
use Rattle.acvp_store.specs.Version.{HasVersion}
use Rattle.acvp_store.specs.Schema.{Layout, Migrated, SchemaVersion, First, Second, Third, schema_at, schema_of}
use Rattle.acvp_store.specs.Schema.{version_number}
use Rattle.acvp_store.specs.Stands.{StandsAt, Stands, HasNoOldSetsAt}

-- the tables are those of the version, `meta` says so, and nothing is left in a table that they have no longer
pub record IsOf (version : SchemaVersion) (db : Database) : Type 0 where
  pub schema : db.schema ≡ schema_at version
  pub named : HasVersion (version_number version) db.trees
  pub no_old_sets : HasNoOldSetsAt version db.trees

abbrev pub IsKnown : Database → Type 0
IsKnown db = (version : SchemaVersion) × IsOf version db

-- how the tables lie after a migration
abbrev pub layout_after : SchemaVersion → Layout
layout_after First = Migrated
layout_after (Second layout) = layout
layout_after (Third layout) = layout

-- the tables are those of schema 3, and stand for what the earlier ones stood for
pub record Moves (from : SchemaVersion) (old new : Database) : Type 0 where
  pub schema : new.schema ≡ schema_of (layout_after from)
  pub stands : (c : Content) → StandsAt from old.trees c → Stands (layout_after from) new.trees c

-- what is of schema 3 stays as it is
abbrev pub Migrates : SchemaVersion → Database → Database → Type 0
Migrates First old new = Moves First old new
Migrates (Second layout) old new = Moves (Second layout) old new
Migrates (Third layout) old new = new ≡ old

-- it was a store's of some version, and is one of schema 3
pub record IsMigrated (old new : State) : Type 0 where
  pub was_open : IsTrue old.is_open
  pub from : SchemaVersion
  pub was : IsOf from old.now
  pub turned : Migrates from old.now new.now

-- these are the trees of a database that was so migrated, which list its schema and obey it
pub record IsAfterMigration (old : Database) (db : Trees) : Type 0 where
  pub from : SchemaVersion
  pub was : IsOf from old
  pub after : Database
  pub trees : after.trees ≡ db
  pub sound : IsDatabase after
  pub turned : Migrates from old after
