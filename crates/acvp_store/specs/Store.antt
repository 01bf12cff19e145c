-- What the store's tables are to those who call them.
use Rattle.std.specs.Prelude.{◌≡◌, ◌⊎◌, IsTrue, ⊤}
use Rattle.sqlite.specs.Held.{Held, state}
use Rattle.sqlite.specs.State.{HasCleanDisk}
use Rattle.sqlite_trees.specs.declared.store.Store.{Ghosts}
use Rattle.sqlite_trees.specs.Tree.{Trees}
use Rattle.acvp_tables.specs.Content.{Content, no_rows}
use Rattle.acvp_tables.specs.Meaning.{Meaning}
use Rattle.acvp_tables.specs.declared.tables.StoreFault.{StoreFault}
use Rattle.acvp_store.specs.Connection.{IsStore, ServesStore}
use Rattle.acvp_store.specs.Schema.{Layout, Created, Migrated, schema_of, SchemaVersion, Third, schema_at}
use Rattle.acvp_store.specs.Stands.{StandsAt, Stands}
use Rattle.sqlite.specs.Effect.{Database}
use Rattle.sqlite_catalog.specs.Listing.{IsSound}

-- a call may be Refused, or find no memory
abbrev pub may_fail : StoreFault → Type 0
may_fail fault = ⊤

-- of no table the new database makes the store's, without a row in them
pub record Begins (old new : Database) : Type 0 where
  pub schema : new.schema ≡ schema_of Created
  pub stands : Stands Created new.trees no_rows

-- of no table the new database makes the store's, as they lie where those of the first schema were there before them
abbrev pub BecomesMigrated : Database → Database → Type 0
BecomesMigrated old new = new.schema ≡ schema_of Migrated

-- The trees of a database of a version with the content: they list the tables of the version, and obey their schema,
-- and the rows stand for the content.
pub record IsStoreAt (version : SchemaVersion) (db : Trees) (c : Content) : Type 0 where
  pub sound : IsSound (schema_at version) db
  pub stands : StandsAt version db c

-- the same of schema 3, in one of the two ways
abbrev pub IsStoreOf : Trees → Content → Type 0
IsStoreOf db c = (layout : Layout) × IsStoreAt (Third layout) db c

-- each content stands in the tables of its version, as in the earlier trees, or in those of schema 3
abbrev pub IsOldOrMigrated : Trees → Trees → Type 0
IsOldOrMigrated old db =
    (version : SchemaVersion) (c : Content) → IsStoreAt version old c → IsStoreAt version db c ⊎ IsStoreOf db c

module _ {S : Type 0} (g : Ghosts S) where
  -- The tables are the store's, and their rows stand for the content. Where the connection is open, nothing in it waits
  -- to be committed, and the trees list the tables and obey them.
  abbrev pub stands : Held S → Content → Type 0
  stands t c = (layout : Layout) × ((state g t).now.schema ≡ schema_of layout)
      × Stands layout (state g t).now.trees c × ServesStore (state g t)

  -- the connection is open and nothing in it waits to be committed; its tables are the store's, which the trees list
  -- and obey
  pub record IsOpen (t : Held S) : Type 0 where
    pub is_open : IsTrue (state g t).is_open
    pub store : IsStore (state g t)

  abbrev pub is_clean : Held S → Type 0
  is_clean t = HasCleanDisk (state g t)

  -- while the disk is clean, whatever an open finds after a crash is a store's database with one of the two
  abbrev pub leaves : Held S → Content → Content → Type 0
  leaves t c d = HasCleanDisk (state g t) → (db : Trees) → (state g t).may_leave db → IsStoreOf db c ⊎ IsStoreOf db d

  -- Of the connection to what an open found, these tables were made: they stand for each content of which it is a
  -- store's database.
  abbrev pub TakesOver : Held S → Held S → Type 0
  TakesOver connection t = IsTrue (state g t).is_open → (c : Content) → IsStoreOf (state g connection).now.trees c
      → stands t c

  -- the same of a database of any version
  abbrev pub TakesOverAny : Held S → Held S → Type 0
  TakesOverAny connection t = IsTrue (state g t).is_open → (version : SchemaVersion) (c : Content)
      → IsStoreAt version (state g connection).now.trees c → stands t c

  -- It was handed back: it is no store's database, of whatever content.
  abbrev pub IsNoStore : Held S → Held S → Type 0
  IsNoStore connection back = IsTrue (state g back).is_open → (c : Content)
      → ¬ IsStoreOf (state g connection).now.trees c

  -- nor one of an earlier version
  abbrev pub IsNoStoreOfAny : Held S → Held S → Type 0
  IsNoStoreOfAny connection back = IsTrue (state g back).is_open → (version : SchemaVersion) (c : Content)
      → ¬ IsStoreAt version (state g connection).now.trees c

  -- what a state of the store means
  abbrev pub meaning_of : Meaning (Held S)
  meaning_of = record {
    stands = stands;
    is_open = λ t. IsTrue (state g t).is_open;
    is_clean = is_clean;
    leaves = leaves;
  }
