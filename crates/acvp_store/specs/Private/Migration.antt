-- The statements of a migration.
use Rattle.std.specs.Prelude.{◌≡◌, ◌≢◌, ◌⊎◌, ℕ, List, [], Option, Some, None, take}
use Rattle.sqlite.specs.Effect.{Database}
use Rattle.sqlite_schema.specs.declared.schema.Schema.{Schema}
use Rattle.acvp_tables.specs.declared.rows.SetRow.{SetRow}
use Rattle.acvp_store.specs.Alters.{SparesOthers}
use Rattle.acvp_store.specs.Schema.{Layout, Created, Migrated, schema_of, SchemaVersion, First, Second, schema_at}
use Rattle.acvp_store.specs.Schema.{second_schema}
use Rattle.acvp_store.specs.Stands.{HoldsSets, HoldsOldSets}
use Rattle.acvp_store.specs.Version.{HasVersion}
use Rattle.acvp_store.specs.declared.migration.Earlier.{Earlier}
use Rattle.acvp_store.specs.declared.migration.Earlier.TheVariants as earlier

abbrev pub version_of : Earlier → SchemaVersion
version_of earlier.First = First
version_of earlier.Second = Second Created
version_of earlier.SecondBeside = Second Migrated

-- the first tables and indexes of a schema, so many
abbrev pub front : ℕ → ℕ → Schema → Schema
front tables indexes schema = record {
  tables = take tables schema.tables;
  indexes = take indexes schema.indexes;
  views = schema.views;
}

-- whose tables a schema is of the earlier ones
abbrev pub IsEarlierOf : Schema → Option Earlier → Type 0
IsEarlierOf schema None = (from : Earlier) → schema ≢ schema_at (version_of from)
IsEarlierOf schema (Some from) = schema ≡ schema_at (version_of from)

-- the earlier table of sets stands beside the later one
abbrev pub HasOldTable : Schema → Type 0
HasOldTable schema = (schema ≡ second_schema Migrated) ⊎ (schema ≡ schema_of Migrated)

-- the sets of the earlier table are those of the later one, which had none
pub record CopiesSets (old new : Database) : Type 0 where
  pub schema : new.schema ≡ schema_of Migrated
  pub copied : old.trees 8 ≡ [] → (sets : List SetRow) → HoldsOldSets (old.trees 4) sets → HoldsSets (new.trees 8) sets
  pub others : SparesOthers Migrated 8 old.trees new.trees

-- the earlier table of sets has no row
pub record EmptiesOldSets (old new : Database) : Type 0 where
  pub schema : new.schema ≡ schema_of Migrated
  pub emptied : (sets : List SetRow) → HoldsOldSets (old.trees 4) sets → new.trees 4 ≡ []
  pub others : SparesOthers Migrated 4 old.trees new.trees

-- `meta` names schema 3 where it named another
pub record RaisesVersion (layout : Layout) (old new : Database) : Type 0 where
  pub schema : new.schema ≡ schema_of layout
  pub raised : (version : ℕ) → HasVersion version old.trees → HasVersion 3 new.trees
  pub others : SparesOthers layout 0 old.trees new.trees
