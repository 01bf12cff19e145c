-- What the texts of the statements mean that make the tables, tell their version or migrate them.
use Rattle.std.proofs.Common.{◌≡◌, refl, Ok, [], ◌∷◌, ◌++◌, List, ℕ, codes, pos, false}
use Rattle.std.specs.Fmt.{digits}
use Rattle.sqlite.specs.Change.{created}
use Rattle.sqlite.specs.Compile.{table_defined_by}
use Rattle.sqlite.specs.Listing.{understood}
use Rattle.sqlite.specs.Source.TheVariants as source
use Rattle.sqlite_resolve.specs.Compile.{first}
use Rattle.sqlite_tied.specs.Compute.{everything}
use Rattle.acvp_store.specs.declared.setup.StoreTable.{StoreTable}
use Rattle.acvp_store.specs.declared.setup.StoreTable.TheVariants as table
use Rattle.acvp_store.specs.Private.Queries.{IsQuery}
use Rattle.acvp_store.proofs.Words.{before, Binary, col, Command, command_of, Compare, Created, CreateTable, Delete, Eq}
use Rattle.acvp_store.proofs.Words.{first_schema, Insert, Int, IsPlain, lit, Migrated, Null, op2, Query, reads_listing}
use Rattle.acvp_store.proofs.Words.{Schema, schema_at, schema_of, SchemaVersion, Second, second_schema, Select}
use Rattle.acvp_store.proofs.Words.{statement_of, table_of, Text, text_of, Third}
use Rattle.acvp_store.proofs.QueryForms.{equals, simple, collated}

-- ---- the tables

pub whole_schema : created (before table.Reviewer) (table_of table.Reviewer) ≡ schema_of Created
unfolding digits
whole_schema = refl

pub migrated_schema : created (before table.LaterReviewer) (table_of table.LaterReviewer) ≡ schema_of Migrated
unfolding digits
migrated_schema = refl

-- those of the earlier schemas are there before the last of them

pub first_is : first_schema ≡ before table.LaterSet
unfolding digits
first_is = refl

pub second_is : second_schema Created ≡ before table.Reviewer
unfolding digits
second_is = refl

pub second_beside_is : second_schema Migrated ≡ before table.LaterReviewer
unfolding digits
second_beside_is = refl

-- a text makes a table in the schema that is there before it
abbrev pub IsMaking : StoreTable → Type 0
IsMaking t = (command_of (understood (before t) (text_of t)) ≡ CreateTable)
    × (statement_of (text_of t) (understood (before t) (text_of t)) ≡ text_of t)
    × (table_defined_by (text_of t) ≡ Ok (table_of t)) × IsPlain (understood (before t) (text_of t))

pub is_making : (t : StoreTable) → IsMaking t
unfolding understood everything
is_making table.Meta = (refl, refl, refl, (refl, refl))
is_making _ = (refl, refl, refl, (refl, refl))

-- ---- the version

abbrev pub find_version : List ℕ
find_version = codes "SELECT value FROM meta WHERE name = 'schema' AND value = ?1"

abbrev pub find_version_query : Query
find_version_query =
    simple 0 (op2 (Compare Eq Binary) (col 1 1) (lit (Text (codes "schema"))) ∷ equals 2 0 ∷ []) (col 1 2 ∷ [])

abbrev pub old_sets_query : Query
old_sets_query = simple 4 [] (col 1 0 ∷ [])

-- the text finds a column by this query
abbrev pub Finds : List ℕ → List ℕ → Query → Schema → Type 0
Finds text name query schema =
    (command_of (understood schema text) ≡ Select (record { lets = []; body = query }) (name ∷ [])) ×
    IsPlain (understood schema text) × (reads_listing schema text ≡ false)

abbrev pub FindsVersion : Schema → Type 0
FindsVersion = Finds find_version (codes "value") find_version_query

pub finds_version : (version : SchemaVersion) → FindsVersion (schema_at version)
unfolding understood everything
finds_version (Second Created) = (refl, (refl, refl), refl)
finds_version (Third Created) = (refl, (refl, refl), refl)
finds_version _ = (refl, (refl, refl), refl)

pub find_version_asks : IsQuery find_version
unfolding first everything
find_version_asks = refl

-- ---- the vector sets of an earlier schema

abbrev pub find_old_sets : List ℕ
find_old_sets = codes "SELECT vs FROM vset"

abbrev pub FindsOldSets : Schema → Type 0
FindsOldSets = Finds find_old_sets (codes "vs") old_sets_query

pub old_sets_are : FindsOldSets (schema_of Migrated)
unfolding understood everything
old_sets_are = (refl, (refl, refl), refl)

pub old_sets_were : FindsOldSets (second_schema Migrated)
unfolding understood everything
old_sets_were = (refl, (refl, refl), refl)

pub old_sets_asks : IsQuery find_old_sets
unfolding first everything
old_sets_asks = refl

-- of migrated tables the text is this command
abbrev Is : List ℕ → Command → Type 0
Is text command =
    (command_of (understood (schema_of Migrated) text) ≡ command) × IsPlain (understood (schema_of Migrated) text)

abbrev pub copy_sets : List ℕ
copy_sets =
    codes "INSERT INTO vset2 (vs, session, capability, cancelled, answers, verdicts, disposition, epoch) " ++
    codes "SELECT vs, session, capability, cancelled, answers, verdicts, disposition, 0 FROM vset"

abbrev pub copy_query : Query
copy_query =
    collated (Binary ∷ Binary ∷ Binary ∷ Binary ∷ Binary ∷ Binary ∷ Binary ∷ Binary ∷ Binary ∷ []) 4 []
    (col 1 0 ∷ lit Null ∷ col 1 2 ∷ col 1 3 ∷ col 1 4 ∷ col 1 5 ∷ col 1 6 ∷ col 1 7 ∷ lit (Int (pos 0)) ∷ [])

pub copies_sets : Is copy_sets (Insert 6 (source.Query (record { lets = []; body = copy_query })))
unfolding understood everything
copies_sets = (refl, (refl, refl))

abbrev pub delete_sets : List ℕ
delete_sets = codes "DELETE FROM vset"

pub deletes_sets : Is delete_sets (Delete 3 (record { lets = []; body = old_sets_query }))
unfolding understood everything
deletes_sets = (refl, (refl, refl))
