-- The tables of the store, and the schema that they make.
use Rattle.std.specs.Prelude.{◌≡◌, true, false, Bool, [], ◌∷◌, Some, None, codes, List, ℕ}
use Rattle.sqlite.specs.Collation.TheVariants.{Binary}
use Rattle.sqlite.specs.declared.types.Value.TheVariants.{Null}
use Rattle.sqlite.specs.Table.{Table}
use Rattle.sqlite.specs.Schema.{Schema}
use Rattle.sqlite.specs.Kind.{Kind}
use Rattle.sqlite.specs.Kind.TheVariants.{Integer, Text, Blob}
use Rattle.sqlite_schema.specs.declared.schema.Column.{Column}
use Rattle.sqlite_schema.specs.declared.schema.Reference.{Reference}
use Rattle.sqlite_schema.specs.declared.schema.Action.TheVariants.{NoAction}
use Rattle.sqlite_schema.specs.declared.schema.Index.{Index}
use Rattle.sqlite_value.specs.Keys.{plain}

-- ---- words for a table

-- a column of a STRICT table, by its name, its type, and whether NULL is refused
abbrev pub column_of : List ℕ → Kind → Bool → Column
column_of name kind not_null = record {
  name = name;
  kind = kind;
  is_strict = true;
  not_null = not_null;
  default = Null;
  collation = Binary;
}

-- the column at a place, from 1 on, refers to the key of a table
abbrev pub refers : ℕ → List ℕ → Reference
refers place parent = record {
  columns = place ∷ [];
  parent = parent;
  parent_columns = [];
  on_delete = NoAction;
  on_update = NoAction;
  is_deferred = false;
}

-- a table whose first column is its INTEGER PRIMARY KEY
abbrev pub table_by_number : List ℕ → ℕ → List Column → List Reference → Table
table_by_number name tree columns references = record {
  name = name;
  tree = tree;
  columns = columns;
  key = Some 0;
  primary = 0 ∷ [];
  uniques = [];
  orders = [];
  checks = [];
  references = references;
  computed = [];
  stamps = record { places = []; terms = []; formats = [] };
  is_counted = false;
}

-- a table under a PRIMARY KEY of the columns at these places, which an index keeps
abbrev pub table_by_columns : List ℕ → ℕ → List ℕ → List Column → List Reference → Table
table_by_columns name tree key columns references = record {
  name = name;
  tree = tree;
  columns = columns;
  key = None;
  primary = key;
  uniques = key ∷ [];
  orders = plain ∷ [];
  checks = [];
  references = references;
  computed = [];
  stamps = record { places = []; terms = []; formats = [] };
  is_counted = false;
}

-- the index of such a table, whose own tree is the third
abbrev pub index_by_columns : List ℕ → ℕ → ℕ → List ℕ → Index
index_by_columns name tree table columns = record {
  name = name;
  tree = tree;
  table = table;
  columns = columns;
  order = plain;
  is_unique = true;
}

-- ---- the tables, each in the tree that is given

abbrev pub meta_table : ℕ → Table
meta_table tree = table_by_columns (codes "meta") tree (1 ∷ [])
    (column_of (codes "name") Text true ∷ column_of (codes "value") Integer true ∷ []) []

abbrev pub account_table : ℕ → Table
account_table tree = table_by_number (codes "account") tree
    (column_of (codes "account") Integer false ∷ column_of (codes "secret") Blob true
    ∷ column_of (codes "enabled") Integer true
    ∷ column_of (codes "last_step") Integer false ∷ []) []

abbrev pub session_table : ℕ → Table
session_table tree = table_by_number (codes "session") tree
    (column_of (codes "session") Integer false ∷ column_of (codes "account") Integer true
    ∷ column_of (codes "sample") Integer true
    ∷ column_of (codes "created") Integer true ∷ column_of (codes "cancelled") Integer true
    ∷ column_of (codes "certify") Integer false
    ∷ column_of (codes "live") Integer true ∷ column_of (codes "passed") Integer true ∷ [])
    (refers 2 (codes "account") ∷ refers 6 (codes "request") ∷ [])

abbrev pub set_table : ℕ → Table
set_table tree = table_by_number (codes "vset2") tree
    (column_of (codes "vs") Integer false ∷ column_of (codes "session") Integer true
    ∷ column_of (codes "capability") Text true
    ∷ column_of (codes "cancelled") Integer true ∷ column_of (codes "answers") Text false
    ∷ column_of (codes "verdicts") Text false
    ∷ column_of (codes "disposition") Integer false ∷ column_of (codes "epoch") Integer true ∷ [])
    (refers 2 (codes "session") ∷ [])

-- the table of sets before schema 2
abbrev pub old_set_table : ℕ → Table
old_set_table tree = table_by_number (codes "vset") tree
    (column_of (codes "vs") Integer false ∷ column_of (codes "session") Integer true
    ∷ column_of (codes "capability") Text true
    ∷ column_of (codes "cancelled") Integer true ∷ column_of (codes "answers") Text false
    ∷ column_of (codes "verdicts") Text false
    ∷ column_of (codes "disposition") Integer false ∷ [])
    (refers 2 (codes "session") ∷ [])

abbrev pub object_table : ℕ → Table
object_table tree = table_by_columns (codes "object") tree (1 ∷ 2 ∷ [])
    (column_of (codes "kind") Integer true ∷ column_of (codes "number") Integer true
    ∷ column_of (codes "account") Integer true
    ∷ column_of (codes "body") Text true ∷ [])
    (refers 3 (codes "account") ∷ [])

abbrev pub request_table : ℕ → Table
request_table tree = table_by_number (codes "request") tree
    (column_of (codes "request") Integer false ∷ column_of (codes "account") Integer true
    ∷ column_of (codes "kind") Integer true
    ∷ column_of (codes "body") Text true ∷ column_of (codes "status") Integer true
    ∷ column_of (codes "approved") Integer false ∷ [])
    (refers 2 (codes "account") ∷ [])

abbrev pub reviewer_table : ℕ → Table
reviewer_table tree = table_by_columns (codes "reviewer") tree (1 ∷ 2 ∷ [])
    (column_of (codes "session") Integer true ∷ column_of (codes "account") Integer true ∷ [])
    (refers 1 (codes "session") ∷ [])

-- ---- the schema

abbrev pub no_schema : Schema
no_schema = record { tables = []; indexes = []; views = [] }

-- The tables of schema 3 lie in one of two ways: as they are made in a new database, or as they are where those of an
-- earlier schema were there first. The second have the earlier table of sets, `vset`, among them.
pub data Layout : Type 0 where
  Created : Layout
  Migrated : Layout

-- the table after the first three, in the tree 4
abbrev pub fourth_table : Layout → Table
fourth_table Created = set_table 4
fourth_table Migrated = old_set_table 4

-- the tables after the first six
abbrev pub last_tables : Layout → List Table
last_tables Created = reviewer_table 8 ∷ []
last_tables Migrated = set_table 8 ∷ reviewer_table 9 ∷ []

abbrev pub reviewer_index : Layout → Index
reviewer_index Created = index_by_columns (codes "sqlite_autoindex_reviewer_1") 9 8 (1 ∷ 2 ∷ [])
reviewer_index Migrated = index_by_columns (codes "sqlite_autoindex_reviewer_1") 10 9 (1 ∷ 2 ∷ [])

-- the tables of schema 3, and the indexes that their keys make
abbrev pub schema_of : Layout → Schema
schema_of layout = record {
  tables = meta_table 0 ∷ account_table 2 ∷ session_table 3 ∷ fourth_table layout ∷ object_table 5 ∷ request_table 7
      ∷ last_tables layout;
  indexes = index_by_columns (codes "sqlite_autoindex_meta_1") 1 0 (1 ∷ [])
      ∷ index_by_columns (codes "sqlite_autoindex_object_1") 6 5 (1 ∷ 2 ∷ [])
      ∷ reviewer_index layout ∷ [];
  views = [];
}

-- the tables of schema 3, in one of the two ways
abbrev pub IsStoreSchema : Schema → Type 0
IsStoreSchema schema = (layout : Layout) × (schema ≡ schema_of layout)

-- ---- earlier schemas

-- the indexes that the keys of `meta` and `object` make
abbrev pub first_indexes : List Index
first_indexes = index_by_columns (codes "sqlite_autoindex_meta_1") 1 0 (1 ∷ [])
    ∷ index_by_columns (codes "sqlite_autoindex_object_1") 6 5 (1 ∷ 2 ∷ [])
    ∷ []

-- the tables of schema 1
abbrev pub first_schema : Schema
first_schema = record {
  tables = meta_table 0 ∷ account_table 2 ∷ session_table 3 ∷ old_set_table 4 ∷ object_table 5 ∷ request_table 7 ∷ [];
  indexes = first_indexes;
  views = [];
}

-- the later table of sets, where the earlier one stands before it
abbrev pub later_sets : Layout → List Table
later_sets Created = []
later_sets Migrated = set_table 8 ∷ []

-- the tables of schema 2: those of schema 3 without the reviewers, in one of the same two ways
abbrev pub second_schema : Layout → Schema
second_schema layout = record {
  tables = meta_table 0 ∷ account_table 2 ∷ session_table 3 ∷ fourth_table layout ∷ object_table 5 ∷ request_table 7
      ∷ later_sets layout;
  indexes = first_indexes;
  views = [];
}

-- the version of a schema; from the second on its tables lie in one of two ways
pub data SchemaVersion : Type 0 where
  First : SchemaVersion
  Second : Layout → SchemaVersion
  Third : Layout → SchemaVersion

abbrev pub schema_at : SchemaVersion → Schema
schema_at First = first_schema
schema_at (Second layout) = second_schema layout
schema_at (Third layout) = schema_of layout

abbrev pub version_number : SchemaVersion → ℕ
version_number First = 1
version_number (Second layout) = 2
version_number (Third layout) = 3

-- the tables of some version
abbrev pub IsKnownSchema : Schema → Type 0
IsKnownSchema schema = (version : SchemaVersion) × (schema ≡ schema_at version)
