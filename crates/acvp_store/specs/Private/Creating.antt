-- The statements that make the tables, one after the other.
use Rattle.std.specs.Prelude.{◌≡◌, List, ℕ, codes, []}
use Rattle.sqlite.specs.Change.{created, next_tree, KeepsRows}
use Rattle.sqlite.specs.Effect.{Database}
use Rattle.sqlite.specs.Schema.{Schema}
use Rattle.sqlite.specs.Table.{Table}
use Rattle.acvp_store.specs.Schema.{no_schema, Created, schema_of, meta_table, account_table, session_table, set_table}
use Rattle.acvp_store.specs.Schema.{old_set_table, object_table, request_table, reviewer_table}
use Rattle.acvp_store.specs.Version.{HasVersion}
use Rattle.acvp_store.specs.Alters.{SparesOthers}
use Rattle.acvp_store.specs.declared.setup.StoreTable.{StoreTable}
use Rattle.acvp_store.specs.declared.setup.StoreTable.TheVariants.{Meta, Account, Session, Set, Object, Request}
use Rattle.acvp_store.specs.declared.setup.StoreTable.TheVariants.{Reviewer, OldSet, LaterObject, LaterRequest}
use Rattle.acvp_store.specs.declared.setup.StoreTable.TheVariants.{LaterSet, LaterReviewer}

abbrev pub text_of : StoreTable → List ℕ
text_of Meta = codes "CREATE TABLE meta (name TEXT PRIMARY KEY NOT NULL, value INTEGER NOT NULL) STRICT"
text_of Account = codes "CREATE TABLE account (account INTEGER PRIMARY KEY, secret BLOB NOT NULL, enabled INTEGER NOT NULL, last_step INTEGER) STRICT"
text_of Session = codes "CREATE TABLE session (session INTEGER PRIMARY KEY, account INTEGER NOT NULL REFERENCES account, sample INTEGER NOT NULL, created INTEGER NOT NULL, cancelled INTEGER NOT NULL, certify INTEGER REFERENCES request, live INTEGER NOT NULL, passed INTEGER NOT NULL) STRICT"
text_of Set = codes "CREATE TABLE vset2 (vs INTEGER PRIMARY KEY, session INTEGER NOT NULL REFERENCES session, capability TEXT NOT NULL, cancelled INTEGER NOT NULL, answers TEXT, verdicts TEXT, disposition INTEGER, epoch INTEGER NOT NULL) STRICT"
text_of Object = codes "CREATE TABLE object (kind INTEGER NOT NULL, number INTEGER NOT NULL, account INTEGER NOT NULL REFERENCES account, body TEXT NOT NULL, PRIMARY KEY (kind, number)) STRICT"
text_of Request = codes "CREATE TABLE request (request INTEGER PRIMARY KEY, account INTEGER NOT NULL REFERENCES account, kind INTEGER NOT NULL, body TEXT NOT NULL, status INTEGER NOT NULL, approved INTEGER) STRICT"
text_of Reviewer = codes "CREATE TABLE reviewer (session INTEGER NOT NULL REFERENCES session, account INTEGER NOT NULL, PRIMARY KEY (session, account)) STRICT"
text_of OldSet = codes "CREATE TABLE vset (vs INTEGER PRIMARY KEY, session INTEGER NOT NULL REFERENCES session, capability TEXT NOT NULL, cancelled INTEGER NOT NULL, answers TEXT, verdicts TEXT, disposition INTEGER) STRICT"
text_of LaterObject = codes "CREATE TABLE object (kind INTEGER NOT NULL, number INTEGER NOT NULL, account INTEGER NOT NULL REFERENCES account, body TEXT NOT NULL, PRIMARY KEY (kind, number)) STRICT"
text_of LaterRequest = codes "CREATE TABLE request (request INTEGER PRIMARY KEY, account INTEGER NOT NULL REFERENCES account, kind INTEGER NOT NULL, body TEXT NOT NULL, status INTEGER NOT NULL, approved INTEGER) STRICT"
text_of LaterSet = codes "CREATE TABLE vset2 (vs INTEGER PRIMARY KEY, session INTEGER NOT NULL REFERENCES session, capability TEXT NOT NULL, cancelled INTEGER NOT NULL, answers TEXT, verdicts TEXT, disposition INTEGER, epoch INTEGER NOT NULL) STRICT"
text_of LaterReviewer = codes "CREATE TABLE reviewer (session INTEGER NOT NULL REFERENCES session, account INTEGER NOT NULL, PRIMARY KEY (session, account)) STRICT"

abbrev pub table_of : StoreTable → Table
table_of Meta = meta_table 0
table_of Account = account_table 0
table_of Session = session_table 0
table_of Set = set_table 0
table_of Object = object_table 0
table_of Request = request_table 0
table_of Reviewer = reviewer_table 0
table_of OldSet = old_set_table 0
table_of LaterObject = object_table 0
table_of LaterRequest = request_table 0
table_of LaterSet = set_table 0
table_of LaterReviewer = reviewer_table 0

-- ---- the schema after each of them

abbrev pub with_meta : Schema
with_meta = created no_schema (meta_table 0)

abbrev pub with_account : Schema
with_account = created with_meta (account_table 0)

abbrev pub with_session : Schema
with_session = created with_account (session_table 0)

abbrev pub with_set : Schema
with_set = created with_session (set_table 0)

abbrev pub with_object : Schema
with_object = created with_set (object_table 0)

abbrev pub with_request : Schema
with_request = created with_object (request_table 0)

abbrev pub with_old_set : Schema
with_old_set = created with_session (old_set_table 0)

abbrev pub with_later_object : Schema
with_later_object = created with_old_set (object_table 0)

abbrev pub with_later_request : Schema
with_later_request = created with_later_object (request_table 0)

abbrev pub with_later_set : Schema
with_later_set = created with_later_request (set_table 0)

-- the schema before a table is made
abbrev pub before : StoreTable → Schema
before Meta = no_schema
before Account = with_meta
before Session = with_account
before Set = with_session
before Object = with_set
before Request = with_object
before Reviewer = with_request
before OldSet = with_session
before LaterObject = with_old_set
before LaterRequest = with_later_object
before LaterSet = with_later_request
before LaterReviewer = with_later_set

-- the table is there, without a row, and the others keep theirs
pub record Makes (table : StoreTable) (old new : Database) : Type 0 where
  pub schema : new.schema ≡ created (before table) (table_of table)
  pub empty : new.trees (next_tree (before table)) ≡ []
  pub others : KeepsRows (before table).tables old.trees new.trees

-- the version is written into the table `meta`, which was empty
pub record WritesVersion (version : ℕ) (old new : Database) : Type 0 where
  pub schema : new.schema ≡ schema_of Created
  pub written : old.trees 0 ≡ [] → HasVersion version new.trees
  pub others : SparesOthers Created 0 old.trees new.trees
