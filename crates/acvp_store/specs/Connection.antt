-- What a call leaves of a connection, and what a crash at its end leaves of the store.
use Rattle.std.specs.Prelude.{◌≡◌, ◌⊎◌, false, Result, OnOk, OnErr, IsTrue}
use Rattle.sqlite.specs.Effect.{Database, IsDatabase}
use Rattle.sqlite.specs.State.{State, HasCleanDisk, Survives}
use Rattle.sqlite_schema.specs.declared.schema.Schema.{Schema}
use Rattle.sqlite_trees.specs.Tree.{Trees}
use Rattle.acvp_store.specs.Schema.{Layout, schema_of, IsStoreSchema}

-- nothing waits to be committed
pub record IsSettled (s : State) : Type 0 where
  pub settled : s.now ≡ s.committed
  pub autocommit : s.in_transaction ≡ false

-- an open connection is settled
abbrev pub IsReady : State → Type 0
IsReady s = IsTrue s.is_open → IsSettled s

-- a connection to the store's tables that is settled; the trees list these tables, and obey their schema
pub record IsStore (s : State) : Type 0 where
  pub ready : IsSettled s
  pub schema : IsStoreSchema s.now.schema
  pub sound : IsDatabase s.now

-- an open connection is to the store's tables
abbrev pub ServesStore : State → Type 0
ServesStore s = IsTrue s.is_open → IsStore s

-- where it is still open, it was, and shows the same
pub record Stays (old new : State) : Type 0 where
  pub was_open : IsTrue new.is_open → IsTrue old.is_open
  pub now : IsTrue new.is_open → new.now ≡ old.now
  pub settled : IsTrue new.is_open → IsSettled new

-- handed back as it was: it was open, and there are the same rows, nothing more is committed, a transaction is under
-- way exactly where one was, and the limit on steps is the same
pub record IsHandedBack (old new : State) : Type 0 where
  pub was_open : IsTrue old.is_open
  pub now : new.now ≡ old.now
  pub committed : new.committed ≡ old.committed
  pub in_transaction : new.in_transaction ≡ old.in_transaction
  pub limit : new.step_limit ≡ old.step_limit

-- after a crash an open finds nothing that it wouldn't have found before the call
abbrev pub LeavesNoMore : State → State → Type 0
LeavesNoMore old new = HasCleanDisk new → (db : Trees) → new.may_leave db → old.may_leave db

-- after a crash an open finds a database that is so
abbrev pub LeavesSo : State → State → (Trees → Type 0) → Type 0
LeavesSo old new P = HasCleanDisk new → IsTrue old.is_open → (db : Trees) → new.may_leave db → P db

-- these are the trees of a database with that change
abbrev pub IsAfter : (Database → Database → Type 0) → Database → Trees → Type 0
IsAfter Change old db = (after : Database) × (after.trees ≡ db) × Change old after

-- a query: it commits nothing, and succeeds of an open connection alone, which stays open
pub record IsRead {X E : Type 0} (result : Result X E) (old new : State) : Type 0 where
  pub stays : Stays old new
  pub was_clean : HasCleanDisk new → HasCleanDisk old
  pub stays_open : OnOk result (HasCleanDisk new → IsTrue old.is_open × IsTrue new.is_open)
  pub limit : new.step_limit ≡ old.step_limit
  pub left : LeavesNoMore old new

-- a change that is made whole or not at all
pub record IsWritten {X E : Type 0} (result : Result X E) (old new : State)
    (Change : Database → Database → Type 0) : Type 0 where
  pub was_open : IsTrue new.is_open → IsTrue old.is_open
  pub was_clean : HasCleanDisk new → HasCleanDisk old
  pub stays_open : OnOk result (HasCleanDisk new → IsTrue old.is_open → IsTrue new.is_open)
  pub settled : IsReady new
  pub limit : new.step_limit ≡ old.step_limit
  pub ok : OnOk result (IsTrue new.is_open → Change old.now new.now)
  pub err : OnErr result (IsTrue new.is_open → new.now ≡ old.now)
  pub left_ok : OnOk result (LeavesSo old new (IsAfter Change old.now))
  pub left_err : OnErr result (LeavesSo old new (λ db. (db ≡ old.now.trees) ⊎ IsAfter Change old.now db))

-- ---- inside a transaction

-- the last commit stands
pub record Kept (old new : State) : Type 0 where
  pub was_open : IsTrue new.is_open → IsTrue old.is_open
  pub committed : IsTrue new.is_open → new.committed ≡ old.committed

-- a part of a transaction, which commits nothing
pub record IsInside {X E : Type 0} (result : Result X E) (old new : State)
    (Change : Database → Database → Type 0) : Type 0 where
  pub kept : IsTrue new.is_open → Kept old new
  pub ok : OnOk result (IsTrue old.is_open → IsTrue old.in_transaction → HasCleanDisk new
      → IsTrue new.is_open × IsTrue new.in_transaction × Change old.now new.now)
  pub survives : Survives old new (λ _. ⊥)

-- ---- changes

-- the trees go on listing the schema, and obeying it
abbrev pub StaysSound : Database → Database → Type 0
StaysSound old new = IsDatabase old → IsDatabase new

-- what a change makes of a database with this schema
abbrev pub Under : Schema → (Database → Database → Type 0) → Database → Database → Type 0
Under schema Change old new = old.schema ≡ schema → StaysSound old new × Change old new

-- what is so of a database with the store's tables, whichever way they lie
abbrev pub InStore : Database → (Layout → Type 0) → Type 0
InStore db P = (layout : Layout) → db.schema ≡ schema_of layout → P layout

-- what a change makes of such a database
abbrev pub UnderStore : (Layout → Database → Database → Type 0) → Database → Database → Type 0
UnderStore Change old new = InStore old (λ layout. StaysSound old new × Change layout old new)

-- one change, and then another
abbrev pub Both : (Database → Database → Type 0) → (Database → Database → Type 0) → Database → Database → Type 0
Both First Second old new = (between : Database) × First old between × Second between new
