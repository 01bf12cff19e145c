-- What one statement does inside a transaction.
use Rattle.std.specs.Prelude.{◌≡◌, ℕ, false, List, Result, IsOk, IsTrue}
use Rattle.sqlite.specs.State.{State, HasCleanDisk, ExecutesInside, Survives}
use Rattle.sqlite.specs.Values.{bound_value}
use Rattle.sqlite.specs.declared.error.Error.{Error}
use Rattle.sqlite_value.specs.Order.{Row}
use Rattle.sqlite_value.specs.Value.{owned}
use Rattle.sqlite_value.specs.declared.value.Value.{Value}
use Rattle.sqlite_value.specs.declared.value.ValueRef.{ValueRef}
use Rattle.acvp_store.specs.Connection.{Kept}

-- what a statement takes a parameter as
abbrev pub parameter : ValueRef → Value
parameter v = bound_value (owned v)

-- it is executed where a transaction is under way, and is Ok only where that went well
pub record IsPerformed {X E : Type 0} (result : Result X E) (sql : List ℕ) (params : Row) (old new : State)
    : Type 0 where
  pub outcome : Result ℕ Error
  pub ok : IsOk result → IsOk outcome
  pub open_is_clean : IsTrue new.is_open → HasCleanDisk new
  pub ran : HasCleanDisk new → IsTrue old.in_transaction → ExecutesInside 0 sql params old new outcome
  pub ended : old.in_transaction ≡ false → Kept old new
  pub survives : Survives old new (λ _. ⊥)
