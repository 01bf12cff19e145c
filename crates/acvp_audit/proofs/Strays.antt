-- A stray object with an account's numbers, of whichever kind.
use Rattle.std.proofs.Common.{◌≡◌, ℕ, ℤ, List, Result, Ok, Err, Bool, IfErr, refl, sym, subst}
use Rattle.sqlite.specs.State.{State}
use Rattle.sqlite_value.specs.Order.{Row}
use Rattle.acvp_store.specs.Connection.{InStore}
use Rattle.acvp_store.specs.Ranges.{HasStrayRow, IsObjectRow, FitsObject, KeepsObjects, is_object_between}
use Rattle.acvp_store.specs.Ranges.{is_column_between, first_number, last_number}
use Rattle.acvp_store.specs.Stands.{object_tree}
use Rattle.acvp_store.specs.declared.ranges.RangeFault.{RangeFault}
use Rattle.acvp_store.specs.declared.ranges.RangeFault.TheVariants as fault
use Rattle.acvp_store.proofs.RangeRows.{right_true}
use Rattle.acvp_audit.specs.Read.{AreInTrees}
use Rattle.acvp_audit.specs.Wrong.{HasStray}
use Rattle.acvp_audit.specs.declared.reads.Stop.{Stop}
use Rattle.acvp_audit.specs.declared.reads.Stop.TheVariants as stop
use Rattle.acvp_audit.specs.declared.table.Table.{Table}
use Rattle.acvp_audit.specs.declared.table.Table.TheVariants as table

abbrev IsStrayOf : (Row → Bool) → ℤ → List Row → Type 0
IsStrayOf p number rows = HasStrayRow KeepsObjects IsObjectRow FitsObject p 2 number rows

of_any_kind : (kind u : ℕ) (number : ℤ) (rows : List Row)
    → IsStrayOf (is_object_between kind (first_number u) (last_number u)) number rows
    → IsStrayOf (is_column_between 2 (first_number u) (last_number u)) number rows
of_any_kind kind u number rows stray = record {
  row = stray.row;
  at = stray.at;
  there = stray.there;
  asked = right_true _ _ stray.asked;
  number = stray.number;
  of_none = stray.of_none;
  none = stray.none;
}

-- what is told of the objects of a kind that were read
module _ {X : Type 0} (kind u : ℕ) (old : State) (found : Result X RangeFault)
    (strays : IfErr found (λ why. (number : ℤ) → why ≡ fault.Stray number
    → IsStrayOf (is_object_between kind (first_number u) (last_number u)) number (old.now.trees object_tree))) where
  one_of_kind : (number : ℤ) → found ≡ Err (fault.Stray number)
      → IsStrayOf (is_object_between kind (first_number u) (last_number u)) number (old.now.trees object_tree)
  one_of_kind number is =
      subst (λ (r : Result X RangeFault).
      IfErr r (λ why. (number : ℤ) → why ≡ fault.Stray number
      → IsStrayOf (is_object_between kind (first_number u) (last_number u)) number (old.now.trees object_tree))) is
      strays number refl

  pub stray_objects : {Y : Type 0} (result : Result Y Stop)
      → IfErr result (λ why. (t : Table) (number : ℤ) → why ≡ stop.Stray t number → (t ≡ table.Object)
      × (found ≡ Err (fault.Stray number)))
      → IfErr result (λ why. InStore old.now (λ layout. AreInTrees layout old.now.trees → (t : Table) (number : ℤ)
      → why ≡ stop.Stray t number → HasStray t u number layout old.now.trees))
  stray_objects (Ok rows) told = tt
  stray_objects (Err why) told = λ layout schema inside t number is.
      let it = told t number is in
      subst (λ t. HasStray t u number layout old.now.trees) (sym it.0)
      (of_any_kind kind u number (old.now.trees object_tree) (one_of_kind number it.1))
