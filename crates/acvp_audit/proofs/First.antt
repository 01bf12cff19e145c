-- What is told is the first that is wrong.
use Rattle.std.proofs.Common.{◌≡◌, ◌<◌, ◌+◌, ℕ, ℤ, Bool, List, Some, inl, inr, refl, arith}
use Rattle.sqlite_trees.specs.Tree.{Trees}
use Rattle.acvp_store.specs.Schema.{Layout}
use Rattle.acvp_audit.specs.Checked.{account_in, AreFineBefore, AreWithinBefore, IsFirst, position}
use Rattle.acvp_audit.specs.Wrong.{AreWithin, IsWithin}
use Rattle.acvp_audit.specs.Private.Looks.{AreFineTo, IsBehind, IsOutside}
use Rattle.acvp_audit.specs.declared.damage.Damage.{Damage}
use Rattle.acvp_audit.specs.declared.damage.Damage.TheVariants as damage
use Rattle.acvp_audit.specs.declared.damage.Totals.{Totals}
use Rattle.acvp_audit.specs.declared.table.Table.{Table}
use Rattle.acvp_audit.specs.declared.table.Table.TheVariants as table

module _ (layout : Layout) (trees : Trees) where
  abbrev In : Table → Type 0
  In t = IsWithin t layout trees

  -- ---- tables

  below_session : In table.Account → (b : Table) → position b < 1 → In b
  below_session a table.Account less = a
  below_session a _ less = absurd (omega (arith, less))

  below_set : In table.Account → In table.Session → (b : Table) → position b < 2 → In b
  below_set a s table.Account less = a
  below_set a s table.Session less = s
  below_set a s _ less = absurd (omega (arith, less))

  -- behind the first three
  pub first_behind : (t : Table) → IsBehind table.Account table.Session table.Set t layout trees
      → AreWithinBefore t layout trees
  first_behind t (inl is) = λ b less. absurd (let low = rw is at less in omega (arith, low))
  first_behind t (inr (inl (is, a))) = λ b less. below_session a b (rw is at less)
  first_behind t (inr (inr (is, a, s))) = λ b less. below_set a s b (rw is at less)

  module _ (a : In table.Account) (s : In table.Session) (v : In table.Set) where
    below_object : (b : Table) → position b < 3 → In b
    below_object table.Account less = a
    below_object table.Session less = s
    below_object table.Set less = v
    below_object _ less = absurd (omega (arith, less))

    below_request : In table.Object → (b : Table) → position b < 4 → In b
    below_request o table.Object less = o
    below_request o table.Request less = absurd (omega (arith, less))
    below_request o table.Reviewer less = absurd (omega (arith, less))
    below_request o table.Account less = a
    below_request o table.Session less = s
    below_request o table.Set less = v

    below_reviewer : In table.Object → In table.Request → (b : Table) → position b < 5 → In b
    below_reviewer o r table.Request less = r
    below_reviewer o r table.Reviewer less = absurd (omega (arith, less))
    below_reviewer o r table.Account less = a
    below_reviewer o r table.Session less = s
    below_reviewer o r table.Set less = v
    below_reviewer o r table.Object less = o

    -- behind all
    pub later_behind : (t : Table) → IsBehind table.Object table.Request table.Reviewer t layout trees
        → AreWithinBefore t layout trees
    later_behind t (inl is) = λ b less. below_object b (rw is at less)
    later_behind t (inr (inl (is, o))) = λ b less. below_request o b (rw is at less)
    later_behind t (inr (inr (is, o, r))) = λ b less. below_reviewer o r b (rw is at less)

  -- ---- accounts

  module _ (grades : Bool) (seeds : List (List ℕ)) where
    -- behind those that are fine
    pub fine_behind : (before : ℕ) (totals : Totals) (u : ℕ) → AreFineTo grades seeds layout trees before totals
        → u ≡ before + 1 → AreFineBefore grades seeds layout trees u
    fine_behind before totals u fine is = λ v some less. (fine.lists v, fine.fine v some (omega (arith, is, less)))

    -- ---- all

    pub first_outside : (found : Damage) → IsOutside layout trees found
        → ((t : Table) (number : ℤ) → found ≡ damage.Outside t number → AreWithinBefore t layout trees)
        → IsFirst grades seeds layout trees found
    first_outside (damage.Outside t number) is before = before t number refl
    first_outside (damage.Stray u t number) is before = absurd is
    first_outside (damage.Broken u found) is before = absurd is

    pub first_judged : (found : Damage) → AreWithin layout trees
        → ((u : ℕ) → account_in found ≡ Some u → AreFineBefore grades seeds layout trees u)
        → IsFirst grades seeds layout trees found
    first_judged (damage.Outside t number) within before = λ b less. within b
    first_judged (damage.Stray u t number) within before = (within, before u refl)
    first_judged (damage.Broken u broken) within before = (within, before u refl)
