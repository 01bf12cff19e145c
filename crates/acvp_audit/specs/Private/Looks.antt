-- What a look at a part of the tables tells.
use Rattle.std.specs.Prelude.{◌≡◌, ◌⊎◌, ℕ, ◌<◌, ◌≤◌, List, Bool, IfOk, IsTrue, Result}
use Rattle.sqlite.specs.State.{State}
use Rattle.sqlite_trees.specs.Tree.{Trees}
use Rattle.acvp_tables.specs.Content.{Content}
use Rattle.acvp_store.specs.Connection.{InStore}
use Rattle.acvp_store.specs.Schema.{Layout}
use Rattle.acvp_audit.specs.Read.{AreInTrees}
use Rattle.acvp_audit.specs.Wrong.{HasOutside, IsWithin}
use Rattle.acvp_audit.specs.Checked.{IsFine, totals_to}
use Rattle.acvp_audit.specs.declared.damage.Damage.{Damage}
use Rattle.acvp_audit.specs.declared.damage.Damage.TheVariants as damage
use Rattle.acvp_audit.specs.declared.damage.Totals.{Totals}
use Rattle.acvp_audit.specs.declared.table.Table.{Table}

-- What a call tells where it succeeds: so are the tables that it found, if the connection is open then.
abbrev pub Tells : {X E : Type 0} → Result X E → State → State → (Layout → Trees → X → Type 0) → Type 0
Tells result old new Said = IsTrue new.is_open → IfOk result
    (λ told. InStore old.now (λ layout. AreInTrees layout old.now.trees → Said layout old.now.trees told))

-- what is told is that a row with this number isn't inside, and it is so of these trees
abbrev pub IsOutside : Layout → Trees → Damage → Type 0
IsOutside layout trees (damage.Outside t number) = HasOutside t number layout trees
IsOutside layout trees (damage.Stray u t number) = ⊥
IsOutside layout trees (damage.Broken u found) = ⊥

-- this is one of three tables, and no row lies outside in those before it
abbrev pub IsBehind : Table → Table → Table → Table → Layout → Trees → Type 0
IsBehind first second third t layout trees = (t ≡ first) ⊎ (((t ≡ second) × IsWithin first layout trees)
    ⊎ ((t ≡ third) × IsWithin first layout trees × IsWithin second layout trees))

-- no condition is broken on the rows of the accounts up to one, which have so many in all
pub record AreFineTo (grades : Bool) (seeds : List (List ℕ)) (layout : Layout) (trees : Trees) (last : ℕ)
    (totals : Totals) : Type 0 where
  pub lists : ℕ → Content
  pub fine : (u : ℕ) → 0 < u → u ≤ last → IsFine grades seeds layout trees u (lists u)
  pub counted : totals ≡ totals_to lists last
