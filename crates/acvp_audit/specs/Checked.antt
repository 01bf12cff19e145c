-- What a check of a file comes to.
use Rattle.std.specs.Prelude.{◌≡◌, ℕ, zero, suc, ◌+◌, ◌<◌, List, length, Bool, true, false, Result, OnOk}
use Rattle.std.specs.Prelude.{◌&&◌, Option, Some, None, is_some, slice_get, IfErr, IsTrue}
use Rattle.std.specs.List.{AllByRecursion, list_all}
use Rattle.sqlite.specs.State.{State, HasCleanDisk}
use Rattle.sqlite_trees.specs.Tree.{Trees}
use Rattle.acvp_mac.specs.Conditions.{first_broken}
use Rattle.acvp_check.specs.Conditions.{all_conditions, is_disposed, is_beyond_kept}
use Rattle.acvp_check.specs.Order.{HaveSameRows, AreInOrder}
use Rattle.acvp_check.specs.Owners.{owner_conditions}
use Rattle.acvp_check.specs.Rows.{rows_numbered}
use Rattle.acvp_desk.specs.Certifications.{AreCertified, IsLeft}
use Rattle.acvp_desk.specs.Epochs.{AreInEpochs}
use Rattle.acvp_desk.specs.Kept.{IsKept}
use Rattle.acvp_desk.specs.Registrations.{AreRegistered}
use Rattle.acvp_tables.specs.Content.{Content}
use Rattle.acvp_tables.specs.Counted.{IsCounted}
use Rattle.acvp_tables.specs.State.{AreWellNumbered, of_all}
use Rattle.acvp_tables.specs.declared.rows.SetRow.{SetRow}
use Rattle.acvp_tables.specs.declared.rows.RequestRow.{RequestRow}
use Rattle.acvp_store.specs.Connection.{Stays, LeavesNoMore}
use Rattle.acvp_store.specs.Ranges.{KeepsSets}
use Rattle.acvp_store.specs.Schema.{Layout}
use Rattle.acvp_store.specs.Stands.{Stands, set_tree}
use Rattle.acvp_audit.specs.Read.{AreInTrees, AreRowsOf, IsRegistrable}
use Rattle.acvp_audit.specs.Wrong.{AreWithin, IsBroken, IsDamagedIn, IsWithin, HasOutside, HasStray}
use Rattle.acvp_audit.specs.declared.table.Table.{Table}
use Rattle.acvp_audit.specs.declared.table.Table.TheVariants as table
use Rattle.acvp_audit.specs.declared.damage.AuditFault.{AuditFault}
use Rattle.acvp_audit.specs.declared.damage.AuditFault.TheVariants as fault
use Rattle.acvp_audit.specs.declared.damage.Damage.{Damage}
use Rattle.acvp_audit.specs.declared.damage.Damage.TheVariants as damage
use Rattle.acvp_audit.specs.declared.damage.Totals.{Totals}

-- A reading, which commits nothing. Where it succeeds and the disk is clean, a connection that was open is open.
pub record IsReading {X E : Type 0} (result : Result X E) (old new : State) : Type 0 where
  pub stays : Stays old new
  pub was_clean : HasCleanDisk new → HasCleanDisk old
  pub stays_open : OnOk result (HasCleanDisk new → IsTrue old.is_open → IsTrue new.is_open)
  pub limit : new.step_limit ≡ old.step_limit
  pub left : LeavesNoMore old new

-- how many rows a content has
abbrev pub totals_of : Content → Totals
totals_of c = record {
  accounts = length c.accounts;
  sessions = length c.sessions;
  sets = length c.sets;
  requests = length c.requests;
}

abbrev pub plus : Totals → Totals → Totals
plus a b = record {
  accounts = a.accounts + b.accounts;
  sessions = a.sessions + b.sessions;
  sets = a.sets + b.sets;
  requests = a.requests + b.requests;
}

-- ---- accounts

-- no condition is broken on the rows with an account's numbers
pub record IsFine (grades : Bool) (seeds : List (List ℕ)) (layout : Layout) (trees : Trees) (u : ℕ) (mine : Content)
    : Type 0 where
  pub rows : AreRowsOf layout trees u mine
  pub owners : first_broken (owner_conditions mine) ≡ None
  pub others : first_broken (all_conditions grades seeds u mine) ≡ None

-- how many rows the first accounts have
unfoldable pub totals_to : (ℕ → Content) → ℕ → Totals
totals_to lists zero = record { accounts = 0; sessions = 0; sets = 0; requests = 0 }
totals_to lists (suc u) = plus (totals_to lists u) (totals_of (lists (suc u)))

-- ---- the whole

-- there is a seed of the set's epoch, and the disposition is that of the verdicts
abbrev pub is_seeded : List (List ℕ) → SetRow → Bool
is_seeded seeds row = is_some (slice_get seeds row.epoch) && of_all is_disposed row.graded

-- The records have what every run keeps. Without the verdicts on the answers they are well numbered, counted,
-- certified, registered and in epochs so, and what else is asked of vector sets is so.
abbrev pub AreLeftAs : Bool → List (List ℕ) → Content → Type 0
AreLeftAs true seeds c = IsLeft seeds c
AreLeftAs false seeds c =
    AreWellNumbered c × IsCounted c × (list_all (is_seeded seeds) c.sets ≡ true) × AreCertified c × AreRegistered c
    × AreInEpochs c

-- The rows stand for records that have what every run keeps, so many in all.
pub record IsWholeAs (grades : Bool) (seeds : List (List ℕ)) (layout : Layout) (trees : Trees) (totals : Totals)
    : Type 0 where
  pub records : Content
  pub stand : Stands layout trees records
  pub left : AreLeftAs grades seeds records
  pub counted : totals ≡ totals_of records

-- What is told of a content that the rows stand for. A row with the number that is told lies outside the numbers of
-- accounts, or is one of those with an account's numbers and of none of the members that a kept content has; or a
-- condition is the first that is broken on the content's own rows with an account's numbers, in an order in which those
-- of sessions, vector sets, requests and each kind of objects rise.
abbrev pub IsTold : Bool → List (List ℕ) → Layout → Trees → Content → Damage → Type 0
IsTold grades seeds layout trees c (damage.Outside t number) = HasOutside t number layout trees
IsTold grades seeds layout trees c (damage.Stray u t number) = HasStray t u number layout trees
IsTold grades seeds layout trees c (damage.Broken u found) =
    (mine : Content) × HaveSameRows (rows_numbered u c) mine × AreInOrder mine × IsBroken grades seeds u mine found

-- what is wrong is with a certification, a registration, an epoch or an answer, and nothing that kept records meet
abbrev pub is_damage_beyond_kept : Damage → Bool
is_damage_beyond_kept (damage.Outside t number) = false
is_damage_beyond_kept (damage.Stray u t number) = false
is_damage_beyond_kept (damage.Broken u found) = is_beyond_kept found.wrong

-- What is told is so of the rows. Whatever content they stand for, with texts of capabilities in UTF-8, no run leaves
-- it; and unless what is wrong is with a certification, a registration, an epoch or an answer alone, it isn't kept. And
-- what is told is so of the content, where each registration that was asked for is of one of the three kinds.
pub record IsRefuted (grades : Bool) (seeds : List (List ℕ)) (layout : Layout) (trees : Trees) (found : Damage)
    : Type 0 where
  pub so : AreInTrees layout trees → IsDamagedIn grades seeds layout trees found
  pub told : (c : Content) → Stands layout trees c → KeepsSets (trees (set_tree layout)) c.sets
      → AllByRecursion (λ (row : RequestRow). IsRegistrable row.body) c.requests
      → IsTold grades seeds layout trees c found
  pub refuted : (c : Content) → Stands layout trees c → KeepsSets (trees (set_tree layout)) c.sets → ¬ IsLeft seeds c
  pub unkept : is_damage_beyond_kept found ≡ false → (c : Content) → Stands layout trees c
      → KeepsSets (trees (set_tree layout)) c.sets → ¬ IsKept seeds c

-- the place of a table among those in which rows outside are looked for
abbrev pub position : Table → ℕ
position table.Account = 0
position table.Session = 1
position table.Set = 2
position table.Object = 3
position table.Request = 4
position table.Reviewer = 5

-- no row lies outside in the tables before this one
abbrev pub AreWithinBefore : Table → Layout → Trees → Type 0
AreWithinBefore t layout trees = (before : Table) → position before < position t → IsWithin before layout trees

-- the account on whose rows something is wrong, where that is no row outside
abbrev pub account_in : Damage → Option ℕ
account_in (damage.Outside t number) = None
account_in (damage.Stray u t number) = Some u
account_in (damage.Broken u found) = Some u

-- the rows with the numbers of the accounts before this one stand for something, and no condition on them is broken
abbrev pub AreFineBefore : Bool → List (List ℕ) → Layout → Trees → ℕ → Type 0
AreFineBefore grades seeds layout trees u =
    (v : ℕ) → 0 < v → v < u → (mine : Content) × IsFine grades seeds layout trees v mine

-- What is looked at before has nothing wrong: rows outside are looked for in one table after another, and behind all
-- tables one account after another is looked at, for rows that stand for nothing and for broken conditions. Which of an
-- account's rows that stand for nothing is told isn't said.
abbrev pub IsFirst : Bool → List (List ℕ) → Layout → Trees → Damage → Type 0
IsFirst grades seeds layout trees (damage.Outside t number) = AreWithinBefore t layout trees
IsFirst grades seeds layout trees (damage.Stray u t number) =
    AreWithin layout trees × AreFineBefore grades seeds layout trees u
IsFirst grades seeds layout trees (damage.Broken u found) =
    AreWithin layout trees × AreFineBefore grades seeds layout trees u

-- where something is told to be wrong with rows, the connection is open, if the disk is clean
abbrev pub IsWrongOpenly : {X : Type 0} → Result X AuditFault → State → State → Type 0
IsWrongOpenly result old new =
    IfErr result (λ why. (found : Damage) → why ≡ fault.Wrong found → HasCleanDisk new → IsTrue new.is_open)
