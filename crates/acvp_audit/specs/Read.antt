-- What is read of a file: the rows with an account's numbers, and what they stand for.
use Rattle.std.specs.Prelude.{◌≡◌, ⊤, ℕ, ◌++◌, List, true}
use Rattle.std.specs.Prelude.{IfErr, IsTrue, Result}
use Rattle.std.specs.List.{AllByRecursion, filter}
use Rattle.sqlite.specs.State.{State}
use Rattle.sqlite_trees.specs.Tree.{Trees}
use Rattle.acvp_check.specs.Order.{rises}
use Rattle.acvp_registry.specs.Object.{is_registered}
use Rattle.acvp_registry.specs.declared.kind.Kind.{Kind}
use Rattle.acvp_tables.specs.Content.{Content}
use Rattle.acvp_tables.specs.State.{objects_in}
use Rattle.acvp_tables.specs.declared.rows.AccountRow.{AccountRow}
use Rattle.acvp_tables.specs.declared.rows.SessionRow.{SessionRow}
use Rattle.acvp_tables.specs.declared.rows.SetRow.{SetRow}
use Rattle.acvp_tables.specs.declared.rows.ObjectRow.{ObjectRow}
use Rattle.acvp_tables.specs.declared.rows.RequestRow.{RequestRow}
use Rattle.acvp_tables.specs.declared.rows.RequestBody.{RequestBody}
use Rattle.acvp_tables.specs.declared.rows.RequestBody.TheVariants as body
use Rattle.acvp_tables.specs.declared.rows.ReviewerRow.{ReviewerRow}
use Rattle.acvp_store.specs.Connection.{InStore}
use Rattle.acvp_store.specs.Ranges.{IsTree, AreFull, IsRange, is_object_between, is_column_between, KeepsSets}
use Rattle.acvp_store.specs.Ranges.{KeepsObjects, first_number, last_number, first_set, last_set, set_number}
use Rattle.acvp_store.specs.Rows.{account_tree, account_key, HoldsAccounts, session_tree, session_key, HoldsSessions}
use Rattle.acvp_store.specs.Schema.{Layout}
use Rattle.acvp_store.specs.Stands.{set_tree, object_tree, request_tree, request_key, HoldsRequests, reviewer_tree}
use Rattle.acvp_store.specs.Stands.{HoldsReviewers}

-- The rows of each table lie in the order of their numbers, which are whole, and those of accounts and requests have a
-- value for each column. Every file of SQLite is so, but for values that a row may lack at its end; an open connection
-- doesn't say it. Rows that stand for records are so.
pub record AreInTrees (layout : Layout) (trees : Trees) : Type 0 where
  pub accounts : IsTree (trees account_tree)
  pub full_accounts : AreFull 5 (trees account_tree)
  pub sessions : IsTree (trees session_tree)
  pub sets : IsTree (trees (set_tree layout))
  pub objects : IsTree (trees object_tree)
  pub requests : IsTree (trees request_tree)
  pub full_requests : AreFull 7 (trees request_tree)
  pub reviewers : IsTree (trees (reviewer_tree layout))

-- What a call blames where it fails: so are the tables that it found, if the connection is open then.
abbrev pub Blames : {X E : Type 0} → Result X E → State → State → (Layout → Trees → E → Type 0) → Type 0
Blames result old new Said = IsTrue new.is_open → IfErr result
    (λ fault. InStore old.now (λ layout. AreInTrees layout old.now.trees → Said layout old.now.trees fault))

-- the account, its sessions and their sets
pub record AreTests (layout : Layout) (trees : Trees) (u : ℕ) (accounts : List AccountRow) (sessions : List SessionRow)
    (sets : List SetRow) : Type 0 where
  pub account_range : IsRange HoldsAccounts account_key u u (trees account_tree) accounts
  pub session_range : IsRange HoldsSessions session_key (first_number u) (last_number u) (trees session_tree) sessions
  pub set_range : IsRange KeepsSets set_number (first_set u) (last_set u) (trees (set_tree layout)) sets

-- the objects of a kind
abbrev pub AreOfKind : ℕ → Trees → ℕ → List ObjectRow → Type 0
AreOfKind kind trees u objects =
    KeepsObjects (filter (is_object_between kind (first_number u) (last_number u)) (trees object_tree)) objects

-- the objects of each kind, one kind after another
pub record AreObjects (trees : Trees) (u : ℕ) (objects : List ObjectRow) : Type 0 where
  pub vendors : List ObjectRow
  pub modules : List ObjectRow
  pub environments : List ObjectRow
  pub joined : objects ≡ (vendors ++ modules) ++ environments
  pub of_vendors : AreOfKind 1 trees u vendors
  pub of_modules : AreOfKind 2 trees u modules
  pub of_environments : AreOfKind 3 trees u environments

-- a registration is of one of the three kinds
abbrev pub IsRegistrable : RequestBody → Type 0
IsRegistrable (body.Registration object) = is_registered object.kind ≡ true
IsRegistrable (body.Certification c) = ⊤

-- what was registered, what was asked for, and who reviews the account's sessions
pub record AreEntries (layout : Layout) (trees : Trees) (u : ℕ) (objects : List ObjectRow)
    (requests : List RequestRow) (reviewers : List ReviewerRow) : Type 0 where
  pub of_kinds : AreObjects trees u objects
  pub request_range : IsRange HoldsRequests request_key (first_number u) (last_number u) (trees request_tree) requests
  pub reviewer_rows : HoldsReviewers (filter (is_column_between 1 (first_number u) (last_number u))
      (trees (reviewer_tree layout))) reviewers

-- a content has what the rows with an account's numbers stand for, in the order of their numbers
pub record AreRowsOf (layout : Layout) (trees : Trees) (u : ℕ) (mine : Content) : Type 0 where
  pub tests : AreTests layout trees u mine.accounts mine.sessions mine.sets
  pub entries : AreEntries layout trees u mine.objects mine.requests mine.reviewers
  pub in_order : (kind : Kind) → rises (λ row. row.number) (objects_in kind mine.objects) ≡ true
  pub registrable : AllByRecursion (λ (row : RequestRow). IsRegistrable row.body) mine.requests
