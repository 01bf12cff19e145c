-- What can be wrong with a file.
use Rattle.std.specs.Prelude.{◌≡◌, ℕ, ℤ, ◌++◌, List, Bool, true, Some}
use Rattle.std.specs.List.{AllByRecursion}
use Rattle.sqlite_trees.specs.Tree.{Trees}
use Rattle.sqlite_value.specs.Order.{Row}
use Rattle.acvp_mac.specs.Conditions.{first_broken}
use Rattle.acvp_check.specs.Conditions.{all_conditions}
use Rattle.acvp_check.specs.Owners.{owner_conditions}
use Rattle.acvp_check.specs.declared.finding.Finding.{Finding}
use Rattle.acvp_tables.specs.Content.{Content}
use Rattle.acvp_store.specs.Ranges.{is_between, HasStrayRow, IsAccountRow, FitsAccount, IsSessionRow, FitsSession}
use Rattle.acvp_store.specs.Ranges.{IsSetRow, FitsSet, KeepsSets, IsObjectRow, FitsObject, KeepsObjects}
use Rattle.acvp_store.specs.Ranges.{IsRequestRow, FitsRequest, IsReviewerRow, FitsReviewer, first_number, last_number}
use Rattle.acvp_store.specs.Ranges.{first_set, last_set, HasNumberBetween, HasRowOutside, IsRegisteredWithin}
use Rattle.acvp_store.specs.Ranges.{is_column_between}
use Rattle.acvp_store.specs.Rows.{account_tree, HoldsAccounts, session_tree, HoldsSessions}
use Rattle.acvp_store.specs.Schema.{Layout}
use Rattle.acvp_store.specs.Stands.{set_tree, object_tree, request_tree, HoldsRequests, reviewer_tree, HoldsReviewers}
use Rattle.acvp_audit.specs.Read.{AreRowsOf}
use Rattle.acvp_audit.specs.declared.table.Table.{Table}
use Rattle.acvp_audit.specs.declared.table.Table.TheVariants as table
use Rattle.acvp_audit.specs.declared.damage.Damage.{Damage}
use Rattle.acvp_audit.specs.declared.damage.Damage.TheVariants as damage

-- the rows of a table
abbrev pub table_rows : Table → Layout → Trees → List Row
table_rows table.Account layout trees = trees account_tree
table_rows table.Session layout trees = trees session_tree
table_rows table.Set layout trees = trees (set_tree layout)
table_rows table.Object layout trees = trees object_tree
table_rows table.Request layout trees = trees request_tree
table_rows table.Reviewer layout trees = trees (reviewer_tree layout)

-- the column with the number that a row is told by, which is its session's for a reviewer
abbrev pub number_column : Table → ℕ
number_column table.Account = 0
number_column table.Session = 0
number_column table.Set = 0
number_column table.Object = 2
number_column table.Request = 0
number_column table.Reviewer = 1

-- the number of a row begins with an account's, 1 to 9999, and an object is of one of the three kinds
abbrev pub IsInside : Table → Row → Type 0
IsInside table.Account = λ row. is_between 1 9999 row ≡ true
IsInside table.Session = λ row. is_between (first_number 1) (last_number 9999) row ≡ true
IsInside table.Set = λ row. is_between (first_set 1) (last_set 9999) row ≡ true
IsInside table.Object = IsRegisteredWithin 9999
IsInside table.Request = λ row. is_between (first_number 1) (last_number 9999) row ≡ true
IsInside table.Reviewer = HasNumberBetween 1 (first_number 1) (last_number 9999)

-- each row of a table is inside
abbrev pub IsWithin : Table → Layout → Trees → Type 0
IsWithin t layout trees = AllByRecursion (IsInside t) (table_rows t layout trees)

-- a row of a table has this number and isn't inside
abbrev pub HasOutside : Table → ℤ → Layout → Trees → Type 0
HasOutside t number layout trees = HasRowOutside (IsInside t) (number_column t) number (table_rows t layout trees)

-- of the rows of a table with an account's numbers, one has this number, which is its session's for a reviewer, and
-- stands for nothing
abbrev pub HasStray : Table → ℕ → ℤ → Layout → Trees → Type 0
HasStray table.Account u n layout trees =
    HasStrayRow HoldsAccounts IsAccountRow FitsAccount (is_between u u) 0 n (trees account_tree)
HasStray table.Session u n layout trees =
    HasStrayRow HoldsSessions IsSessionRow FitsSession (is_between (first_number u) (last_number u)) 0 n
    (trees session_tree)
HasStray table.Set u n layout trees =
    HasStrayRow KeepsSets IsSetRow FitsSet (is_between (first_set u) (last_set u)) 0 n (trees (set_tree layout))
HasStray table.Object u n layout trees =
    HasStrayRow KeepsObjects IsObjectRow FitsObject (is_column_between 2 (first_number u) (last_number u)) 2 n
    (trees object_tree)
HasStray table.Request u n layout trees =
    HasStrayRow HoldsRequests IsRequestRow FitsRequest (is_between (first_number u) (last_number u)) 0 n
    (trees request_tree)
HasStray table.Reviewer u n layout trees =
    HasStrayRow HoldsReviewers IsReviewerRow FitsReviewer (is_column_between 1 (first_number u) (last_number u)) 1 n
    (trees (reviewer_tree layout))

-- the first condition on the rows with an account's numbers that is broken: on whose they are, and then all others
abbrev pub IsBroken : Bool → List (List ℕ) → ℕ → Content → Finding → Type 0
IsBroken grades seeds u mine found =
    first_broken (owner_conditions mine ++ all_conditions grades seeds u mine) ≡ Some found

-- what is told is so of these trees
abbrev pub IsDamaged : Bool → List (List ℕ) → Layout → Trees → Damage → Type 0
IsDamaged grades seeds layout trees (damage.Outside t number) = HasOutside t number layout trees
IsDamaged grades seeds layout trees (damage.Stray u t number) = HasStray t u number layout trees
IsDamaged grades seeds layout trees (damage.Broken u found) =
    (mine : Content) × AreRowsOf layout trees u mine × IsBroken grades seeds u mine found

-- each row of every table is inside
abbrev pub AreWithin : Layout → Trees → Type 0
AreWithin layout trees = (t : Table) → IsWithin t layout trees

-- the same where a broken condition is told only if each row is inside
abbrev pub IsDamagedIn : Bool → List (List ℕ) → Layout → Trees → Damage → Type 0
IsDamagedIn grades seeds layout trees (damage.Outside t number) = HasOutside t number layout trees
IsDamagedIn grades seeds layout trees (damage.Stray u t number) = HasStray t u number layout trees
IsDamagedIn grades seeds layout trees (damage.Broken u found) =
    AreWithin layout trees × IsDamaged grades seeds layout trees (damage.Broken u found)
