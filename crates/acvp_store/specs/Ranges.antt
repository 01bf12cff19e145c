-- What a read of a table's rows in a range of numbers tells, whatever the rows are.
use Rattle.std.specs.Prelude.{◌≡◌, ⊤, ℕ, ℤ, zero, suc, length, Bool, ◌&&◌, nat_le, ◌<◌, ◌≤◌, ◌+◌, ◌*◌, ◌^◌, List, []}
use Rattle.std.specs.Prelude.{◌++◌, slice_get, Some, None, IsUtf8, true}
use Rattle.std.specs.List.{AllByRecursion, filter}
use Rattle.std.specs.Ordering.{is_le, is_ge}
use Rattle.sqlite_trees.specs.Tree.{IsAscending, rowid}
use Rattle.sqlite_trees.specs.View.{IsShaped}
use Rattle.sqlite_trees.specs.declared.store.Shape.TheVariants.{Table}
use Rattle.sqlite_value.specs.Order.{Row, column, value_cmp}
use Rattle.sqlite_value.specs.declared.value.Value.TheVariants.{Int}
use Rattle.acvp_registry.specs.Object.{object_fault}
use Rattle.acvp_tables.specs.Content.{kind_number}
use Rattle.acvp_tables.specs.declared.rows.AccountRow.{AccountRow}
use Rattle.acvp_tables.specs.declared.rows.RequestRow.{RequestRow}
use Rattle.acvp_tables.specs.declared.rows.RequestBody.{RequestBody}
use Rattle.acvp_tables.specs.declared.rows.RequestBody.TheVariants as body
use Rattle.acvp_tables.specs.declared.rows.SessionRow.{SessionRow}
use Rattle.acvp_tables.specs.declared.rows.ObjectRow.{ObjectRow}
use Rattle.acvp_tables.specs.declared.rows.SetRow.{SetRow}
use Rattle.acvp_tables.specs.declared.rows.ReviewerRow.{ReviewerRow}
use Rattle.acvp_store.specs.Rows.{account_row, session_row}
use Rattle.acvp_store.specs.Stands.{request_row, BodyReads, SetColumns, set_row, IsSet, HoldsSets, entry_row}
use Rattle.acvp_store.specs.Stands.{HoldsObjects, FitColumns, object_columns, IsKeepable}
use Rattle.acvp_store.specs.Stands.{HoldsReviewers, reviewer_columns}
use Rattle.acvp_store.specs.Values.{whole}
use Rattle.acvp_store.specs.Version.{is_equal}

-- the number of a row in its tree lies between these two
abbrev pub is_between : ℕ → ℕ → Row → Bool
is_between first last row = is_ge (value_cmp (rowid row) (whole first)) && is_le (value_cmp (rowid row) (whole last))

-- The rows of a table's tree are in the order of their numbers, which are whole. Every tree of SQLite is so, and the
-- kit keeps it, but it doesn't say it of an open connection.
abbrev pub IsTree : List Row → Type 0
IsTree = IsShaped Table

-- the rows in the range stand for the list, which is in the order of its numbers
pub record IsRange {A : Type 0} (Holds : List Row → List A → Type 0) (key : A → ℕ) (first last : ℕ) (rows : List Row)
    (list : List A) : Type 0 where
  pub holds : Holds (filter (is_between first last) rows) list
  pub rising : IsAscending (λ a b. key a < key b) list

-- Each row has so many values, with its number. SQLite reads a row that lacks the last ones as if they were NULL, and
-- the schema lets it lack those that may be.
abbrev pub AreFull : ℕ → List Row → Type 0
AreFull values rows = AllByRecursion (λ row. length row ≡ values) rows

-- the rows stand for no list of members that fit the program's types
abbrev pub StandsForNone : {A : Type 0} → (List Row → List A → Type 0) → (A → Type 0) → List Row → Type 0
StandsForNone {A = A} Holds Fits rows = (list : List A) → AllByRecursion Fits list → ¬ Holds rows list

-- One of the rows passes the test of the range that was asked for, has the number that is told in the column at a
-- place, and is that of no member that fits the program's types. So the rows stand for no list of such members.
pub record HasStrayRow {A : Type 0} (Holds : List Row → List A → Type 0) (IsOf : Row → A → Type 0) (Fits : A → Type 0)
    (is_asked : Row → Bool) (place : ℕ) (told : ℤ) (rows : List Row) : Type 0 where
  pub row : Row
  pub at : ℕ
  pub there : slice_get rows at ≡ Some row
  pub asked : is_asked row ≡ true
  pub number : column row place ≡ Int told
  pub of_none : (a : A) → Fits a → ¬ IsOf row a
  pub none : StandsForNone Holds Fits rows

-- One of the rows, which has the number that is told in the column at a place, isn't inside. So not all rows are.
pub record HasRowOutside (IsInside : Row → Type 0) (place : ℕ) (told : ℤ) (rows : List Row) : Type 0 where
  pub row : Row
  pub at : ℕ
  pub there : slice_get rows at ≡ Some row
  pub number : column row place ≡ Int told
  pub outside : ¬ IsInside row

-- ---- the numbers of an account's rows

abbrev pub first_number : ℕ → ℕ
first_number account = account * 1000000

abbrev pub last_number : ℕ → ℕ
last_number account = account * 1000000 + 999999

-- the number has 16 bits, and the secret 32 bytes
abbrev pub FitsAccount : AccountRow → Type 0
FitsAccount a = (a.number < 2 ^ 16) × (length a.secret ≡ 32)

abbrev pub IsAccountRow : Row → AccountRow → Type 0
IsAccountRow row a = row ≡ account_row a

-- the account's number has 16 bits
abbrev pub FitsSession : SessionRow → Type 0
FitsSession s = s.account < 2 ^ 16

abbrev pub IsSessionRow : Row → SessionRow → Type 0
IsSessionRow row s = row ≡ session_row s

-- An object is one of those that are registered, as the value of one is read. The numbers of a certification's URLs
-- have 19 digits at most.
abbrev pub FitsRequestBody : RequestBody → Type 0
FitsRequestBody (body.Registration o) = (kind_number o.kind < 4) × (object_fault o.kind o.value ≡ None)
FitsRequestBody (body.Certification c) = (c.«module» < 10 ^ 19) × (c.environment < 10 ^ 19)

-- the account's number has 16 bits too
abbrev pub FitsRequest : RequestRow → Type 0
FitsRequest r = (r.account < 2 ^ 16) × FitsRequestBody r.body

-- the row is that of the request, whose text reads as its body
abbrev pub IsRequestRow : Row → RequestRow → Type 0
IsRequestRow row r = (row ≡ request_row r) × BodyReads r.body

-- each account's list, from 1 on, is that of the range between its first and its last number
abbrev pub AreRangesBetween : {A : Type 0} → (ℕ → ℕ) → (ℕ → ℕ) → (List Row → List A → Type 0) → (A → ℕ) → List Row
    → (ℕ → List A) → ℕ → Type 0
AreRangesBetween first_of last_of Holds key rows lists last = (u : ℕ) → 0 < u → u ≤ last
    → IsRange Holds key (first_of u) (last_of u) rows (lists u)

-- these are the numbers of its sessions, requests and objects
abbrev pub AreRanges : {A : Type 0} → (List Row → List A → Type 0) → (A → ℕ) → List Row → (ℕ → List A) → ℕ → Type 0
AreRanges = AreRangesBetween first_number last_number

-- the lists of the accounts from 1 on, joined in their order
unfoldable pub joined : {A : Type 0} → (ℕ → List A) → ℕ → List A
joined lists zero = []
joined lists (suc u) = joined lists u ++ lists (suc u)

-- the number lies between these two
abbrev pub is_number_between : ℕ → ℕ → ℕ → Bool
is_number_between first last number = nat_le first number && nat_le number last

-- the row's column at a place lies between these two
abbrev pub is_column_between : ℕ → ℕ → ℕ → Row → Bool
is_column_between place first last row = is_ge (value_cmp (column row place) (whole first))
    && is_le (value_cmp (column row place) (whole last))

-- the row's column at a place is a whole number between these two
abbrev pub HasNumberBetween : ℕ → ℕ → ℕ → Row → Type 0
HasNumberBetween place first last row = (n : ℕ) × (column row place ≡ whole n)
    × (is_number_between first last n ≡ true)

-- ---- vector sets

-- the numbers of an account's sets are those of its sessions times 100, with what the set adds
abbrev pub first_set : ℕ → ℕ
first_set account = account * 100000000

abbrev pub last_set : ℕ → ℕ
last_set account = account * 100000000 + 99999999

abbrev pub set_number : SetRow → ℕ
set_number s = s.number

-- The rows stand for the sets, and the text of each capability is one of UTF-8, as the program reads no other. What
-- such a text reads as is said of any bytes.
pub record KeepsSets (rows : List Row) (sets : List SetRow) : Type 0 where
  pub kept : HoldsSets rows sets
  pub texts : AllByRecursion (λ c. IsUtf8 c.capability) kept.columns

-- the row is that of the set, with such a text
abbrev pub IsSetRow : Row → SetRow → Type 0
IsSetRow row s = (c : SetColumns) × (row ≡ set_row c) × IsSet c s × IsUtf8 c.capability

-- all sets fit the program's types
abbrev pub FitsSet : SetRow → Type 0
FitsSet s = ⊤

-- ---- registered objects

-- the row's kind is this, and its number lies between these two
abbrev pub is_object_between : ℕ → ℕ → ℕ → Row → Bool
is_object_between kind first last row = is_equal (column row 1) (whole kind)
    && (is_ge (value_cmp (column row 2) (whole first)) && is_le (value_cmp (column row 2) (whole last)))

-- the rows stand for the objects, each of which can be kept
pub record KeepsObjects (rows : List Row) (objects : List ObjectRow) : Type 0 where
  pub kept : HoldsObjects rows objects
  pub numbers : FitColumns objects

-- the account's number has 16 bits, and the object is one of those that are registered, as the value of one is read
abbrev pub FitsObject : ObjectRow → Type 0
FitsObject o = (o.account < 2 ^ 16) × (kind_number o.object.kind < 4)
    × (object_fault o.object.kind o.object.value ≡ None)

-- the row is that of the object, which can be kept
abbrev pub IsObjectRow : Row → ObjectRow → Type 0
IsObjectRow row o = ((id : ℤ) × (row ≡ entry_row object_columns (record { id = id; row = o }))) × IsKeepable o

-- the lists of each of the three kinds and of each account, from 1 on, are those of their rows
abbrev pub AreObjectRanges : List Row → (ℕ → ℕ → List ObjectRow) → ℕ → Type 0
AreObjectRanges rows lists last = (kind : ℕ) → 0 < kind → kind ≤ 3 → (u : ℕ) → 0 < u → u ≤ last
    → KeepsObjects (filter (is_object_between kind (first_number u) (last_number u)) rows) (lists kind u)

-- the row is of one of these kinds, and its number begins with an account's, up to this one
abbrev pub IsRegisteredWithin : ℕ → Row → Type 0
IsRegisteredWithin last row = HasNumberBetween 1 1 3 row
    × HasNumberBetween 2 (first_number 1) (last_number last) row

-- ---- reviewers

-- the row is that of the reviewer, whose session's number fits a column
abbrev pub IsReviewerRow : Row → ReviewerRow → Type 0
IsReviewerRow row r = ((id : ℤ) × (row ≡ entry_row reviewer_columns (record { id = id; row = r })))
    × (r.session < 2 ^ 63)

-- the account's number has 16 bits
abbrev pub FitsReviewer : ReviewerRow → Type 0
FitsReviewer r = r.account < 2 ^ 16

-- the lists of each account, from 1 on, are those of the rows whose sessions are the account's
abbrev pub AreReviewerRanges : List Row → (ℕ → List ReviewerRow) → ℕ → Type 0
AreReviewerRanges rows lists last = (u : ℕ) → 0 < u → u ≤ last
    → HoldsReviewers (filter (is_column_between 1 (first_number u) (last_number u)) rows) (lists u)
