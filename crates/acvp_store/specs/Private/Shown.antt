-- What is read of a row, as a query shows it; and which rows a query meets.
use Rattle.std.specs.Prelude.{◌≡◌, ◌≢◌, ◌<◌, ◌⊎◌, ⊤, ℕ, ℤ, List, take, length, slice_get, Bool, not, ◌&&◌, Option, Some}
use Rattle.std.specs.Prelude.{None, IsUtf8}
use Rattle.std.specs.List.{AllZip, AllByRecursion, filter}
use Rattle.std.specs.Ordering.{is_le, is_ge}
use Rattle.sqlite_sql.specs.Ops.{is_null}
use Rattle.sqlite_value.specs.declared.value.Value.{Value}
use Rattle.sqlite_value.specs.declared.value.Value.TheVariants.{Int}
use Rattle.sqlite_value.specs.Order.{Row, column, value_cmp}
use Rattle.acvp_store.specs.Values.{whole}
use Rattle.acvp_store.specs.Version.{is_equal}

-- a row begins with these columns
abbrev pub BeginsWith : Row → Row → Type 0
BeginsWith columns row = take (length columns) row ≡ columns

-- the first of the rows has this number in its first column
abbrev pub AreLedBy : ℤ → List Row → Type 0
AreLedBy number rows = (row : Row) × (slice_get rows 0 ≡ Some row) × (column row 0 ≡ Int number)

-- each row begins with the columns of what is read of it, which is as it has to be
abbrev pub AreShown : {T : Type 0} → (T → Type 0) → (T → Row) → List Row → List T → Type 0
AreShown Good shown = AllZip (λ row x. BeginsWith (shown x) row × Good x)

-- Of the rows of a table, whatever they are, each that a query meets shows such a member: these columns of it are the
-- member's.
abbrev pub AreMet : {T : Type 0} → (Row → Bool) → (Row → Row) → (T → Row) → (T → Type 0) → List Row → Type 0
AreMet {T = T} meets columns shown Good rows = AllByRecursion (λ row. (x : T) × (columns row ≡ shown x) × Good x)
    (filter meets rows)

-- a row is that of no member that fits the program's types
abbrev pub IsOfNone : {T : Type 0} → (T → Type 0) → (T → Row) → Row → Type 0
IsOfNone {T = T} fits shown row = (x : T) → fits x → row ≢ shown x

-- one of the rows is
abbrev pub HasOneOfNone : {T : Type 0} → (T → Type 0) → (T → Row) → List Row → Type 0
HasOneOfNone fits shown rows = (at : ℕ) × (row : Row) × (slice_get rows at ≡ Some row) × IsOfNone fits shown row

-- why one row isn't told: there are more, or it is that of none
abbrev pub HasNoOne : {T : Type 0} → (T → Type 0) → (T → Row) → List Row → Type 0
HasNoOne fits shown rows = (1 < length rows) ⊎ HasOneOfNone fits shown rows

-- a text that is there is one of UTF-8
abbrev pub IsText : Option (List ℕ) → Type 0
IsText None = ⊤
IsText (Some text) = IsUtf8 text

-- ---- comparisons of SQL, of any value

abbrev pub is_at_least : ℕ → Value → Bool
is_at_least n v = is_ge (value_cmp v (whole n))

abbrev pub is_at_most : ℕ → Value → Bool
is_at_most n v = not (is_null v) && is_le (value_cmp v (whole n))

abbrev pub is_other : ℕ → Value → Bool
is_other n v = not (is_null v) && not (is_equal v (whole n))

-- the row's number in its tree is this one
abbrev pub is_under : ℕ → Row → Bool
is_under n row = is_equal (column row 0) (whole n)

-- its second and third columns are a kind and a number
abbrev pub is_of : ℕ → ℕ → Row → Bool
is_of kind n row = is_equal (column row 1) (whole kind) && is_equal (column row 2) (whole n)
