-- Columns of whole numbers, of rows that the schema lets be.
use Rattle.std.proofs.Common.{◌≡◌, inl, inr, ℕ, pos, negsuc, List, [], ◌∷◌, Bool, true, false, IsTrue, refl, sym, ap}
use Rattle.std.proofs.Common.{◌∙◌}
use Rattle.std.specs.Prelude.{◌&&◌}
use Rattle.sqlite.specs.Kind.TheVariants.{Integer}
use Rattle.sqlite_schema.specs.Rules.{is_of}
use Rattle.acvp_store.proofs.Words.{AllByRecursion, cases_Bool, column, filter, HasNumberBetween, Int}
use Rattle.acvp_store.proofs.Words.{is_column_between, is_ge, is_int, is_le, is_null, is_number_between, not, Row}
use Rattle.acvp_store.proofs.Words.{Value, value_cmp, whole}
use Rattle.acvp_store.proofs.RangeJoins.{between_whole, between_none}
use Rattle.acvp_store.proofs.RangeOutside.{is_outside}

-- a value of a column of whole numbers that isn't NULL is one
pub is_whole : (v : Value) → is_of Integer v ≡ true → not (is_null v) ≡ true → IsTrue (is_int v)
is_whole (Int n) typed there = refl
is_whole _ typed there = absurd (cc)

sure : (b : Bool) → not b ≡ false → b ≡ true
sure true h = refl
sure false h = absurd (cc)

-- it lies within where it isn't outside
pub number_within : (f l : ℕ) (v : Value) → IsTrue (is_int v) → is_outside f l v ≡ false → (n : ℕ) × (v ≡ whole n)
    × (is_number_between f l n ≡ true)
number_within f l (Int (pos n)) good is = (n, refl, sym (between_whole f l n) ∙ sure _ is)
number_within f l (Int (negsuc n)) good is = absurd (let e : false ≡ true = sym (between_none f l n) ∙ sure _ is in cc)
number_within f l _ good is = absurd (cc)

-- and isn't outside where it lies within
pub not_outside : (place f l : ℕ) (row : Row) → HasNumberBetween place f l row
    → is_outside f l (column row place) ≡ false
not_outside place f l row is = ap (is_outside f l) is.1 ∙ ap not (between_whole f l is.0 ∙ is.2)

-- what no row passes
pub all_fail : (p : Row → Bool) (rows : List Row) → filter p rows ≡ [] → AllByRecursion (λ row. p row ≡ false) rows
all_fail p [] none = tt
all_fail p (r ∷ rows) none = elim (cases_Bool (p r)) [
  | inl is ↦ absurd (let e = rw is at none in cc)
  | inr isnt ↦ (isnt, all_fail p rows (rw isnt at none))
]

-- the test of a column that is a whole number
pub column_test : (place : ℕ) (row : Row) (n : ℕ) → column row place ≡ whole n → (f l : ℕ)
    → is_column_between place f l row ≡ is_number_between f l n
column_test place row n is f l = ap (λ v. is_ge (value_cmp v (whole f)) && is_le (value_cmp v (whole l))) is
    ∙ between_whole f l n
