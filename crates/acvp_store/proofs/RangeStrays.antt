-- A row of a query's answer that stands for nothing is one of the table's, which then stands for no list.
use Rattle.std.proofs.Common.{◌≡◌, ℕ, ℤ, zero, suc, List, [], ◌∷◌, map, Bool, true, Some, Err, Ok, Result, IfErr, IfOk}
use Rattle.std.proofs.Common.{slice_get, refl, sym, ap, subst, ◌∙◌}
use Rattle.acvp_store.proofs.Words.{all-filter, all-map, all-permutation, all-slice_get, all_both, all_weaker}
use Rattle.acvp_store.proofs.Words.{AllByRecursion, AllZip, AreKept, column, Database, filter, HasStray, HasStrayRow}
use Rattle.acvp_store.proofs.Words.{InStore, Int, IsOkAnd, IsPermutation, IsPermutation-sym, Layout}
use Rattle.acvp_store.proofs.Words.{RangeFault, Row, schema_of, Stray}
use Rattle.acvp_store.proofs.RangeRows.{all_passed}

-- what is told, whichever way the store's tables lie
pub fault_in_store : {X E : Type 0} (r : Result X E) (db : Database) (P : E → Layout → Type 0)
    → ((layout : Layout) → db.schema ≡ schema_of layout → IfErr r (λ e. P e layout)) → IfErr r (λ e. InStore db (P e))
fault_in_store (Ok x) db P h = tt
fault_in_store (Err e) db P h = h

-- ---- places

abbrev pub Has : List Row → Row → Type 0
Has rows row = (at : ℕ) × (slice_get rows at ≡ Some row)

all_there : (rows : List Row) → AllByRecursion (Has rows) rows
all_there [] = tt
all_there (r ∷ rows) = ((0, refl), all_weaker (Has rows) (Has (r ∷ rows)) (λ x h. (suc h.0, h.1)) rows (all_there rows))

-- these are the columns of a row of the table that passes
abbrev pub IsShown : (Row → Row) → (Row → Bool) → List Row → Row → Type 0
IsShown columns p table shown = (row : Row) × Has table row × (columns row ≡ shown) × (p row ≡ true)

pub all_shown : (columns : Row → Row) (p : Row → Bool) (table : List Row)
    → AllByRecursion (IsShown columns p table) (map columns (filter p table))
all_shown columns p table =
    let shows = λ (row : Row) (has : Has table row) (passes : p row ≡ true).
    let it : IsShown columns p table (columns row) = (row, has, refl, passes) in it in
    all-map (IsShown columns p table) columns (filter p table)
    (all_both (Has table) (λ row. p row ≡ true) (λ row. IsShown columns p table (columns row)) shows
    (filter p table) (all-filter (Has table) p table (all_there table)) (all_passed p table))

-- the row that a row of the answer shows
pub row_shown : (columns : Row → Row) (p : Row → Bool) (table rows : List Row)
    → IsPermutation (map columns (filter p table)) rows → (at : ℕ) (shown : Row) → slice_get rows at ≡ Some shown
    → IsShown columns p table shown
row_shown columns p table rows same at shown there =
    all-slice_get (IsShown columns p table) rows at shown there
    (all-permutation (IsShown columns p table) _ rows same (all_shown columns p table))

-- what is at a place of two lists
pub zip_at : {A B : Type 0} (R : A → B → Type 0) (xs : List A) (ys : List B) → AllZip R xs ys → (at : ℕ) (y : B)
    → slice_get ys at ≡ Some y → (x : A) × (slice_get xs at ≡ Some x) × R x y
zip_at R [] [] h at y there = absurd (cc)
zip_at R (x ∷ xs) (z ∷ ys) h zero y there = let same : z ≡ y = cc in (x, refl, subst (R x) same h.0)
zip_at R (x ∷ xs) (z ∷ ys) h (suc at) y there = zip_at R xs ys h.1 at y there
zip_at _ _ _ h at y there = absurd h

-- ---- a stray row

module _ {A : Type 0} (Holds : List Row → List A → Type 0) (IsOf : Row → A → Type 0) (Fits : A → Type 0)
    (each : (table : List Row) (list : List A) → AllByRecursion Fits list → Holds table list
    → AllByRecursion (λ row. (a : A) × Fits a × IsOf row a) table) where
  pub stray_row : (p : Row → Bool) (place : ℕ) (number : ℤ) (table : List Row) (row : Row) → Has table row
      → p row ≡ true → column row place ≡ Int number → ((a : A) → Fits a → ¬ IsOf row a)
      → HasStrayRow Holds IsOf Fits p place number table
  stray_row p place number table row has passes is of_none = record {
    row = row;
    at = has.0;
    there = has.1;
    asked = passes;
    number = is;
    of_none = of_none;
    none = λ list fits holds. let one = all-slice_get (λ row. (a : A) × Fits a × IsOf row a) table has.0 row has.1
        (each table list fits holds) in of_none one.0 one.1 one.2;
  }

  module _ {T : Type 0} (fits : T → Type 0) (shown : T → Row) (columns : Row → Row) (at place : ℕ)
      (number_at : (row : Row) → column (columns row) at ≡ column row place)
      (shows : (row : Row) (a : A) → Fits a → IsOf row a → (t : T) × fits t × (columns row ≡ shown t)) where
    pub stray_shown : (p : Row → Bool) (table rows : List Row) (number : ℤ)
        → IsPermutation (map columns (filter p table)) rows → HasStray fits shown at number rows
        → HasStrayRow Holds IsOf Fits p place number table
    stray_shown p table rows number same stray =
        let found = row_shown columns p table rows same stray.0 stray.1 stray.2 in
        stray_row p place number table found.0 found.1 found.3 (sym (number_at found.0) ∙ ap (λ r. column r at) found.2
        ∙ stray.3.0)
        (λ a fit is. let one = shows found.0 a fit is in stray.3.1 one.0 one.1 (sym found.2 ∙ one.2))

    -- what is told of a query's answer
    pub stray_of : {X B E : Type 0} (p : Row → Bool) (table : List Row) (outcome : Result X E) (rows_in : X → List Row)
        (result : Result B RangeFault)
        → IfErr result (λ fault. (number : ℤ) → fault ≡ Stray number
        → IsOkAnd outcome (λ x. HasStray fits shown at number (rows_in x)))
        → IfOk outcome (λ x. IsPermutation (map columns (filter p table)) (rows_in x))
        → IfErr result (λ fault. (number : ℤ) → fault ≡ Stray number → HasStrayRow Holds IsOf Fits p place number table)
    stray_of p table outcome rows_in (Ok b) strays rows = tt
    stray_of p table (Err e) rows_in (Err fault) strays rows = λ number is. absurd (strays number is)
    stray_of p table (Ok x) rows_in (Err fault) strays rows =
        λ number is. stray_shown p table (rows_in x) number rows (strays number is)

-- each row of a table that keeps a list is that of a member
pub each_kept : {A : Type 0} (key : A → ℕ) (stored : A → Row) (Good : A → Type 0) (table : List Row) (list : List A)
    → AllByRecursion Good list → AreKept key stored table list
    → AllByRecursion (λ row. (a : A) × Good a × (row ≡ stored a)) table
each_kept {A = A} key stored Good table list good kept =
    let Of : Row → Type 0 = λ row. (a : A) × Good a × (row ≡ stored a) in
    let members = all-permutation Good list kept.ordered (IsPermutation-sym _ _ kept.same) good in
    subst (AllByRecursion Of) (sym kept.rows_are)
    (all-map Of stored kept.ordered
    (all_weaker Good (λ a. Of (stored a)) (λ a is. (a, is, refl)) kept.ordered members))
