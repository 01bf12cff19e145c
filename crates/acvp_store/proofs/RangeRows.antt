-- What is read of the rows in a range of numbers, whatever they are: the rows stand for it.
use Rattle.std.proofs.Common.{◌≡◌, inl, inr, ◌<◌, ◌≤◌, ◌^◌, ℕ, pos, negsuc, List, [], ◌∷◌, map, Bool, true, false}
use Rattle.std.proofs.Common.{Result, IfOk, IsOk, refl, sym, ap, ap₂, subst, ◌∙◌, arith, Less, Equal}
use Rattle.std.specs.Prelude.{◌&&◌}
use Rattle.acvp_store.proofs.Words.{all-filter, all_from_map, all_weaker, AllByRecursion, AreKept, AreShown, ascending}
use Rattle.acvp_store.proofs.Words.{ascending-filter, ascending_from_map, ascending_weaker, BeginsWith, Binary, binary}
use Rattle.acvp_store.proofs.Words.{cases_Bool, col, column, Compare, eval_all, filter, Ge, holds, Int, is_at_least}
use Rattle.acvp_store.proofs.Words.{is_at_most, is_between, is_ge, is_le, is_lt, is_true, IsAnswer, IsAscending}
use Rattle.acvp_store.proofs.Words.{IsPermutation, IsPermutation-refl, IsRange, IsTable, IsTree, Le, list_all, lit}
use Rattle.acvp_store.proofs.Words.{map-id, map-map, nat_le, nat_lt, nat_tests, Null, ordering_then, Output, output_cmp}
use Rattle.acvp_store.proofs.Words.{Row, rowid, Term, Trees, Value, value_cmp, value_cmp-apart, value_cmp-Int, whole}
use Rattle.acvp_store.proofs.Parts.{both_true}
use Rattle.acvp_store.proofs.QueryRows.{test_from, test_until}
use Rattle.acvp_store.proofs.OrderedRows.{sorted_rows}
use Rattle.acvp_store.proofs.QueryForms.{ordered_by}
use Rattle.acvp_store.proofs.Told.{told}

-- ---- BETWEEN

-- NULL is before every number
drop_null : (v : Value) (f l : ℕ)
    → (is_at_least f v && is_at_most l v) ≡ (is_ge (value_cmp v (whole f)) && is_le (value_cmp v (whole l)))
drop_null Null f l = rw (value_cmp-apart Null (whole f) (λ e. absurd (omega arith))) refl
drop_null _ f l = refl

pub test_between : (v : Value) (f l : ℕ)
    → (is_true (binary (Compare Ge Binary) v (whole f)) && (is_true (binary (Compare Le Binary) v (whole l)) && true))
    ≡ (is_ge (value_cmp v (whole f)) && is_le (value_cmp v (whole l)))
test_between v f l = both_true _ _ _ _ (test_from v f) (test_until v l) ∙ drop_null v f l

-- ---- the order of the tree

-- a query in the order of the numbers shows the rows as they lie
pub in_tree_order : (params : Row) (p : Row → Bool) (terms : List Term)
    → ((r : Row) → list_all (holds (params ∷ r ∷ [])) terms ≡ p r)
    → (tree : ℕ) (project : List Term) (columns : Row → Row)
    → ((r : Row) → eval_all project (params ∷ r ∷ []) ≡ columns r)
    → (db : Trees) (all rows : List Row) → db tree ≡ map (λ (r : Row). r) all → IsTable all
    → IsAnswer (ordered_by 0 tree terms project) db params rows → rows ≡ map columns (filter p all)
in_tree_order params p terms tests tree project columns shows db all rows has rise a =
    let out = λ (r : Row). let it : Output = (column r 0 ∷ [], columns r) in it in
    let q = ordered_by 0 tree terms project in
    let Before = λ (x y : Row). value_cmp (rowid x) (rowid y) ≡ Less in
    let below = λ (x y : Row) (low : value_cmp (rowid x) (rowid y) ≡ Less).
    let it : output_cmp q (out x) (out y) ≡ Less = ap (λ c. ordering_then c Equal) low in it in
    let picked = filter p all in
    sorted_rows params (λ (r : Row). r) p terms tests (λ (r : Row). r) ((col 1 0, ascending Binary) ∷ [])
    (lit (Int (negsuc 0))) tree project out (λ r i. (column r 0 ∷ [], shows r i)) Before below db all picked rows has
    (subst (λ xs. IsPermutation xs picked) (sym (map-id picked)) (IsPermutation-refl picked))
    (ascending-filter Before p all rise) a ∙ map-map (λ (o : Output). o.1) out picked

-- ---- numbers

pub lower : (m n : ℕ) → value_cmp (whole m) (whole n) ≡ Less → m < n
lower m n low =
    let test : is_lt (value_cmp (whole m) (whole n)) ≡ nat_lt m n = ap is_lt (value_cmp-Int (pos m) (pos n))
    ∙ grind (arith, nat_tests) in
    let is : nat_lt m n ≡ true = sym test ∙ ap is_lt low in
    grind (arith, nat_tests, is)

pub within_last : (m n : ℕ) → is_le (value_cmp (whole m) (whole n)) ≡ true → m ≤ n
within_last m n low =
    let test : is_le (value_cmp (whole m) (whole n)) ≡ nat_le m n = ap is_le (value_cmp-Int (pos m) (pos n))
    ∙ grind (arith, nat_tests) in
    let is : nat_le m n ≡ true = sym test ∙ low in
    grind (arith, nat_tests, is)

pub right_true : (a b : Bool) → (a && b) ≡ true → b ≡ true
right_true true b h = h
right_true false b h = absurd (cc)

pub all_passed : (p : Row → Bool) (rows : List Row) → AllByRecursion (λ r. p r ≡ true) (filter p rows)
all_passed p [] = tt
all_passed p (r ∷ rows) = elim (cases_Bool (p r)) [
  | inl is ↦ rw is (is, all_passed p rows)
  | inr other ↦ rw other (all_passed p rows)
]

-- ---- the rows of a range stand for what is read of them

module _ {A : Type 0} (key : A → ℕ) (stored : A → Row) (rowid_is : (a : A) → rowid (stored a) ≡ whole (key a)) where
  keys_below : (a b : A) → value_cmp (rowid (stored a)) (rowid (stored b)) ≡ Less → key a < key b
  keys_below a b low = lower (key a) (key b)
      (subst (λ v. value_cmp v (whole (key b)) ≡ Less) (rowid_is a)
      (subst (λ v. value_cmp (rowid (stored a)) v ≡ Less) (rowid_is b) low))

  pub keys_rise : (found : List A) → IsTable (map stored found) → IsAscending (λ a b. key a < key b) found
  keys_rise found rise = ascending_weaker (λ a b. value_cmp (rowid (stored a)) (rowid (stored b)) ≡ Less)
      (λ a b. key a < key b) keys_below found
      (ascending_from_map (λ (x y : Row). value_cmp (rowid x) (rowid y) ≡ Less) stored found rise)

-- each row that the schema lets be is that of what is read of it, where that is told by the columns that are read
module _ {A : Type 0} (key : A → ℕ) (stored shown : A → Row) (columns : Row → Row) (Typed : Row → Type 0)
    (rowid_is : (a : A) → rowid (stored a) ≡ whole (key a))
    (row_is : (row : Row) (a : A) → Typed row → BeginsWith (shown a) (columns row) → row ≡ stored a) where
  stored_all : (Good : A → Type 0) (rows : List Row) (found : List A) → AllByRecursion Typed rows
      → AreShown Good shown (map columns rows) found → rows ≡ map stored found
  stored_all Good [] [] typed shows = refl
  stored_all Good (r ∷ rows) (a ∷ found) typed shows =
      ap₂ (λ x l. x ∷ l) (row_is r a typed.0 shows.0.0) (stored_all Good rows found typed.1 shows.1)
  stored_all _ _ _ typed shows = absurd shows

  module _ (first last : ℕ) (low : last < 2 ^ 63) where
    key_fits : (a : A) → is_between first last (stored a) ≡ true → key a < 2 ^ 63
    key_fits a is =
        let at_most : is_le (value_cmp (rowid (stored a)) (whole last)) ≡ true = right_true _ _ is in
        let most : key a ≤ last =
        within_last (key a) last (subst (λ v. is_le (value_cmp v (whole last)) ≡ true) (rowid_is a) at_most) in
        omega (arith, most, low)

    pub range_holds : (Good : A → Type 0) (table : List Row) (found : List A) → IsTree table
        → AllByRecursion Typed table → AreShown Good shown (map columns (filter (is_between first last) table)) found
        → IsRange (AreKept key stored) key first last table found
    range_holds Good table found tree typed shows =
        let picked = filter (is_between first last) table in
        let is : picked ≡ map stored found =
        stored_all Good picked found (all-filter Typed (is_between first last) table typed) shows in
        let rise = keys_rise key stored rowid_is found
        (subst IsTable is (ascending-filter (λ (x y : Row). value_cmp (rowid x) (rowid y) ≡ Less)
        (is_between first last) table tree.0)) in
        let inside = all_from_map (λ r. is_between first last r ≡ true) stored found
        (subst (AllByRecursion (λ r. is_between first last r ≡ true)) is
        (all_passed (is_between first last) table)) in
        record {
          holds = record {
            ordered = found;
            rows_are = is;
            rising = rise;
            fits = all_weaker (λ a. is_between first last (stored a) ≡ true)
                (λ a. key a < 2 ^ 63) key_fits found inside;
            same = IsPermutation-refl found;
          };
          rising = rise;
        }

    -- what is read of a query's answer
    pub range_read : {X B E F : Type 0} (Good : A → Type 0) (table : List Row) (outcome : Result X E)
        (rows_in : X → List Row) (result : Result B F) (items : B → List A) → (IsOk result → IsOk outcome)
        → IfOk result (λ b. IfOk outcome (λ x. AreShown Good shown (rows_in x) (items b))) → AllByRecursion Typed table
        → IfOk outcome (λ x. IsTree table → rows_in x ≡ map columns (filter (is_between first last) table))
        → IfOk result (λ b. IsTree table → IsRange (AreKept key stored) key first last table (items b))
    range_read Good table outcome rows_in result items ok shows typed =
        told outcome result ok _ _ _
        (λ x b shows rows tree. range_holds Good table (items b) tree typed
        (subst (λ l. AreShown Good shown l (items b)) (rows tree) shows)) shows

    -- the same where something else is given of the table
    pub range_given : {X B E F Given : Type 0} (Good : A → Type 0) (table : List Row) (outcome : Result X E)
        (rows_in : X → List Row) (result : Result B F) (items : B → List A) → (IsOk result → IsOk outcome)
        → IfOk result (λ b. IfOk outcome (λ x. AreShown Good shown (rows_in x) (items b)))
        → (Given → AllByRecursion Typed table)
        → IfOk outcome (λ x. IsTree table → rows_in x ≡ map columns (filter (is_between first last) table))
        → IfOk result (λ b. IsTree table → Given → IsRange (AreKept key stored) key first last table (items b))
    range_given Good table outcome rows_in result items ok shows typed =
        told outcome result ok _ _ _
        (λ x b shows rows tree given. range_holds Good table (items b) tree (typed given)
        (subst (λ l. AreShown Good shown l (items b)) (rows tree) shows)) shows
