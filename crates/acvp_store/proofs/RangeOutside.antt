-- The rows outside a range.
use Rattle.std.proofs.Common.{◌≡◌, inl, inr, ℕ, ℤ, List, [], ◌∷◌, map, length, Bool, true, false, Some, IsTrue, refl}
use Rattle.std.proofs.Common.{sym, ap, subst, ◌∙◌, arith}
use Rattle.std.specs.Prelude.{◌&&◌}
use Rattle.sqlite.specs.Ops.{unary, binary}
use Rattle.sqlite_sql.specs.declared.ops.UnaryOp.TheVariants.{Not}
use Rattle.acvp_store.proofs.Words.{all-permutation, all-slice_get, AllByRecursion, And, AreLedBy, Binary, cases_Bool}
use Rattle.acvp_store.proofs.Words.{column, Compare, filter, from_truth, Ge, HasRowOutside, holds, Int, is_between}
use Rattle.acvp_store.proofs.Words.{is_ge, is_int, is_le, is_null, is_true, IsAnswer, IsPermutation, IsPermutation-map}
use Rattle.acvp_store.proofs.Words.{Le, length_permutation, list_all, map-map, not, Null, Output, output, page, Query}
use Rattle.acvp_store.proofs.Words.{Row, rowid, Term, Trees, Value, value_cmp, whole}
use Rattle.acvp_store.proofs.RangeStrays.{IsShown, all_shown}
use Rattle.acvp_store.proofs.QueryForms.{first_where, not_between, outside}
use Rattle.acvp_store.proofs.SelectedRows.{matched}

-- NULL is neither within nor outside
abbrev pub is_outside : ℕ → ℕ → Value → Bool
is_outside f l v = not (is_null v) && not (is_ge (value_cmp v (whole f)) && is_le (value_cmp v (whole l)))

of_two : (a b : Bool) → is_true (unary Not (binary And (from_truth (Some a)) (from_truth (Some b)))) ≡ not (a && b)
unfolding unary binary
of_two true true = refl
of_two true false = refl
of_two false true = refl
of_two false false = refl

pub test_outside : (v : Value) (f l : ℕ)
    → is_true (unary Not (binary And (binary (Compare Ge Binary) v (whole f)) (binary (Compare Le Binary) v (whole l))))
    ≡ is_outside f l v
unfolding unary binary
test_outside Null f l = refl
test_outside _ f l = of_two _ _

pub only_true : (b : Bool) → (b && true) ≡ b
only_true true = refl
only_true false = refl

no_member : {A : Type 0} (xs ys : List A) → IsPermutation xs ys → ys ≡ [] → xs ≡ []
no_member [] ys same none = refl
no_member (x ∷ xs) ys same none = absurd (let many = length_permutation _ _ same in
    let few : length ys ≡ 0 = ap length none in omega (arith, many, few))

no_map : {A B : Type 0} (f : A → B) (xs : List A) → map f xs ≡ [] → xs ≡ []
no_map f [] is = refl
no_map f (x ∷ xs) is = absurd (cc)

-- of a row, with what the query asks of a column
pub test_column : (place f l : ℕ) (r : Row) → list_all (holds ([] ∷ r ∷ [])) (not_between place f l ∷ [])
    ≡ is_outside f l (column r place)
test_column place f l r = only_true _ ∙ test_outside (column r place) f l

-- a SELECT of the first row that passes
module _ (tree place : ℕ) (term : Term) (p : Row → Bool) (tests : (r : Row)
    → list_all (holds ([] ∷ r ∷ [])) (term ∷ []) ≡ p r) where
  abbrev q : Query
  q = first_where tree place term

  -- the first of none
  no_first : (outs : List Output) → page q [] (map (λ (o : Output). o.1) outs) ≡ [] → outs ≡ []
  no_first [] is = refl
  no_first (o ∷ outs) is = absurd (cc)

  -- the first is one of them
  first_of : (P : Row → Type 0) (rows : List Row) → AllByRecursion P rows → AllByRecursion P (page q [] rows)
  first_of P [] all = tt
  first_of P (r ∷ rows) all = (all.0, tt)

  -- what is told of a row
  abbrev told_of : Row → Row
  told_of row = column row place ∷ []

  module _ (db : Trees) (all rows : List Row) (has : db tree ≡ map (λ (r : Row). r) all)
      (a : IsAnswer q db [] rows) where
    staged_is : a.staged ≡ map (λ r. [] ∷ r ∷ []) (filter p all)
    staged_is = a.grouped ∙ rw has (matched [] (λ (r : Row). r) p q.filter tests all)

    kept_is : a.kept ≡ map (output q) (map (λ r. [] ∷ r ∷ []) (filter p all))
    kept_is = a.distinct ∙ ap (map (output q)) staged_is

    pub none_passing : rows ≡ [] → filter p all ≡ []
    none_passing none =
        let ordered = no_first a.ordered (sym a.shown ∙ none) in
        no_map (λ r. [] ∷ r ∷ []) (filter p all)
        (no_map (output q) _ (sym kept_is ∙ no_member a.kept a.ordered a.same ordered))

    -- each row of the answer tells the column of a row that passes
    each_told : AllByRecursion (IsShown told_of p all) rows
    each_told =
        let told : map (λ (o : Output). o.1) a.kept ≡ map told_of (filter p all) =
        ap (map (λ (o : Output). o.1)) kept_is ∙ map-map (λ (o : Output). o.1) (output q) _
        ∙ map-map _ (λ r. [] ∷ r ∷ []) (filter p all) in
        let kept = subst (AllByRecursion (IsShown told_of p all)) (sym told) (all_shown told_of p all) in
        let ordered = all-permutation (IsShown told_of p all) _ _
        (IsPermutation-map (λ (o : Output). o.1) a.kept a.ordered a.same) kept in
        subst (AllByRecursion (IsShown told_of p all)) (sym a.shown) (first_of (IsShown told_of p all) _ ordered)

    -- the number that it begins with is that of a row that isn't inside, where no row that is passes
    pub first_told : (IsInside : Row → Type 0) → ((row : Row) → IsInside row → p row ≡ false) → (number : ℤ)
        → AreLedBy number rows → HasRowOutside IsInside place number all
    first_told IsInside apart number led =
        let it = all-slice_get (IsShown told_of p all) rows 0 led.0 led.1 each_told in
        record {
          row = it.0;
          at = it.1.0;
          there = it.1.1;
          number = ap (λ r. column r 0) it.2 ∙ led.2;
          outside = λ inside. let e : true ≡ false = sym it.3 ∙ apart it.0 inside in cc;
        }

not_both : (a b : Bool) → b ≡ true → (a && not b) ≡ false
not_both true true is = refl
not_both false true is = refl
not_both a false is = absurd (cc)

-- of the rows' numbers
module _ (tree f l : ℕ) (db : Trees) (all rows : List Row) (has : db tree ≡ map (λ (r : Row). r) all)
    (a : IsAnswer (outside tree f l) db [] rows) where
  pub none_outside : rows ≡ [] → filter (λ r. is_outside f l (rowid r)) all ≡ []
  none_outside = none_passing tree 0 (not_between 0 f l) (λ r. is_outside f l (rowid r))
      (test_column 0 f l) db all rows has a

  pub number_told : (number : ℤ) → AreLedBy number rows → HasRowOutside (λ row. is_between f l row ≡ true) 0 number all
  number_told = first_told tree 0 (not_between 0 f l) (λ r. is_outside f l (rowid r))
      (test_column 0 f l) db all rows has a (λ row. is_between f l row ≡ true) (λ row is. not_both _ _ is)

-- what has a whole number and isn't outside lies within
within : (f l : ℕ) (v : Value) → IsTrue (is_int v) → is_outside f l v ≡ false
    → (is_ge (value_cmp v (whole f)) && is_le (value_cmp v (whole l))) ≡ true
within f l (Int n) good is = sure _ is
  where
    sure : (b : Bool) → not b ≡ false → b ≡ true
    sure true h = refl
    sure false h = absurd (cc)
within f l _ good is = absurd (cc)

pub all_within : (f l : ℕ) (rows : List Row) → AllByRecursion (λ r. IsTrue (is_int (rowid r))) rows
    → filter (λ r. is_outside f l (rowid r)) rows ≡ [] → AllByRecursion (λ r. is_between f l r ≡ true) rows
all_within f l [] good none = tt
all_within f l (r ∷ rows) good none = elim (cases_Bool (is_outside f l (rowid r))) [
  | inl is ↦ absurd (let e = rw is at none in cc)
  | inr isnt ↦ (within f l (rowid r) good.0 isnt, all_within f l rows good.1 (rw isnt at none))
]
