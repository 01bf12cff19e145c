-- What a query over one table gives, where the table's rows are those of members.
use Rattle.std.proofs.Common.{◌≡◌, ◌<ℤ◌, ℕ, ℤ, pos, negsuc, Less, Greater, int_cmp, int_eq, int_lt, List, [], ◌∷◌, map}
use Rattle.std.proofs.Common.{Bool, true, false, cond, Some, refl, ap, ◌∙◌, arith}
use Rattle.std.specs.Prelude.{◌==◌}
use Rattle.sqlite.specs.Ops.{binary}
use Rattle.sqlite.specs.Collation.{Collation}
use Rattle.acvp_store.proofs.Words.{Binary, Blob, Compare, Env, Eq, eval_all, filter, flag, flat_map, from_truth, Ge}
use Rattle.acvp_store.proofs.Words.{holds, Int, ints, Is, is_eq, is_ge, is_le, is_lt, is_ne, is_null, is_true, IsAnswer}
use Rattle.acvp_store.proofs.Words.{IsPermutation, IsPermutation-map, Le, list_all, Lt, map-map, nat_le, nat_lt}
use Rattle.acvp_store.proofs.Words.{nat_tests, Ne, Null, Output, output, Real, Row, Term, Text, Trees, Value}
use Rattle.acvp_store.proofs.Words.{value_cmp-apart, value_cmp-Int, value_cmp-Null, whole}
use Rattle.acvp_store.proofs.QueryForms.{collated, simple}
use Rattle.acvp_store.proofs.Keyed.{same_whole}

pub truth_back : (b : Bool) → is_true (from_truth (Some b)) ≡ b
truth_back true = refl
truth_back false = refl

-- a column of whole numbers is tested against a parameter
pub test_equals : (m n : ℕ) → is_true (binary (Compare Eq Binary) (whole m) (whole n)) ≡ (m == n)
unfolding binary
test_equals m n = truth_back _ ∙ same_whole m n

-- a column of whole numbers never has the number -1
pub test_none : (m : ℕ) → is_true (binary (Compare Eq Binary) (whole m) (Int (negsuc 0))) ≡ false
unfolding binary
test_none m = truth_back _ ∙ ap is_eq (value_cmp-Int (pos m) (negsuc 0))

pub test_less : (m n : ℕ) → is_true (binary (Compare Lt Binary) (whole m) (whole n)) ≡ nat_lt m n
unfolding binary
test_less m n = truth_back _ ∙ ap is_lt (value_cmp-Int (pos m) (pos n)) ∙ grind (arith, nat_tests)

pub test_at_most : (m n : ℕ) → is_true (binary (Compare Le Binary) (whole m) (whole n)) ≡ nat_le m n
unfolding binary
test_at_most m n = truth_back _ ∙ ap is_le (value_cmp-Int (pos m) (pos n)) ∙ grind (arith, nat_tests)

pub test_at_least : (m n : ℕ) → is_true (binary (Compare Ge Binary) (whole m) (whole n)) ≡ nat_le n m
unfolding binary
test_at_least m n = truth_back _ ∙ ap is_ge (value_cmp-Int (pos m) (pos n)) ∙ grind (arith, nat_tests)

-- whether a column is NULL
pub null_flag : (v : Value) → binary (Is Binary) v Null ≡ flag (is_null v)
unfolding binary
null_flag Null = ap (λ o. from_truth (Some (is_eq o))) (value_cmp-Null Null)
null_flag (Int n) = ap (λ o. from_truth (Some (is_eq o))) (value_cmp-apart (Int n) Null (λ e. absurd (omega arith)))
null_flag (Real x) = ap (λ o. from_truth (Some (is_eq o))) (value_cmp-apart (Real x) Null (λ e. absurd (omega arith)))
null_flag (Text t) = ap (λ o. from_truth (Some (is_eq o))) (value_cmp-apart (Text t) Null (λ e. absurd (omega arith)))
null_flag (Blob b) = ap (λ o. from_truth (Some (is_eq o))) (value_cmp-apart (Blob b) Null (λ e. absurd (omega arith)))

-- ---- of two numbers of which one is less

pub below_is : (m n : ℤ) → m <ℤ n → int_cmp m n ≡ Less
below_is m n low = let lt : int_lt m n ≡ true = grind (arith, ints) in rw lt refl

pub above_is : (m n : ℤ) → m <ℤ n → int_cmp n m ≡ Greater
above_is m n low = let lt : int_lt m n ≡ true = grind (arith, ints) in
    let not_lt : int_lt n m ≡ false = grind (arith, ints) in rw (not_lt, lt) refl

pub itself_is : (m : ℤ) → int_eq m m ≡ true
itself_is m = let not_lt : int_lt m m ≡ false = grind (arith, ints) in rw not_lt refl

pub test_differs : (m n : ℤ) → m <ℤ n → is_true (binary (Compare Ne Binary) (Int m) (Int n)) ≡ true
unfolding binary
test_differs m n low = truth_back _ ∙ ap is_ne (value_cmp-Int m n ∙ below_is m n low)

module _ {A : Type 0} (params : Row) (encode : A → Row) (p : A → Bool) (terms : List Term) (tests : (a : A)
    → list_all (holds (params ∷ encode a ∷ [])) terms ≡ p a) where
  abbrev pub env_of : A → Env
  env_of a = params ∷ encode a ∷ []

  pub matched : (all : List A)
      → flat_map (λ r. cond (list_all (holds (params ∷ r ∷ [])) terms) ((params ∷ r ∷ []) ∷ []) []) (map encode all)
      ≡ map env_of (filter p all)
  matched [] = refl
  matched (a ∷ all) = grind (arith, tests a, matched all)

  -- the rows that pass, as the query shows them, in some order
  pub selected_by : (collations : List Collation) (tree : ℕ) (project : List Term) (show : A → Row)
      → ((a : A) → eval_all project (params ∷ encode a ∷ []) ≡ show a) → (db : Trees) (all : List A) (rows : List Row)
      → db tree ≡ map encode all
      → IsAnswer (collated collations tree terms project) db params rows → IsPermutation (map show (filter p all)) rows
  selected_by collations tree project show shows db all rows has a =
      let q = collated collations tree terms project in
      let o = λ (x : A). let it : Output = ([], show x) in it in
      let staged : a.staged ≡ map env_of (filter p all) = a.grouped ∙ rw has (matched all) in
      let kept : a.kept ≡ map o (filter p all) = a.distinct ∙ ap (map (output q)) staged ∙ shown_by (filter p all) in
      let same = IsPermutation-map (λ (p : Output). p.1) _ _ (rw kept at a.same) in
      rw (a.shown, ← map-map (λ (p : Output). p.1) o (filter p all)) same
    where
      shown_by : (xs : List A) → map (output (collated collations tree terms project)) (map env_of xs)
          ≡ map (λ x. let it : Output = ([], show x) in it) xs
      shown_by [] = refl
      shown_by (x ∷ xs) = grind (arith, shows x, shown_by xs)

  pub selected : (tree : ℕ) (project : List Term) (show : A → Row)
      → ((a : A) → eval_all project (params ∷ encode a ∷ []) ≡ show a) → (db : Trees) (all : List A) (rows : List Row)
      → db tree ≡ map encode all
      → IsAnswer (simple tree terms project) db params rows → IsPermutation (map show (filter p all)) rows
  selected tree project show shows db all rows has a = selected_by [] tree project show shows db all rows has a
