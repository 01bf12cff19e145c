-- What a query shows in an order in which no two of the rows that it finds are equal.
use Rattle.std.proofs.Common.{◌≡◌, ◌⊎◌, inl, inr, ◌<◌, ◌≤◌, ℕ, pos, negsuc, List, [], ◌∷◌, map, take, drop, length}
use Rattle.std.proofs.Common.{Bool, refl, sym, ap, ap₂, subst, ◌∙◌, arith, Less, Equal}
use Rattle.std.specs.Prelude.{filter}
use Rattle.std.proofs.Math.Seq.{take-length}
use Rattle.sqlite.specs.Query.{page as paged_rows}
use Rattle.sqlite_value.specs.declared.keys.Key.{Key}
use Rattle.sqlite_sql.proofs.QueryLemmas.{output_cmp_total}
use Rattle.sqlite_keyed.proofs.SortLemmas.{sorted_unique}
use Rattle.acvp_tables.specs.Content.{page}
use Rattle.acvp_store.proofs.Words.{ascending, ascending-map, ascending_weaker, Binary, col, drop_all, eval, eval_all}
use Rattle.acvp_store.proofs.Words.{filter-map, holds, Int, IsAnswer, IsAscending, IsPermutation, IsPermutation-filter}
use Rattle.acvp_store.proofs.Words.{IsPermutation-map, IsPermutation-sym, IsPermutation-trans, length-drop, list_all}
use Rattle.acvp_store.proofs.Words.{lit, map-map, min, nat_tests, ordering_then, Output, output, output_cmp, Query, Row}
use Rattle.acvp_store.proofs.Words.{take-map, take_min, Term, Trees, value_cmp-Int, whole}
use Rattle.acvp_store.proofs.QueryForms.{ordered_by, paging, sorted_by}
use Rattle.acvp_store.proofs.SelectedRows.{matched}

-- Of rows of `E`, what is put out of each that passes is told of it as an `A`.
module _ {E A : Type 0} (params : Row) (encode : E → Row) (p : E → Bool) (terms : List Term)
    (tests : (e : E) → list_all (holds (params ∷ encode e ∷ [])) terms ≡ p e) (told : E → A) where
  module _ (order : List (Term × Key)) (limit : Term) (tree : ℕ) (project : List Term) (out : A → Output)
      (puts : (e : E) → output (sorted_by order limit tree terms project) (params ∷ encode e ∷ []) ≡ out (told e))
      (Before : A → A → Type 0)
      (before : (a b : A) → Before a b
      → output_cmp (sorted_by order limit tree terms project) (out a) (out b) ≡ Less) where
    abbrev q : Query
    q = sorted_by order limit tree terms project

    outputs : (es : List E) → map (output q) (map (λ e. params ∷ encode e ∷ []) es) ≡ map out (map told es)
    outputs [] = refl
    outputs (e ∷ es) = ap₂ (λ a l. a ∷ l) (puts e) (outputs es)

    pub sorted_rows : (db : Trees) (all : List E) (list : List A) (rows : List Row) → db tree ≡ map encode all
        → IsPermutation (map told (filter p all)) list → IsAscending Before list → IsAnswer q db params rows
        → rows ≡ paged_rows q params (map (λ (o : Output). o.1) (map out list))
    sorted_rows db all list rows has same rise a =
        let staged = a.grouped ∙ rw has (matched params encode p terms tests all) in
        let kept : a.kept ≡ map out (map told (filter p all)) =
        a.distinct ∙ ap (map (output q)) staged ∙ outputs (filter p all) in
        let strict = ascending-map (λ x y. output_cmp q x y ≡ Less) out list
        (ascending_weaker Before (λ x y. output_cmp q (out x) (out y) ≡ Less) before list rise) in
        let shuffled = IsPermutation-trans _ _ _ (IsPermutation-sym _ _ (IsPermutation-map out _ _ same))
        (subst (λ k. IsPermutation k a.ordered) kept a.same) in
        let ordered = sorted_unique (output_cmp q) (output_cmp_total q) (map out list) a.ordered strict shuffled
        a.sorted in
        a.shown ∙ ap (λ os. paged_rows q params (map (λ (o : Output). o.1) os)) ordered

  -- by a column of whole numbers that rise
  module _ (key : A → ℕ) (show : A → Row) (at tree : ℕ) (project : List Term)
      (keyed : (e : E) → eval (col 1 at) (params ∷ encode e ∷ []) ≡ whole (key (told e)))
      (shows : (e : E) → eval_all project (params ∷ encode e ∷ []) ≡ show (told e)) where
    abbrev Rises : A → A → Type 0
    Rises a b = key a < key b

    abbrev by_key : A → Output
    by_key a = (whole (key a) ∷ [], show a)

    by_column : (limit : Term) (db : Trees) (all : List E) (list : List A) (rows : List Row) → db tree ≡ map encode all
        → IsPermutation (map told (filter p all)) list → IsAscending Rises list
        → IsAnswer (sorted_by ((col 1 at, ascending Binary) ∷ []) limit tree terms project) db params rows
        → rows ≡ paged_rows (sorted_by ((col 1 at, ascending Binary) ∷ []) limit tree terms project) params
        (map show list)
    by_column limit db all list rows has same rise a =
        let q = sorted_by ((col 1 at, ascending Binary) ∷ []) limit tree terms project in
        let below = λ (a b : A) (low : key a < key b). let it : output_cmp q (by_key a) (by_key b) ≡ Less =
        ap (λ c. ordering_then c Equal) (value_cmp-Int (pos (key a)) (pos (key b))) ∙ grind (arith, nat_tests) in it in
        sorted_rows ((col 1 at, ascending Binary) ∷ []) limit tree project by_key (λ e i. (keyed e i ∷ [], shows e i))
        Rises below db all list rows has same rise a
        ∙ ap (paged_rows q params) (map-map (λ (o : Output). o.1) by_key list)

    pub ranged : (db : Trees) (all : List E) (list : List A) (rows : List Row) → db tree ≡ map encode all
        → IsPermutation (map told (filter p all)) list → IsAscending Rises list
        → IsAnswer (ordered_by at tree terms project) db params rows → rows ≡ map show list
    ranged = by_column (lit (Int (negsuc 0)))

-- a page of them, where E is what a row of the table is of, and A the member in it
module _ {E A : Type 0} (params : Row) (encode : E → Row) (member : E → A) (p : A → Bool) (terms project : List Term)
    (place : ℕ) (key : A → ℕ) (show : A → Row)
    (tests : (e : E) → list_all (holds (params ∷ encode e ∷ [])) terms ≡ p (member e))
    (keyed : (e : E) → eval (col 1 place) (params ∷ encode e ∷ []) ≡ whole (key (member e)))
    (shows : (e : E) → eval_all project (params ∷ encode e ∷ []) ≡ show (member e))
    (tree l : ℕ) (limit : eval (col 0 2) (params ∷ []) ≡ whole l) where
  pub paged : (db : Trees) (all : List E) (list : List A) (rows : List Row) → db tree ≡ map encode all
      → IsPermutation (map member all) list → IsAscending (λ a b. key a < key b) (filter p list)
      → IsAnswer (paging tree terms project place) db params rows → rows ≡ map show (take l (filter p list))
  paged db all list rows has whole_list rise a =
      let picked = filter p list in
      let same = subst (λ xs. IsPermutation xs picked) (filter-map p member all)
      (IsPermutation-filter p _ list whole_list) in
      by_column params encode (λ e. p (member e)) terms tests member key show place tree project keyed shows (col 0 2)
      db all picked rows has same rise a ∙ rw limit (take-map show l picked)

-- ---- a limit and an offset that are as large as the list, and more

abbrev more : ℕ → ℕ → Type 0
more n m = (n ≤ m) ⊎ (m < n)

either_way : (n m : ℕ) → more n m
either_way n m = search arith

take_all : {A : Type 0} (n : ℕ) (xs : List A) → length xs ≤ n → take n xs ≡ xs
take_all n xs few = let same : min n (length xs) ≡ length xs = omega arith in
    sym (take_min n xs) ∙ ap (λ k. take k xs) same ∙ take-length xs

capped_take : {A : Type 0} (l m : ℕ) (xs : List A) → length xs ≤ m → take (min l m) xs ≡ take l xs
capped_take l m xs few = elim (either_way l m) [
  | inl low ↦ let same : min l m ≡ l = omega arith in ap (λ n. take n xs) same
  | inr high ↦ let same : min l m ≡ m = omega arith in
      ap (λ n. take n xs) same ∙ take_all m xs few ∙ sym (take_all l xs (omega arith))
]

capped_drop : {A : Type 0} (o m : ℕ) (xs : List A) → length xs ≤ m → drop (min o m) xs ≡ drop o xs
capped_drop o m xs few = elim (either_way o m) [
  | inl low ↦ let same : min o m ≡ o = omega arith in ap (λ n. drop n xs) same
  | inr high ↦ let same : min o m ≡ m = omega arith in
      ap (λ n. drop n xs) same ∙ drop_all m xs few ∙ sym (drop_all o xs (omega arith))
]

pub capped_page : {A : Type 0} (o l : ℕ) (xs : List A) → length xs ≤ 999999
    → take (min l 9223372036854775807) (drop (min o 999999) xs) ≡ page o l xs
capped_page o l xs few =
    ap (take (min l 9223372036854775807)) (capped_drop o 999999 xs few)
    ∙ capped_take l 9223372036854775807 (drop o xs) (omega (arith, length-drop o xs))
