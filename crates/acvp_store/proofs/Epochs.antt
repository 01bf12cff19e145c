-- The greatest epoch of all vector sets.
use Rattle.std.proofs.Common.{◌≡◌, ◌≤◌, ℕ, pos, List, [], ◌∷◌, ◌++◌, map, append_assoc, Bool, true, false, Option, None}
use Rattle.std.proofs.Common.{Some, Result, IfOk, IsOk, slice_get, inl, inr, refl, sym, ap, subst, ◌∙◌, arith}
use Rattle.std.specs.Prelude.{◌==◌, ◌||◌, if◌then◌else◌}
use Rattle.std.specs.List.{fold}
use Rattle.sqlite_keyed.proofs.ListLemmas.{map_back}
use Rattle.sqlite_sql.specs.Aggregate.{better, best, skips, arguments}
use Rattle.sqlite_sql.specs.Group.{IsSummary, Grouping, value_over}
use Rattle.sqlite_sql.specs.declared.aggregate.AggregateOp.TheVariants.{Max}
use Rattle.acvp_tables.proofs.EpochLemmas.{merged, merged_more}
use Rattle.acvp_store.proofs.Words.{⊤}
use Rattle.acvp_store.proofs.Words.{all-permutation, AllByRecursion, AllZip, append-nil, AreKept, Binary, cases_Bool}
use Rattle.acvp_store.proofs.Words.{col, Env, epoch_shown, eval, filter, greater, greatest_epoch_of, HoldsSets, Int}
use Rattle.acvp_store.proofs.Words.{is_lt, IsAnswer, IsPermutation, IsPermutation-map, IsPermutation-refl, IsSet}
use Rattle.acvp_store.proofs.Words.{Layout, length_permutation, list_any, list_any-IsPermutation, map-map, nat_le}
use Rattle.acvp_store.proofs.Words.{nat_tests, one_permutation, or_null, Output, output, overlay, page, Row, schema_of}
use Rattle.acvp_store.proofs.Words.{set_key, set_row, set_tree, SetColumns, SetRow, Shown, State, Trees, Value}
use Rattle.acvp_store.proofs.Words.{value_cmp-Int, whole}
use Rattle.acvp_store.proofs.Keyed.{none_left}
use Rattle.acvp_store.proofs.SelectedRows.{matched}
use Rattle.acvp_store.proofs.Places.{sets_seen}
use Rattle.acvp_store.proofs.Readings.{GreatestEpoch, answers, reading_query, reading_text}
use Rattle.acvp_store.proofs.Told.{told_through}

abbrev pub greatest : List ℕ → Option ℕ
greatest [] = None
greatest (n ∷ numbers) = Some (greater n (greatest numbers))

-- ---- whatever their order

at_most : (m : ℕ) (numbers : List ℕ) → AllByRecursion (λ n. n ≤ m) numbers → (k : ℕ) → m ≤ k
    → AllByRecursion (λ n. n ≤ k) numbers
at_most m [] all k more = tt
at_most m (n ∷ numbers) all k more = (let low = all.0 in omega arith, at_most m numbers all.1 k more)

all_below : (x : ℕ) (numbers : List ℕ) → AllByRecursion (λ n. n ≤ greater x (greatest numbers)) (x ∷ numbers)
all_below x [] = (omega arith, tt)
all_below x (n ∷ numbers) = go (greater n (greatest numbers)) (all_below n numbers)
  where
    go : (m : ℕ) → AllByRecursion (λ n. n ≤ m) (n ∷ numbers)
        → AllByRecursion (λ n. n ≤ greater x (Some m)) (x ∷ n ∷ numbers)
    go m all = elim (cases_Bool (nat_le m x)) [
      | inl less ↦ let low : m ≤ x = grind (arith, nat_tests, less) in let is : greater x (Some m) ≡ x = rw less refl in
          subst (λ t. AllByRecursion (λ k. k ≤ t) (x ∷ n ∷ numbers)) (sym is)
          (omega arith, at_most m (n ∷ numbers) all x low)
      | inr not ↦ let high : x ≤ m = grind (arith, nat_tests, not) in let is : greater x (Some m) ≡ m = rw not refl in
          subst (λ t. AllByRecursion (λ k. k ≤ t) (x ∷ n ∷ numbers)) (sym is) (high, all)
    ]

behind : (a b : Bool) → b ≡ true → (a || b) ≡ true
behind true b h = refl
behind false b h = h

is_there : (x : ℕ) (numbers : List ℕ) → list_any (λ n. n == greater x (greatest numbers)) (x ∷ numbers) ≡ true
is_there x [] = grind (arith, nat_tests)
is_there x (n ∷ numbers) = go (greater n (greatest numbers)) (is_there n numbers)
  where
    go : (m : ℕ) → list_any (λ k. k == m) (n ∷ numbers) ≡ true
        → list_any (λ k. k == greater x (Some m)) (x ∷ n ∷ numbers) ≡ true
    go m there = elim (cases_Bool (nat_le m x)) [
      | inl less ↦ let is : greater x (Some m) ≡ x = rw less refl in
          let same : (x == x) ≡ true = grind (arith, nat_tests) in
          subst (λ t. list_any (λ k. k == t) (x ∷ n ∷ numbers) ≡ true) (sym is) (rw same refl)
      | inr not ↦ let is : greater x (Some m) ≡ m = rw not refl in
          subst (λ t. list_any (λ k. k == t) (x ∷ n ∷ numbers) ≡ true) (sym is) (behind (x == m) _ there)
    ]

below_there : (m n : ℕ) (numbers : List ℕ) → AllByRecursion (λ k. k ≤ m) numbers → list_any (λ k. k == n) numbers ≡ true
    → n ≤ m
below_there m n [] all there = absurd (cc)
below_there m n (k ∷ numbers) all there = elim (cases_Bool (k == n)) [
  | inl same ↦ let e : k ≡ n = grind (arith, nat_tests, same) in let low = all.0 in omega arith
  | inr apart ↦ below_there m n numbers all.1 (rw apart at there)
]

greatest_same : (xs ys : List ℕ) → IsPermutation xs ys → greatest xs ≡ greatest ys
greatest_same [] ys same = ap greatest (sym (none_left ys same))
greatest_same (x ∷ xs) [] same = absurd (omega (arith, length_permutation _ _ same))
greatest_same (x ∷ xs) (y ∷ ys) same =
    let a = greater x (greatest xs) in
    let b = greater y (greatest ys) in
    let up : a ≤ b = below_there b a (y ∷ ys) (all_below y ys) (sym (list_any-IsPermutation (λ k. k == a) _ _ same)
    ∙ is_there x xs) in
    let down : b ≤ a = below_there a b (x ∷ xs) (all_below x xs) (list_any-IsPermutation (λ k. k == b) _ _ same
    ∙ is_there y ys) in
    let it : a ≡ b = omega arith in
    ap Some it

-- ---- MAX

better_is : (so_far : Option ℕ) (n : ℕ)
    → better Binary true (or_null whole so_far) (whole n) ≡ or_null whole (Some (greater n so_far))
better_is None n = refl
better_is (Some m) n = ap (λ o. if is_lt o then whole n else whole m) (value_cmp-Int (pos m) (pos n))
    ∙ grind (arith, nat_tests)

best_is : (so_far : Option ℕ) (numbers : List ℕ) → fold (better Binary true) (or_null whole so_far) (map whole numbers)
    ≡ or_null whole (merged so_far (greatest numbers))
best_is so_far [] = refl
best_is so_far (n ∷ numbers) = ap (λ v. fold (better Binary true) v (map whole numbers)) (better_is so_far n)
    ∙ best_is (Some (greater n so_far)) numbers ∙ ap (or_null whole) (sym (merged_more so_far (greatest numbers) n))

arguments_are : (seen : List Value) (numbers : List ℕ)
    → fold (λ seen v. if skips Binary false seen v then seen else seen ++ v ∷ []) seen (map whole numbers) ≡ seen
    ++ map whole numbers
arguments_are seen [] = sym (append-nil seen)
arguments_are seen (n ∷ numbers) = arguments_are (seen ++ whole n ∷ []) numbers
    ∙ append_assoc seen (whole n ∷ []) (map whole numbers)

merged_none : (o : Option ℕ) → merged None o ≡ o
merged_none None = refl
merged_none (Some m) = refl

max_is : (numbers : List ℕ) → best Binary true (arguments Binary false (map whole numbers))
    ≡ or_null whole (greatest numbers)
max_is numbers = ap (best Binary true) (arguments_are [] numbers) ∙ best_is None numbers
    ∙ ap (or_null whole) (merged_none (greatest numbers))

-- ---- the row that the query gives

abbrev all_in_one : Grouping
all_in_one = record {
  keys = [];
  collations = [];
  aggregates =
      record { op = Max; distinct = false; collation = Binary; argument = col 1 8 } ∷ [];
  having = [];
}

abbrev max_of : List Value → Value
max_of values = best Binary true (arguments Binary false values)

one_summary : (order : List Env) (rows : List Row) → AllZip (IsSummary all_in_one) (order ∷ []) rows
    → rows ≡ (max_of (map (eval (col 1 8)) order) ∷ []) ∷ []
one_summary order [] h = absurd h
one_summary order (r ∷ s ∷ rows) h = absurd h.1
one_summary order (r ∷ []) h = ap (λ x. x ∷ []) (h.0.2 ∙ go h.0.0 h.0.1)
  where
    go : (values : Row) → AllZip (λ a v. value_over order a ≡ Some v) all_in_one.aggregates values
        → values ≡ max_of (map (eval (col 1 8)) order) ∷ []
    go [] h = absurd h
    go (v ∷ w ∷ values) h = absurd h.1
    go (v ∷ []) h = let same = h.0 in cc

number_of : Value → ℕ
number_of (Int (pos n)) = n
number_of _ = 0

are_numbers : (values : List Value) → AllByRecursion (λ v. v ≡ whole (number_of v)) values
    → values ≡ map whole (map number_of values)
are_numbers [] all = refl
are_numbers (v ∷ values) all = λ i. all.0 i ∷ are_numbers values all.1 i

all_numbers : (numbers : List ℕ) → AllByRecursion (λ v. v ≡ whole (number_of v)) (map whole numbers)
unfolding number_of
all_numbers [] = tt
all_numbers (n ∷ numbers) = (refl, all_numbers numbers)

numbers_back : (numbers : List ℕ) → map number_of (map whole numbers) ≡ numbers
unfolding number_of
numbers_back numbers = map_back whole number_of (λ n. refl) numbers

max_same : (numbers : List ℕ) (values : List Value) → IsPermutation (map whole numbers) values
    → max_of values ≡ or_null whole (greatest numbers)
max_same numbers values same =
    let are : values ≡ map whole (map number_of values) =
    are_numbers values (all-permutation (λ v. v ≡ whole (number_of v)) (map whole numbers) values same
    (all_numbers numbers)) in
    let shuffled = subst (λ list. IsPermutation list (map number_of values)) (numbers_back numbers)
    (IsPermutation-map number_of (map whole numbers) values same) in
    ap max_of are ∙ max_is (map number_of values)
    ∙ ap (or_null whole) (sym (greatest_same numbers (map number_of values) shuffled))

abbrev epochs : List SetColumns → List ℕ
epochs columns = map (λ (c : SetColumns). c.epoch) columns

abbrev env_of : SetColumns → Env
env_of c = [] ∷ set_row c ∷ []

all_pass : (columns : List SetColumns) → filter (λ c. true) columns ≡ columns
all_pass [] = refl
all_pass (c ∷ columns) = ap (λ l. c ∷ l) (all_pass columns)

epoch_row : (layout : Layout) (db : Trees) (columns : List SetColumns) (rows : List Row) → db (set_tree layout)
    ≡ map set_row columns → IsAnswer (reading_query GreatestEpoch layout) db [] rows
    → rows ≡ epoch_shown (greatest (epochs columns)) ∷ []
epoch_row layout db columns rows has a =
    let s = a.grouped in
    let met = rw has at s.grouping.1 in
    let all = matched [] set_row (λ c. true) [] (λ c. refl) columns ∙ ap (map env_of) (all_pass columns) in
    let same : IsPermutation (map env_of columns) s.grouping.0 =
    subst (λ envs. IsPermutation envs s.grouping.0) all met in
    let values = IsPermutation-map (eval (col 1 8)) _ _ same in
    let whole_epochs : map (eval (col 1 8)) (map env_of columns) ≡ map whole (epochs columns) =
    map-map (eval (col 1 8)) env_of columns ∙ sym (map-map whole (λ (c : SetColumns). c.epoch) columns) in
    let max = max_same (epochs columns) (map (eval (col 1 8)) s.grouping.0)
    (subst (λ vs. IsPermutation vs (map (eval (col 1 8)) s.grouping.0)) whole_epochs values) in
    let row = one_summary s.grouping.0 s.rows
    (subst (λ gs. AllZip (IsSummary all_in_one) gs s.rows) s.grouping.2 s.summaries) in
    let n = or_null whole (greatest (epochs columns)) in
    let staged : a.staged ≡ ([] ∷ (n ∷ []) ∷ []) ∷ [] = s.having ∙ rw (row, max) refl in
    let o : Output = ([], n ∷ []) in
    let kept : a.kept ≡ o ∷ [] = a.distinct ∙ ap (map (output (reading_query GreatestEpoch layout))) staged in
    let ordered = one_permutation o a.ordered (subst (λ k. IsPermutation k a.ordered) kept a.same) in
    a.shown ∙ ap (λ xs. page (reading_query GreatestEpoch layout) [] (map (λ (x : Output). x.1) xs)) ordered

pub epoch_rows : (layout : Layout) (old new : State) (rows : List Row) → old.now.schema ≡ schema_of layout
    → Shown (reading_text GreatestEpoch) [] old new rows → (list : List SetColumns)
    → AreKept set_key set_row (old.now.trees (set_tree layout)) list → rows ≡ epoch_shown (greatest (epochs list)) ∷ []
epoch_rows layout old new rows schema h list kept =
    epoch_row layout (overlay old.now.trees []) kept.ordered rows (sets_seen layout old.now.trees ∙ kept.rows_are)
    (answers GreatestEpoch layout [] old new rows schema h)
    ∙ ap (λ e. epoch_shown e ∷ [])
    (greatest_same _ _ (IsPermutation-map (λ (c : SetColumns). c.epoch) kept.ordered list kept.same))

-- ---- the whole

epochs_told : (columns : List SetColumns) (sets : List SetRow) → AllZip IsSet columns sets
    → greatest (epochs columns) ≡ greatest_epoch_of sets
epochs_told [] [] h = refl
epochs_told (c ∷ columns) (r ∷ sets) h = λ i. Some (greater (h.0.epoch i) (epochs_told columns sets h.1 i))
epochs_told _ _ h = absurd h

module _ {X E F G : Type 0} (table : List Row) (rows_in : X → List Row) where
  pub find_greatest : (outcome : Result X E) (found : Result (Option (Option ℕ)) F) (result : Result (Option ℕ) G)
      → (IsOk found → IsOk outcome) → (IsOk result → IsOk found)
      → IfOk found (λ b. IfOk outcome (λ x. (list : List (Option ℕ)) → AllByRecursion (λ _. ⊤) list
      → IsPermutation (map epoch_shown list) (rows_in x) → b ≡ slice_get list 0))
      → IfOk result (λ e. IfOk found (λ b. b ≡ Some e))
      → IfOk outcome (λ x. (list : List SetColumns) → AreKept set_key set_row table list
      → rows_in x ≡ epoch_shown (greatest (epochs list)) ∷ [])
      → IfOk result (λ e. (sets : List SetRow) → HoldsSets table sets → e ≡ greatest_epoch_of sets)
  find_greatest outcome found result ok_found ok_result =
      told_through outcome found result ok_found ok_result _ _ _ _ (λ x b e one tells rows sets h.
      let max = greatest (epochs h.columns) in
      let is : b ≡ Some max = one (max ∷ []) (tt, tt)
      (subst (IsPermutation (epoch_shown max ∷ [])) (sym (rows h.columns h.kept)) (IsPermutation-refl _)) in
      let it : e ≡ max = cc in
      it ∙ epochs_told h.columns sets h.same)
