-- The rows that a query meets, whatever they are, what is read of each of them, and the row of a number.
use Rattle.std.proofs.Common.{◌≡◌, ℕ, List, [], ◌∷◌, map, Ordering, Less, Equal, Greater, Bool, Result, IfOk}
use Rattle.std.proofs.Common.{IsOk, refl, sym, ap, subst, ◌∙◌, arith, inl, inr, ◌<◌, ◌≤◌, ◌^◌, negsuc, false}
use Rattle.std.specs.Prelude.{◌==◌}
use Rattle.sqlite.specs.Ops.{binary}
use Rattle.acvp_store.proofs.Words.{all-permutation, AllByRecursion, AreKept, AreMet, AreShown, BeginsWith, Binary}
use Rattle.acvp_store.proofs.Words.{column, Compare, Eq, eval_all, filter, Ge, holds, Int, is_at_least, is_at_most}
use Rattle.acvp_store.proofs.Words.{is_eq, is_ge, is_ne, is_other, is_true, is_under, IsAnswer, IsPermutation}
use Rattle.acvp_store.proofs.Words.{IsPermutation-map, IsPermutation-sym, Layout, Le, list_all, Ne, not, Null, Output}
use Rattle.acvp_store.proofs.Words.{output, overlay, Row, rowid, schema_of, Shown, State, Term, Trees, Value}
use Rattle.acvp_store.proofs.Words.{value_cmp-apart, whole}
use Rattle.acvp_store.proofs.SelectedRows.{matched, truth_back, test_equals, test_none, selected}
use Rattle.acvp_store.proofs.QueryForms.{ordered_by, equals, simple}
use Rattle.acvp_store.proofs.Told.{told, told_through}
use Rattle.acvp_store.proofs.Keyed.{keyed, none_fits, none_passes, small_or_large}
use Rattle.acvp_store.proofs.Parts.{and_true}
use Rattle.acvp_store.proofs.Readings.{Reading, answers_as, reading_query, reading_text}
use Rattle.acvp_store.proofs.Versions.{map_same, test_whole}

-- ---- what SQL's operators say of any value

pub test_from : (v : Value) (n : ℕ) → is_true (binary (Compare Ge Binary) v (whole n)) ≡ is_at_least n v
unfolding binary
test_from Null n = sym (ap is_ge (value_cmp-apart Null (whole n) (λ e. absurd (omega arith))))
test_from _ n = truth_back _

pub test_until : (v : Value) (n : ℕ) → is_true (binary (Compare Le Binary) v (whole n)) ≡ is_at_most n v
unfolding binary
test_until Null n = refl
test_until _ n = truth_back _

other : (o : Ordering) → is_ne o ≡ not (is_eq o)
other Less = refl
other Equal = refl
other Greater = refl

pub test_other : (v : Value) (n : ℕ) → is_true (binary (Compare Ne Binary) v (whole n)) ≡ is_other n v
unfolding binary
test_other Null n = refl
test_other _ n = truth_back _ ∙ other _

-- ---- the rows that a query meets

-- in the order of a column
module _ {A : Type 0} (params : Row) (encode : A → Row) (p : A → Bool) (terms : List Term) (tests : (a : A)
    → list_all (holds (params ∷ encode a ∷ [])) terms ≡ p a) where
  pub selected_in_order : (at tree : ℕ) (project : List Term) (show : A → Row)
      → ((a : A) → eval_all project (params ∷ encode a ∷ []) ≡ show a) → (db : Trees) (all : List A) (rows : List Row)
      → db tree ≡ map encode all
      → IsAnswer (ordered_by at tree terms project) db params rows → IsPermutation (map show (filter p all)) rows
  selected_in_order at tree project show shows db all rows has a =
      let q = ordered_by at tree terms project in
      let staged = a.grouped ∙ rw has (matched params encode p terms tests all) in
      let kept : a.kept ≡ map (output q) (map (λ x. params ∷ encode x ∷ []) (filter p all)) =
      a.distinct ∙ ap (map (output q)) staged in
      let same = IsPermutation-map (λ (o : Output). o.1) _ _ (subst (λ l. IsPermutation l a.ordered) kept a.same) in
      rw a.shown (subst (λ l. IsPermutation l (map (λ (o : Output). o.1) a.ordered)) (shown_by (filter p all)) same)
    where
      shown_by : (xs : List A) → map (λ (o : Output). o.1)
          (map (output (ordered_by at tree terms project)) (map (λ x. params ∷ encode x ∷ []) xs)) ≡ map show xs
      shown_by [] = refl
      shown_by (x ∷ xs) = λ i. shows x i ∷ shown_by xs i

-- ---- what is read of each of them

-- what is known of each member that was shown
pub all_known : {T : Type 0} (shown : T → Row) (Known : T → Type 0) (rows : List Row) (found : List T)
    → AreShown Known shown rows found → AllByRecursion Known found
all_known shown Known [] [] shows = tt
all_known shown Known [] (x ∷ found) shows = absurd shows
all_known shown Known (r ∷ rows) [] shows = tt
all_known shown Known (r ∷ rows) (x ∷ found) shows = (shows.0.1, all_known shown Known rows found shows.1)

module _ {T : Type 0} (meets : Row → Bool) (columns : Row → Row) (shown : T → Row) (Known : T → Type 0)
    (exact : (row : Row) (x : T) → BeginsWith (shown x) (columns row) → columns row ≡ shown x) where
  module _ (Good : T → Type 0) where
    abbrev IsRead : Row → Type 0
    IsRead row = (x : T) × BeginsWith (shown x) row × Good x

    each_read : (rows : List Row) (found : List T) → AreShown Known shown rows found → AllByRecursion Good found
        → AllByRecursion IsRead rows
    each_read [] [] shows good = tt
    each_read (r ∷ rows) (x ∷ found) shows good = ((x, shows.0.0, good.0), each_read rows found shows.1 good.1)
    each_read _ _ shows good = absurd shows

    each_met : (rows : List Row) → AllByRecursion IsRead (map columns rows)
        → AllByRecursion (λ row. (x : T) × (columns row ≡ shown x) × Good x) rows
    each_met [] all = tt
    each_met (r ∷ rows) all = let it = all.0 in ((it.0, exact r it.0 it.1, it.2), each_met rows all.1)

    -- each row that is met is that of a member that was found
    pub met : {X B Z E F G : Type 0} (table : List Row) (rows_in : X → List Row) (items : B → List T)
        (outcome : Result X E) (found : Result B F) (result : Result Z G) → (IsOk found → IsOk outcome)
        → (IsOk result → IsOk found)
        → IfOk found (λ b. IfOk outcome (λ x. AreShown Known shown (rows_in x) (items b)))
        → IfOk result (λ z. IfOk found (λ b. AllByRecursion Good (items b)))
        → IfOk outcome (λ x. IsPermutation (map columns (filter meets table)) (rows_in x))
        → IfOk result (λ z. AreMet meets columns shown Good table)
    met table rows_in items outcome found result ok_found ok_result =
        told_through outcome found result ok_found ok_result _ _ _ _ (λ x b z shows good rows.
        each_met (filter meets table)
        (all-permutation IsRead (rows_in x) (map columns (filter meets table)) (IsPermutation-sym _ _ rows)
        (each_read (rows_in x) (items b) shows good)))

  -- the same where what was found is told as it is
  pub met_as_found : {X B E F : Type 0} (table : List Row) (rows_in : X → List Row) (items : B → List T)
      (outcome : Result X E) (found : Result B F) → (IsOk found → IsOk outcome)
      → IfOk found (λ b. IfOk outcome (λ x. AreShown Known shown (rows_in x) (items b)))
      → IfOk outcome (λ x. IsPermutation (map columns (filter meets table)) (rows_in x))
      → IfOk found (λ b. AreMet meets columns shown Known table)
  met_as_found table rows_in items outcome found ok =
      told outcome found ok _ _ _ (λ x b shows rows.
      each_met Known (filter meets table)
      (all-permutation (IsRead Known) (rows_in x) (map columns (filter meets table)) (IsPermutation-sym _ _ rows)
      (each_read Known (rows_in x) (items b) shows (all_known shown Known (rows_in x) (items b) shows))))

-- ---- the row of a number, of whichever table has numbers as keys

-- how a number is asked for: as itself, or as one that no column has
abbrev pub IsFitting : ℕ → Value → Type 0
IsFitting n k = n < 2 ^ 63 → k ≡ whole n

abbrev pub IsTooLarge : ℕ → Value → Type 0
IsTooLarge n k = 2 ^ 63 ≤ n → k ≡ Int (negsuc 0)

module _ (r : Reading) (layout : Layout) (tree : ℕ) where
  -- a query shows so the row of a number, of members whose rows the table holds
  abbrev pub ShowsAt : {A : Type 0} → (A → ℕ) → (A → Row) → (A → Row) → Type 1
  ShowsAt {A} key stored show =
      (n : ℕ) (k : Value) → IsFitting n k → IsTooLarge n k → (old new : State) (rows : List Row)
      → old.now.schema ≡ schema_of layout → Shown (reading_text r) (k ∷ []) old new rows
      → (list : List A) (kept : AreKept key stored (old.now.trees tree) list)
      → IsPermutation (map show (keyed key n kept.ordered)) rows

  -- it shows so the row under a number, whatever that is
  abbrev pub MeetsUnder : (Row → Row) → Type 1
  MeetsUnder columns =
      (n : ℕ) (k : Value) → n < 2 ^ 63 → IsFitting n k → (old new : State) (rows : List Row)
      → old.now.schema ≡ schema_of layout → Shown (reading_text r) (k ∷ []) old new rows
      → IsPermutation (map columns (filter (is_under n) (old.now.trees tree))) rows

  module _ (project : List Term) (is : reading_query r layout ≡ simple tree (equals 0 0 ∷ []) project)
      (seen : (trees : Trees) → overlay trees [] tree ≡ trees tree) where
    pub rows_under : (columns : Row → Row)
        → ((k : Value) (row : Row) → eval_all project ((k ∷ []) ∷ row ∷ []) ≡ columns row)
        → MeetsUnder columns
    rows_under columns shows n k low fits old new rows schema h =
        selected (k ∷ []) (λ (r : Row). r) (is_under n) (equals 0 0 ∷ [])
        (λ r. rw (fits low) (and_true _ ∙ test_whole (column r 0) n)) tree project columns (shows k)
        (overlay old.now.trees []) (old.now.trees tree) rows (seen old.now.trees ∙ map_same _)
        (answers_as r layout (k ∷ []) old new rows schema h _ is)

    module _ {A : Type 0} (key : A → ℕ) (stored show : A → Row) (rowid_is : (a : A) → rowid (stored a) ≡ whole (key a))
        (shows : (k : Value) (a : A) → eval_all project ((k ∷ []) ∷ stored a ∷ []) ≡ show a) where
      pub rows_by : (k : Value) (p : A → Bool)
          → ((a : A) → is_true (binary (Compare Eq Binary) (whole (key a)) k) ≡ p a)
          → (old new : State) (rows : List Row) → old.now.schema ≡ schema_of layout
          → Shown (reading_text r) (k ∷ []) old new rows
          → (list : List A) (kept : AreKept key stored (old.now.trees tree) list)
          → IsPermutation (map show (filter p kept.ordered)) rows
      rows_by k p tests old new rows schema h list kept =
          selected (k ∷ []) stored p (equals 0 0 ∷ [])
          (λ a. and_true _ ∙ subst (λ v. is_true (binary (Compare Eq Binary) v k) ≡ p a) (sym (rowid_is a))
          (tests a))
          tree project show (shows k) (overlay old.now.trees []) kept.ordered rows (seen old.now.trees ∙ kept.rows_are)
          (answers_as r layout (k ∷ []) old new rows schema h _ is)

      pub rows_at : ShowsAt key stored show
      rows_at n k fits large old new rows schema h list kept = elim (small_or_large n) [
        | inl low ↦
            rows_by k (λ a. key a == n) (λ a. rw (fits low) (test_equals (key a) n)) old new rows schema h list kept
        | inr high ↦
            let none = rows_by k (λ a. false) (λ a. rw (large high) (test_none (key a))) old new rows schema h list
            kept in
            rw (none_fits key n kept.ordered high kept.fits) (rw (none_passes kept.ordered) at none)
      ]
