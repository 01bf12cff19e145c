-- How many rows an account has, by the greatest of their numbers.
use Rattle.std.proofs.Common.{◌≡◌, ◌<◌, ℕ, zero, suc, ◌+◌, ◌*◌, pos, List, [], ◌∷◌, ◌++◌, length, map, take, Bool, true}
use Rattle.std.proofs.Common.{refl, sym, ap, ap₂, subst, ◌∙◌, arith, Less, Equal}
use Rattle.std.specs.Prelude.{◌&&◌, filter}
use Rattle.acvp_store.proofs.Words.{AllByRecursion, AreWellNumbered, col, Content, Entry, entry_row, eval, filter-map}
use Rattle.acvp_store.proofs.Words.{first_of_account, greatest, holds, HoldsObjects, HoldsRequests, HoldsSessions, Int}
use Rattle.acvp_store.proofs.Words.{is_kind, IsAnswer, IsAscending, IsNumbered, IsPermutation, IsPermutation-cons}
use Rattle.acvp_store.proofs.Words.{IsPermutation-filter, IsPermutation-map, IsPermutation-refl, IsPermutation-sym}
use Rattle.acvp_store.proofs.Words.{IsPermutation-to_front, IsPermutation-trans, Kind, kind_number, Layout, list_all}
use Rattle.acvp_store.proofs.Words.{lit, map-id, map-map, nat_tests, object_columns, object_tree, ObjectRow, objects_of}
use Rattle.acvp_store.proofs.Words.{ordering_then, Output, output_cmp, overlay, range_with_len, request_row}
use Rattle.acvp_store.proofs.Words.{request_tree, RequestRow, requests_of, Row, schema_of, session_row, session_tree}
use Rattle.acvp_store.proofs.Words.{SessionRow, sessions_of, Shown, State, Term, Trees, value_cmp-Int, whole}
use Rattle.acvp_store.proofs.PageRows.{test_range}
use Rattle.acvp_store.proofs.Owned.{last_number, in_range, range_drops, session_numbers, session_selection}
use Rattle.acvp_store.proofs.Owned.{request_numbers, request_selection, object_numbers, object_selection}
use Rattle.acvp_store.proofs.OrderedRows.{sorted_rows}
use Rattle.acvp_store.proofs.QueryForms.{descending, equals, newest, within}
use Rattle.acvp_store.proofs.Readings.{NewestObject, NewestRequest, NewestSession, answers, reading_text}
use Rattle.acvp_store.proofs.SelectedRows.{test_equals}

-- ---- numbers without gaps, the greatest first

-- so many numbers that come after one
abbrev down : ℕ → ℕ → List ℕ
down before zero = []
down before (suc n) = (before + suc n) ∷ down before n

down_more : (before n : ℕ) → down before (suc n) ≡ down (before + 1) n ++ (before + 1) ∷ []
down_more before zero = refl
down_more before (suc n) = let same : before + suc (suc n) ≡ (before + 1) + suc n = omega arith in
    ap₂ (λ m xs. m ∷ xs) same (down_more before n)

down_is : (before n : ℕ) → IsPermutation (range_with_len (before + 1) n) (down before n)
down_is before zero = IsPermutation-refl []
down_is before (suc n) =
    subst (IsPermutation (range_with_len (before + 1) (suc n))) (sym (down_more before n))
    (IsPermutation-trans _ _ _ (IsPermutation-cons (before + 1) _ _ (down_is (before + 1) n))
    (IsPermutation-sym _ _ (IsPermutation-to_front (down (before + 1) n) (before + 1))))

down_below : (before m n : ℕ) → before + n < m → AllByRecursion (λ b. b < m) (down before n)
down_below before m zero low = tt
down_below before m (suc n) low = (low, down_below before m n (omega arith))

down_falls : (before n : ℕ) → IsAscending (λ a b. b < a) (down before n)
down_falls before zero = tt
down_falls before (suc n) = (down_below before (before + suc n) n (omega arith), down_falls before n)

-- ---- what the query for the greatest number shows

-- E is what a row of the table is of, and A the member in it
module _ {E A : Type 0} (params : Row) (encode : E → Row) (member : E → A) (p : A → Bool) (terms : List Term)
    (place : ℕ) (key : A → ℕ)
    (tests : (e : E) → list_all (holds (params ∷ encode e ∷ [])) terms ≡ p (member e)) (keyed : (e : E)
    → eval (col 1 place) (params ∷ encode e ∷ []) ≡ whole (key (member e))) (tree : ℕ) where
  abbrev out : ℕ → Output
  out n = (whole n ∷ [], whole n ∷ [])

  above : (a b : ℕ) → b < a → output_cmp (newest tree terms place) (out a) (out b) ≡ Less
  above a b high = ap (λ c. ordering_then c Equal) (value_cmp-Int (pos b) (pos a)) ∙ grind (arith, nat_tests)

  shown_first : (before n : ℕ) → take 1 (map (λ (x : Output). x.1) (map out (down before n))) ≡ greatest before n
  shown_first before zero = refl
  shown_first before (suc n) = refl

  pub greatest_shown : (db : Trees) (all : List E) (list : List A) (before : ℕ) (rows : List Row)
      → db tree ≡ map encode all
      → IsPermutation (map member all) list → IsNumbered key (before + 1) (filter p list)
      → IsAnswer (newest tree terms place) db params rows → rows ≡ greatest before (length (filter p list))
  greatest_shown db all list before rows has whole_list numbered a =
      let passing = λ (e : E). p (member e) in
      let n = length (filter p list) in
      let same = subst (λ xs. IsPermutation xs (filter p list)) (filter-map p member all)
      (IsPermutation-filter p _ list whole_list) in
      let numbers : IsPermutation (map key (map member (filter passing all))) (down before n) =
      IsPermutation-trans _ _ _ (IsPermutation-map key _ _ same)
      (subst (λ xs. IsPermutation xs (down before n)) (sym numbered) (down_is before n)) in
      sorted_rows params encode passing terms tests (λ e. key (member e)) ((col 1 place, descending) ∷ [])
      (lit (Int (pos 1)))
      tree (col 1 place ∷ []) out (λ e i. (keyed e i ∷ [], keyed e i ∷ [])) (λ a b. b < a) above db all (down before n)
      rows has
      (subst (λ xs. IsPermutation xs (down before n)) (map-map key member (filter passing all)) numbers)
      (down_falls before n) a
      ∙ shown_first before n

-- ---- of an account

abbrev pub range_params : ℕ → Row
range_params u = whole (first_of_account u + 0) ∷ whole (last_number u) ∷ []

pub sessions_counted : (layout : Layout) (u : ℕ) (old new : State) (rows : List Row) → old.now.schema ≡ schema_of layout
    → Shown (reading_text NewestSession) (range_params u) old new rows
    → (c : Content) → AreWellNumbered c → HoldsSessions (old.now.trees session_tree) c.sessions
    → rows ≡ greatest (u * 1000000) (length (sessions_of u c.sessions))
sessions_counted layout u old new rows schema shown c sound h =
    let key = λ (s : SessionRow). s.number in
    let account = λ (s : SessionRow). s.account in
    let selection = session_selection c u sound in
    let picked = range_drops key account u 0 (λ s. true) c.sessions (session_numbers c sound) selection.numbered in
    let it = greatest_shown (range_params u) session_row (λ s. s) (in_range key account u 0) (within 0) 0 key
    (λ s. test_range s.number (first_of_account u + 0) (last_number u)) (λ s. refl) session_tree
    (overlay old.now.trees []) h.ordered c.sessions (u * 1000000) rows h.rows_are
    (subst (λ xs. IsPermutation xs c.sessions) (sym (map-id h.ordered)) h.same) (rw picked selection.numbered)
    (answers NewestSession layout (range_params u) old new rows schema shown) in
    it ∙ ap (λ xs. greatest (u * 1000000) (length xs)) picked

pub requests_counted : (layout : Layout) (u : ℕ) (old new : State) (rows : List Row) → old.now.schema ≡ schema_of layout
    → Shown (reading_text NewestRequest) (range_params u) old new rows
    → (c : Content) → AreWellNumbered c → HoldsRequests (old.now.trees request_tree) c.requests
    → rows ≡ greatest (u * 1000000) (length (requests_of u c.requests))
requests_counted layout u old new rows schema shown c sound h =
    let key = λ (r : RequestRow). r.number in
    let account = λ (r : RequestRow). r.account in
    let selection = request_selection c u sound in
    let picked = range_drops key account u 0 (λ r. true) c.requests (request_numbers c sound) selection.numbered in
    let it = greatest_shown (range_params u) request_row (λ r. r) (in_range key account u 0) (within 0) 0 key
    (λ r. test_range r.number (first_of_account u + 0) (last_number u)) (λ r. refl) request_tree
    (overlay old.now.trees []) h.kept.ordered c.requests (u * 1000000) rows h.kept.rows_are
    (subst (λ xs. IsPermutation xs c.requests) (sym (map-id h.kept.ordered)) h.kept.same) (rw picked selection.numbered)
    (answers NewestRequest layout (range_params u) old new rows schema shown) in
    it ∙ ap (λ xs. greatest (u * 1000000) (length xs)) picked

abbrev pub kind_params : Kind → ℕ → Row
kind_params kind u = whole (first_of_account u + 0) ∷ whole (last_number u) ∷ whole (kind_number kind) ∷ []

pub objects_counted : (layout : Layout) (kind : Kind) (u : ℕ) (old new : State) (rows : List Row)
    → old.now.schema ≡ schema_of layout → Shown (reading_text NewestObject) (kind_params kind u) old new rows
    → (c : Content) → AreWellNumbered c → HoldsObjects (old.now.trees object_tree) c.objects
    → rows ≡ greatest (u * 1000000) (length (objects_of kind u c.objects))
objects_counted layout kind u old new rows schema shown c sound h =
    let key = λ (x : ObjectRow). x.number in
    let account = λ (x : ObjectRow). x.account in
    let of_kind = λ (x : ObjectRow). is_kind x.object.kind kind in
    let selection = object_selection c kind u sound in
    let picked = range_drops key account u 0 of_kind c.objects (object_numbers c sound) selection.numbered in
    let it = greatest_shown (kind_params kind u) (entry_row object_columns) (λ (e : Entry ObjectRow). e.row)
    (λ x. of_kind x && in_range key account u 0 x) (equals 1 2 ∷ within 2) 2 key
    (λ e. ap₂ (λ a b. a && b) (test_equals (kind_number e.row.object.kind) (kind_number kind))
    (test_range e.row.number (first_of_account u + 0) (last_number u))) (λ e. refl) object_tree
    (overlay old.now.trees []) h.entries c.objects (u * 1000000) rows h.rows_are
    h.same (rw picked selection.numbered)
    (answers NewestObject layout (kind_params kind u) old new rows schema shown) in
    it ∙ ap (λ xs. greatest (u * 1000000) (length xs)) picked
