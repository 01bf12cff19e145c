-- What the queries of pages, and of one request or object, show.
use Rattle.std.proofs.Common.{◌≡◌, ℕ, ◌+◌, pos, List, [], ◌∷◌, map, take, true, refl, sym, ap, subst, ◌∙◌, arith}
use Rattle.std.proofs.Common.{◌≤◌, ◌^◌, drop, slice_get, false, inl, inr, Bool, ap₂}
use Rattle.std.specs.Prelude.{◌&&◌, ◌==◌, if◌then◌else◌, filter}
use Rattle.sqlite.specs.Ops.{binary}
use Rattle.acvp_tables.specs.Content.{page}
use Rattle.acvp_store.proofs.Words.{all-filter, AllByRecursion, AreWellNumbered, Binary, body_number, body_text}
use Rattle.acvp_store.proofs.Words.{BodyReads, cases_Bool, col, Compare, Content, drop-map, Entry, entry_row, Eq}
use Rattle.acvp_store.proofs.Words.{eval_all, filter-map, first_of_account, FitColumns, Ge, given_number, HoldsObjects}
use Rattle.acvp_store.proofs.Words.{HoldsRequests, HoldsSessions, is_ge, is_kind, is_le, is_true, IsKeepable}
use Rattle.acvp_store.proofs.Words.{IsOfKind, IsPermutation, IsPermutation-filter, IsPermutation-map, IsPermutation-sym}
use Rattle.acvp_store.proofs.Words.{IsPermutation-trans, IsReadable, Kind, kind_number, Layout, Le, map-id, map-map}
use Rattle.acvp_store.proofs.Words.{min, nat_le, nat_tests, Null, object_at, object_columns, object_tree, ObjectRow}
use Rattle.acvp_store.proofs.Words.{objects_of, option_map, or_null, overlay, purpose_number, purpose_of, purpose_text}
use Rattle.acvp_store.proofs.Words.{PurposeReads, request_at, request_key, request_row, request_shown, request_summary}
use Rattle.acvp_store.proofs.Words.{request_tree, RequestBody, RequestRow, requests_of, RequestStatus, Row, schema_of}
use Rattle.acvp_store.proofs.Words.{session_row, session_shown, session_tree, SessionRow, sessions_of, Shown, State}
use Rattle.acvp_store.proofs.Words.{status_number, status_shown, summary_shown, take-map, Term, Text, value_cmp-Int}
use Rattle.acvp_store.proofs.Words.{whole, Value}
use Rattle.acvp_store.proofs.Owned.{last_number, in_range, range_drops, rising_dropped, session_numbers}
use Rattle.acvp_store.proofs.Owned.{session_selection, request_numbers, request_selection, object_numbers}
use Rattle.acvp_store.proofs.Owned.{object_selection}
use Rattle.acvp_store.proofs.OrderedRows.{paged, capped_page}
use Rattle.acvp_store.proofs.QueryForms.{within, equals, simple}
use Rattle.acvp_store.proofs.Readings.{SessionPage, answers, reading_text, session_terms, RequestAt, RequestPage}
use Rattle.acvp_store.proofs.Readings.{request_terms, summary_terms, StatusAt, status_terms, OwnerAt, Reading}
use Rattle.acvp_store.proofs.Readings.{answers_as, reading_query, ObjectAt, ObjectPage, object_terms}
use Rattle.acvp_store.proofs.Parts.{both_true}
use Rattle.acvp_store.proofs.SelectedRows.{truth_back, test_equals, test_none, selected}
use Rattle.acvp_tables.specs.declared.summary.RequestSummary.{RequestSummary}
use Rattle.acvp_store.proofs.Keyed.{keyed, keyed_same, find_is, none_passes, small_or_large}
use Rattle.acvp_store.proofs.Told.{all_taken, all_dropped, first_mapped}
use Rattle.acvp_store.proofs.Sound.{kinds_of}
use Rattle.acvp_store.proofs.QueryRows.{ShowsAt, rows_at, IsFitting, IsTooLarge}
use Rattle.acvp_tables.specs.declared.rows.RequestBody.TheVariants as body

-- ---- the pages of an account's rows

-- a column of whole numbers is tested against the ends of a range
pub test_from : (m n : ℕ) → is_true (binary (Compare Ge Binary) (whole m) (whole n)) ≡ nat_le n m
unfolding binary
test_from m n = truth_back _ ∙ ap is_ge (value_cmp-Int (pos m) (pos n)) ∙ grind (arith, nat_tests)

pub test_to : (m n : ℕ) → is_true (binary (Compare Le Binary) (whole m) (whole n)) ≡ nat_le m n
unfolding binary
test_to m n = truth_back _ ∙ ap is_le (value_cmp-Int (pos m) (pos n)) ∙ grind (arith, nat_tests)

pub test_range : (m low high : ℕ)
    → (is_true (binary (Compare Ge Binary) (whole m) (whole low)) &&
    (is_true (binary (Compare Le Binary) (whole m) (whole high)) && true)) ≡ (nat_le low m && nat_le m high)
test_range m low high = both_true _ _ _ _ (test_from m low) (test_to m high)

abbrev pub most : ℕ
most = 9223372036854775807

-- the parameters of a page
abbrev pub page_params : ℕ → ℕ → ℕ → Row
page_params u o l = whole (first_of_account u + min o 999999) ∷ whole (last_number u) ∷ whole (min l most) ∷ []

-- ---- sessions

pub session_page : (layout : Layout) (u o l : ℕ) (old new : State) (rows : List Row) → old.now.schema ≡ schema_of layout
    → Shown (reading_text SessionPage) (page_params u o l) old new rows
    → (c : Content) → AreWellNumbered c → HoldsSessions (old.now.trees session_tree) c.sessions
    → rows ≡ map session_shown (page o l (sessions_of u c.sessions))
session_page layout u o l old new rows schema shown c sound h =
    let key = λ (s : SessionRow). s.number in
    let account = λ (s : SessionRow). s.account in
    let selection = session_selection c u sound in
    let picked = range_drops key account u (min o 999999) (λ s. true) c.sessions
    (session_numbers c sound) selection.numbered in
    let whole_list = subst (λ xs. IsPermutation xs c.sessions) (sym (map-id h.ordered)) h.same in
    let it = paged (page_params u o l) session_row (λ s. s) (in_range key account u (min o 999999)) (within 0)
    session_terms 0 key session_shown (λ s. test_range s.number (first_of_account u + min o 999999) (last_number u))
    (λ s. refl) (λ s. refl) session_tree (min l most) refl
    (overlay old.now.trees []) h.ordered c.sessions rows h.rows_are whole_list
    (rw picked (rising_dropped key (min o 999999) (first_of_account u)
    (sessions_of u c.sessions) selection.numbered))
    (answers SessionPage layout (page_params u o l) old new rows schema shown) in
    it ∙ ap (map session_shown)
    (ap (take (min l most)) picked ∙ capped_page o l (sessions_of u c.sessions) selection.few)

-- ---- requests, without the objects that they ask to register: what a query shows of one

abbrev body_shown : RequestBody → Value
body_shown b = if body_number b == 4 then Text (body_text b) else Null

abbrev listed_request : RequestRow → Row
listed_request r = whole r.number ∷ whole r.account ∷ whole (body_number r.body) ∷ body_shown r.body
    ∷ whole (status_number r.status) ∷ or_null whole (given_number r.status) ∷ []

shows : (params : Row) (r : RequestRow) → eval_all summary_terms (params ∷ request_row r ∷ []) ≡ listed_request r
shows params r = rw (test_equals (body_number r.body) 4) refl

purpose_is : (b : RequestBody) → IsOfKind b → (whole (body_number b) ≡ whole (purpose_number (purpose_of b)))
    × (body_shown b ≡ or_null Text (purpose_text (purpose_of b)))
purpose_is (body.Registration o) kind = let other : (kind_number o.kind == 4) ≡ false =
    grind (arith, nat_tests, kind) in (refl, rw other refl)
purpose_is (body.Certification c) kind = (refl, refl)

summary_is : (r : RequestRow) → IsOfKind r.body → listed_request r ≡ summary_shown (request_summary r)
summary_is r kind =
    let is = purpose_is r.body kind in
    λ i. whole r.number ∷ whole r.account ∷ is.0 i ∷ is.1 i ∷ whole (status_number r.status)
    ∷ or_null whole (given_number r.status) ∷ []

abbrev summaries : List RequestRow → List RequestSummary
summaries = map request_summary

summaries_are : (list : List RequestRow) → AllByRecursion (λ (r : RequestRow). IsOfKind r.body) list
    → map listed_request list ≡ map summary_shown (summaries list)
summaries_are [] all = refl
summaries_are (r ∷ list) all = λ i. summary_is r all.0 i ∷ summaries_are list all.1 i

purpose_reads : (b : RequestBody) → IsOfKind b → BodyReads b → PurposeReads (purpose_of b)
purpose_reads (body.Registration o) kind reads = kind
purpose_reads (body.Certification c) kind reads = reads

abbrev Reads : RequestSummary → Type 0
Reads s = PurposeReads s.purpose

summaries_read : (list : List RequestRow) → AllByRecursion (λ (r : RequestRow). IsOfKind r.body) list
    → AllByRecursion (λ (r : RequestRow). BodyReads r.body) list → AllByRecursion Reads (summaries list)
summaries_read [] kinds reads = tt
summaries_read (r ∷ list) kinds reads = (purpose_reads r.body kinds.0 reads.0, summaries_read list kinds.1 reads.1)

-- ---- by its number

request_rows : (layout : Layout) → ShowsAt RequestAt layout request_tree request_key request_row request_shown
request_rows layout =
    rows_at RequestAt layout request_tree request_terms refl (λ trees. refl) request_key request_row request_shown
    (λ r. refl) (λ k r. refl)

pub request_found : (layout : Layout) (n : ℕ) (k : Value) → IsFitting n k → IsTooLarge n k
    → (old new : State) (rows : List Row) → old.now.schema ≡ schema_of layout
    → Shown (reading_text RequestAt) (k ∷ []) old new rows
    → (c : Content) → AreWellNumbered c → HoldsRequests (old.now.trees request_tree) c.requests
    → AllByRecursion (λ (r : RequestRow). IsReadable r.body) (keyed request_key n c.requests)
    × IsPermutation (map request_shown (keyed request_key n c.requests)) rows
request_found layout n k fits large old new rows schema shown c sound h =
    let mine = keyed request_key n c.requests in
    let kinds = all-filter (λ (r : RequestRow). IsOfKind r.body) (λ r. r.number == n) c.requests (kinds_of c sound) in
    let texts = all-filter (λ (r : RequestRow). BodyReads r.body) (λ r. r.number == n) c.requests h.texts in
    let same = keyed_same request_key n h.kept.ordered c.requests h.kept.rising h.kept.same in (
      readable mine kinds texts,
      subst (λ xs. IsPermutation xs rows) (ap (map request_shown) same)
          (request_rows layout n k fits large old new rows schema shown c.requests h.kept),
    )
  where
    readable : (list : List RequestRow) → AllByRecursion (λ (r : RequestRow). IsOfKind r.body) list
        → AllByRecursion (λ (r : RequestRow). BodyReads r.body) list
        → AllByRecursion (λ (r : RequestRow). IsReadable r.body) list
    readable [] kinds texts = tt
    readable (r ∷ list) kinds texts = ((kinds.0, texts.0), readable list kinds.1 texts.1)

pub request_is_at : (n : ℕ) (requests : List RequestRow)
    → slice_get (keyed request_key n requests) 0 ≡ request_at n requests
request_is_at n requests = sym (find_is request_key n requests)

-- ---- a page

pub request_page : (layout : Layout) (u o l : ℕ) (old new : State) (rows : List Row) → old.now.schema ≡ schema_of layout
    → Shown (reading_text RequestPage) (page_params u o l) old new rows
    → (c : Content) → AreWellNumbered c → HoldsRequests (old.now.trees request_tree) c.requests
    → AllByRecursion Reads (page o l (summaries (requests_of u c.requests)))
    × (rows ≡ map summary_shown (page o l (summaries (requests_of u c.requests))))
request_page layout u o l old new rows schema shown c sound h =
    let key = λ (r : RequestRow). r.number in
    let account = λ (r : RequestRow). r.account in
    let mine = requests_of u c.requests in
    let selection = request_selection c u sound in
    let picked = range_drops key account u (min o 999999) (λ r. true) c.requests
    (request_numbers c sound) selection.numbered in
    let whole_list = subst (λ xs. IsPermutation xs c.requests) (sym (map-id h.kept.ordered)) h.kept.same in
    let it = paged (page_params u o l) request_row (λ r. r) (in_range key account u (min o 999999)) (within 0)
    summary_terms 0 key listed_request (λ r. test_range r.number (first_of_account u + min o 999999) (last_number u))
    (λ r. refl) (shows (page_params u o l)) request_tree (min l most) refl
    (overlay old.now.trees []) h.kept.ordered c.requests rows h.kept.rows_are whole_list
    (rw picked (rising_dropped key (min o 999999) (first_of_account u) mine selection.numbered))
    (answers RequestPage layout (page_params u o l) old new rows schema shown) in
    let kinds = all-filter (λ (r : RequestRow). IsOfKind r.body) (λ r. r.account == u) c.requests (kinds_of c sound) in
    let texts = all-filter (λ (r : RequestRow). BodyReads r.body) (λ r. r.account == u) c.requests h.texts in
    let exact = it ∙ ap (map listed_request) (ap (take (min l most)) picked ∙ capped_page o l mine selection.few) in (
      all_taken Reads l _ (all_dropped Reads o (summaries mine) (summaries_read mine kinds texts)),
      exact ∙ page_mapped listed_request mine ∙ ap (page o l) (summaries_are mine kinds)
          ∙ sym (page_mapped summary_shown (summaries mine)),
    )
  where
    page_mapped : {A B : Type 0} (f : A → B) (xs : List A) → map f (page o l xs) ≡ page o l (map f xs)
    page_mapped f xs = sym (ap (take l) (drop-map f o xs) ∙ take-map f l (drop o xs))

-- ---- what was decided on a request, by its number

abbrev pub statuses : ℕ → List RequestRow → List RequestStatus
statuses n requests = map (λ (r : RequestRow). r.status) (keyed request_key n requests)

abbrev shown_of : RequestRow → Row
shown_of r = status_shown r.status

pub status_rows : (layout : Layout) (n : ℕ) (k : Value) → IsFitting n k → IsTooLarge n k
    → (old new : State) (rows : List Row) → old.now.schema ≡ schema_of layout
    → Shown (reading_text StatusAt) (k ∷ []) old new rows
    → (requests : List RequestRow) → HoldsRequests (old.now.trees request_tree) requests
    → IsPermutation (map status_shown (statuses n requests)) rows
status_rows layout n k fits large old new rows schema shown requests h =
    let same = keyed_same request_key n h.kept.ordered requests h.kept.rising h.kept.same in
    let found = rows_at StatusAt layout request_tree status_terms refl (λ trees. refl) request_key request_row shown_of
    (λ r. refl) (λ k r. refl) n k fits large old new rows schema shown requests h.kept in
    subst (λ xs. IsPermutation xs rows)
    (ap (map shown_of) same ∙ sym
    (map-map status_shown (λ (r : RequestRow). r.status) (keyed request_key n requests))) found

pub status_of : (n : ℕ) (requests : List RequestRow)
    → slice_get (statuses n requests) 0 ≡ option_map (λ (r : RequestRow). r.status) (request_at n requests)
status_of n requests = first_mapped (λ (r : RequestRow). r.status) (keyed request_key n requests)
    ∙ ap (option_map (λ (r : RequestRow). r.status)) (sym (find_is request_key n requests))

-- ---- the statements on registered objects

abbrev pub is_it : Kind → ℕ → ObjectRow → Bool
is_it kind n o = is_kind o.object.kind kind && (o.number == n)

abbrev owner_shown : ℕ → Row
owner_shown account = whole account ∷ []

abbrev pub owners : Kind → ℕ → List ObjectRow → List ℕ
owners kind n objects = map (λ o. o.account) (filter (is_it kind n) objects)

pub neither : (b : Bool) → (b && false) ≡ false
neither true = refl
neither false = refl

pub none_fits : (kind : Kind) (n : ℕ) (objects : List ObjectRow) → 2 ^ 63 ≤ n → FitColumns objects
    → filter (is_it kind n) objects ≡ []
none_fits kind n [] high fits = refl
none_fits kind n (o ∷ objects) high fits =
    let other : (o.number == n) ≡ false = let low = fits.0.0 in grind (arith, nat_tests, low, high) in
    rw (other, neither (is_kind o.object.kind kind)) (none_fits kind n objects high fits.1)

-- a query by kind and number shows so the objects of these
module _ (r : Reading) (layout : Layout) (project : List Term)
    (is : reading_query r layout ≡ simple object_tree (equals 1 0 ∷ equals 2 1 ∷ []) project) (show : ObjectRow → Row)
    (shows : (params : Row) (e : Entry ObjectRow) → eval_all project (params ∷ entry_row object_columns e ∷ [])
    ≡ show e.row) where
  rows_of : (k : ℕ) (n : Value) (p : ObjectRow → Bool)
      → ((o : ObjectRow)
      → (is_true (binary (Compare Eq Binary) (whole (kind_number o.object.kind)) (whole k)) &&
      (is_true (binary (Compare Eq Binary) (whole o.number) n) && true)) ≡ p o)
      → (old new : State) (rows : List Row) → old.now.schema ≡ schema_of layout
      → Shown (reading_text r) (whole k ∷ n ∷ []) old new rows
      → (objects : List ObjectRow) → HoldsObjects (old.now.trees object_tree) objects
      → IsPermutation (map show (filter p objects)) rows
  rows_of k n p tests old new rows schema shown objects h =
      let params = whole k ∷ n ∷ [] in
      let row = λ (e : Entry ObjectRow). e.row in
      let passing = filter (λ (e : Entry ObjectRow). p e.row) h.entries in
      let found = selected params (entry_row object_columns) (λ e. p e.row) (equals 1 0 ∷ equals 2 1 ∷ [])
      (λ e. tests e.row) object_tree project (λ e. show e.row) (shows params)
      (overlay old.now.trees []) h.entries rows h.rows_are
      (answers_as r layout params old new rows schema shown _ is) in
      let same = subst (λ xs. IsPermutation xs (filter p objects)) (filter-map p row h.entries)
      (IsPermutation-filter p _ objects h.same) in
      IsPermutation-trans _ _ _ (IsPermutation-sym _ _ (IsPermutation-map show _ _ same))
      (subst (λ xs. IsPermutation xs rows) (sym (map-map show row passing)) found)

  pub objects_at : (kind : Kind) (n : ℕ) (k : Value) → IsFitting n k → IsTooLarge n k
      → (old new : State) (rows : List Row)
      → old.now.schema ≡ schema_of layout
      → Shown (reading_text r) (whole (kind_number kind) ∷ k ∷ []) old new rows
      → (objects : List ObjectRow) → HoldsObjects (old.now.trees object_tree) objects → FitColumns objects
      → IsPermutation (map show (filter (is_it kind n) objects)) rows
  objects_at kind n k fits large old new rows schema shown objects h fit =
      let of_kind = λ (o : ObjectRow). test_equals (kind_number o.object.kind) (kind_number kind) in
      elim (small_or_large n) [
        | inl low ↦
            rows_of (kind_number kind) k (is_it kind n)
            (λ o. both_true _ _ (is_kind o.object.kind kind) (o.number == n) (of_kind o)
            (rw (fits low) (test_equals o.number n))) old new rows schema shown objects h
        | inr high ↦
            let found = rows_of (kind_number kind) k (λ o. false)
            (λ o. both_true _ _ (is_kind o.object.kind kind) false (of_kind o) (rw (large high) (test_none o.number))
            ∙ neither _) old new rows schema shown objects h in
            rw (none_fits kind n objects high fit) (rw (none_passes objects) at found)
      ]

pub owner_rows : (layout : Layout) (kind : Kind) (n : ℕ) (k : Value) → IsFitting n k → IsTooLarge n k
    → (old new : State) (rows : List Row) → old.now.schema ≡ schema_of layout
    → Shown (reading_text OwnerAt) (whole (kind_number kind) ∷ k ∷ []) old new rows
    → (objects : List ObjectRow) → HoldsObjects (old.now.trees object_tree) objects → FitColumns objects
    → IsPermutation (map owner_shown (owners kind n objects)) rows
owner_rows layout kind n k fits large old new rows schema shown objects h fit =
    subst (λ xs. IsPermutation xs rows)
    (sym (map-map owner_shown (λ (o : ObjectRow). o.account) (filter (is_it kind n) objects)))
    (objects_at OwnerAt layout (col 1 3 ∷ []) refl (λ o. owner_shown o.account) (λ params e. refl) kind n k fits large
    old new rows schema shown objects h fit)

pub first_owner : (kind : Kind) (n : ℕ) (objects : List ObjectRow) → slice_get (owners kind n objects) 0
    ≡ option_map (λ (o : ObjectRow). o.account) (object_at kind n objects)
first_owner kind n [] = refl
first_owner kind n (o ∷ objects) = elim (cases_Bool (is_it kind n o)) [
  | inl same ↦ rw same refl
  | inr apart ↦ rw apart (first_owner kind n objects)
]

-- ---- registered objects: one by its kind and number, and the pages of an account's

pub object_found : (layout : Layout) (kind : Kind) (n : ℕ) (k : Value) → IsFitting n k
    → IsTooLarge n k → (old new : State) (rows : List Row) → old.now.schema ≡ schema_of layout
    → Shown (reading_text ObjectAt) (whole (kind_number kind) ∷ k ∷ []) old new rows
    → (objects : List ObjectRow) → HoldsObjects (old.now.trees object_tree) objects → FitColumns objects
    → AllByRecursion IsKeepable (filter (is_it kind n) objects)
    × IsPermutation (map object_columns (filter (is_it kind n) objects)) rows
object_found layout kind n k fits large old new rows schema shown objects h fit = (
  all-filter IsKeepable (is_it kind n) objects fit,
  objects_at ObjectAt layout object_terms refl object_columns (λ params e. refl) kind n k fits large old new rows
      schema shown objects h fit,
)

pub first_object : (kind : Kind) (n : ℕ) (objects : List ObjectRow)
    → slice_get (filter (is_it kind n) objects) 0 ≡ object_at kind n objects
first_object kind n [] = refl
first_object kind n (o ∷ objects) = elim (cases_Bool (is_it kind n o)) [
  | inl same ↦ rw same refl
  | inr apart ↦ rw apart (first_object kind n objects)
]

-- ---- a page

abbrev pub objects_params : Kind → ℕ → ℕ → ℕ → Row
objects_params kind u o l = whole (first_of_account u + min o 999999) ∷ whole (last_number u) ∷ whole (min l most)
    ∷ whole (kind_number kind) ∷ []

pub object_page : (layout : Layout) (kind : Kind) (u o l : ℕ) (old new : State) (rows : List Row)
    → old.now.schema ≡ schema_of layout → Shown (reading_text ObjectPage) (objects_params kind u o l) old new rows
    → (c : Content) → AreWellNumbered c → HoldsObjects (old.now.trees object_tree) c.objects → FitColumns c.objects
    → AllByRecursion IsKeepable (page o l (objects_of kind u c.objects))
    × (rows ≡ map object_columns (page o l (objects_of kind u c.objects)))
object_page layout kind u o l old new rows schema shown c sound h fit =
    let key = λ (x : ObjectRow). x.number in
    let account = λ (x : ObjectRow). x.account in
    let of_kind = λ (x : ObjectRow). is_kind x.object.kind kind in
    let mine = objects_of kind u c.objects in
    let selection = object_selection c kind u sound in
    let picked = range_drops key account u (min o 999999) of_kind c.objects
    (object_numbers c sound) selection.numbered in
    let it = paged (objects_params kind u o l) (entry_row object_columns) (λ (e : Entry ObjectRow). e.row)
    (λ x. of_kind x && in_range key account u (min o 999999) x) (equals 1 3 ∷ within 2) object_terms 2 key
    object_columns
    (λ e. ap₂ (λ a b. a && b) (test_equals (kind_number e.row.object.kind) (kind_number kind))
    (test_range e.row.number (first_of_account u + min o 999999) (last_number u))) (λ e. refl)
    (λ e. refl) object_tree (min l most) refl
    (overlay old.now.trees []) h.entries c.objects rows h.rows_are h.same
    (rw picked (rising_dropped key (min o 999999) (first_of_account u) mine selection.numbered))
    (answers ObjectPage layout (objects_params kind u o l) old new rows schema shown) in (
      all_taken IsKeepable l _ (all_dropped IsKeepable o mine
          (all-filter IsKeepable (λ x. of_kind x && (x.account == u)) c.objects fit)),
      it ∙ ap (map object_columns) (ap (take (min l most)) picked ∙ capped_page o l mine selection.few),
    )
