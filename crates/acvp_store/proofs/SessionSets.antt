-- The vector sets of a session, by the range of its sets' numbers.
use Rattle.std.proofs.Common.{◌≡◌, ◌<◌, ◌≤◌, ◌+◌, ◌*◌, ◌/◌, ℕ, pos, List, [], ◌∷◌, map, length, Bool, true, false, not}
use Rattle.std.proofs.Common.{Result, IfOk, IsOk, inl, inr, refl, sym, ap, subst, ◌∙◌, arith}
use Rattle.std.specs.Prelude.{◌==◌, ◌&&◌}
use Rattle.sqlite.specs.Ops.{binary}
use Rattle.acvp_tables.specs.State.{state_of}
use Rattle.acvp_tables.proofs.Numbers.{keyed, sets_numbered}
use Rattle.acvp_tables.proofs.Selections.{sets_follow}
use Rattle.acvp_store.proofs.Words.{⊤}
use Rattle.acvp_store.proofs.Words.{AllByRecursion, AllZip, AreKept, AreWellNumbered, ascending-filter, Binary}
use Rattle.acvp_store.proofs.Words.{cases_Bool, Compare, Content, filter, first_of_session, flag, HoldsSets, ints}
use Rattle.acvp_store.proofs.Words.{is_ne, is_true, IsAscending, IsPermutation, IsPermutation-filter, IsSet, IsSummary}
use Rattle.acvp_store.proofs.Words.{Layout, length-map, list_all, live_sets, map-map, nat_le, nat_tests, Ne, overlay}
use Rattle.acvp_store.proofs.Words.{range_with_len, Row, schema_of, set_key, set_record, set_row, set_summary, set_tree}
use Rattle.acvp_store.proofs.Words.{SetColumns, SetRecord, SetRow, sets_in, SetSummary, short_of, short_shown}
use Rattle.acvp_store.proofs.Words.{ShortColumns, Shown, State, value_cmp-Int, whole}
use Rattle.acvp_store.proofs.Parts.{and_true}
use Rattle.acvp_store.proofs.OrderedRows.{ranged}
use Rattle.acvp_store.proofs.SelectedRows.{truth_back, test_differs, test_at_least, test_at_most}
use Rattle.acvp_store.proofs.SetRows.{set_shown, short_shows, summary_is}
use Rattle.acvp_store.proofs.Places.{sets_seen}
use Rattle.acvp_store.proofs.Readings.{SetsOf, answers, reading_query, reading_text}
use Rattle.acvp_store.proofs.Told.{told_through, unread}

-- a number of a session's sets, of one that isn't cancelled
abbrev pub is_live_within : ℕ → ℕ → Bool → Bool
is_live_within s n cancelled = nat_le (s * 100) n && (nat_le n (s * 100 + 99) && not cancelled)

abbrev pub is_live_set : ℕ → SetColumns → Bool
is_live_set s c = is_live_within s c.number c.cancelled

abbrev pub Rising : List SetColumns → Type 0
Rising = IsAscending (λ a b. a.number < b.number)

-- ---- the rows that the query gives

test_off : (b : Bool) → is_true (binary (Compare Ne Binary) (flag b) (whole 1)) ≡ not b
unfolding binary
test_off true = truth_back _ ∙ ap is_ne (value_cmp-Int (pos 1) (pos 1))
test_off false = test_differs (pos 0) (pos 1) (omega (arith, ints))

pub three_true : (a b c d e f : Bool) → a ≡ d → b ≡ e → c ≡ f → (a && (b && (c && true))) ≡ (d && (e && f))
three_true a b c d e f p q r = rw (p, q, r, and_true f) refl

pub live_rows : (layout : Layout) (s : ℕ) (old new : State) (rows : List Row) → old.now.schema ≡ schema_of layout
    → Shown (reading_text SetsOf) (whole (s * 100) ∷ whole (s * 100 + 99) ∷ []) old new rows
    → (columns : List SetColumns) → AreKept set_key set_row (old.now.trees (set_tree layout)) columns
    → Rising (filter (is_live_set s) columns) → rows ≡ map set_shown (filter (is_live_set s) columns)
live_rows layout s old new rows schema h columns kept rise =
    let params = whole (s * 100) ∷ whole (s * 100 + 99) ∷ [] in
    ranged params set_row (is_live_set s) (reading_query SetsOf layout).filter
    (λ c. three_true _ _ _ _ _ _ (test_at_least c.number (s * 100)) (test_at_most c.number (s * 100 + 99))
    (test_off c.cancelled)) (λ c. c) set_key set_shown
    0 (set_tree layout) (reading_query SetsOf layout).project (λ c. refl) (short_shows params)
    (overlay old.now.trees []) kept.ordered (filter (is_live_set s) columns) rows
    (sets_seen layout old.now.trees ∙ kept.rows_are)
    (same_told (filter (is_live_set s) kept.ordered)
    (IsPermutation-filter (is_live_set s) kept.ordered columns kept.same)) rise
    (answers SetsOf layout params old new rows schema h)
  where
    map_same : (xs : List SetColumns) → map (λ c. c) xs ≡ xs
    map_same [] = refl
    map_same (x ∷ xs) = ap (λ l. x ∷ l) (map_same xs)

    same_told : (xs : List SetColumns) → IsPermutation xs (filter (is_live_set s) columns)
        → IsPermutation (map (λ c. c) xs) (filter (is_live_set s) columns)
    same_told xs same = rw (map_same xs) same

-- ---- of well numbered rows they are the session's

within_is : (s n session : ℕ) (cancelled : Bool) → ((n / 100) == session) ≡ true
    → is_live_within s n cancelled ≡ ((session == s) && not cancelled)
within_is s n session cancelled own =
    let its : n / 100 ≡ session = grind (arith, nat_tests, own) in
    elim (cases_Bool (session == s)) [
      | inl same ↦
          let e : session ≡ s = grind (arith, nat_tests, same) in
          let low : nat_le (s * 100) n ≡ true = let it : s * 100 ≤ n = omega arith in grind (arith, nat_tests, it) in
          let high : nat_le n (s * 100 + 99) ≡ true = let it : n ≤ s * 100 + 99 = omega arith in
          grind (arith, nat_tests, it) in
          rw (low, high, same) refl
      | inr apart ↦ rw apart (out (nat_le (s * 100) n) (nat_le n (s * 100 + 99)) refl refl
          (λ low high. let e : session ≡ s = omega arith in grind (arith, nat_tests, apart, e)))
    ]
  where
    out : (a b : Bool) → nat_le (s * 100) n ≡ a → nat_le n (s * 100 + 99) ≡ b → (s * 100 ≤ n → n ≤ s * 100 + 99 → ⊥)
        → (a && (b && not cancelled)) ≡ false
    out true true p q both = absurd (both (grind (arith, nat_tests, p)) (grind (arith, nat_tests, q)))
    out true false p q both = refl
    out false b p q both = refl

live_within : (s : ℕ) (rows : List SetRow)
    → list_all (λ (row : SetRecord). (row.number / 100) == row.session) (map set_record rows) ≡ true
    → filter (λ (row : SetRow). is_live_within s row.number row.cancelled) rows ≡ live_sets s rows
live_within s [] all = refl
live_within s (r ∷ rows) all =
    let own : ((r.number / 100) == r.session) ≡ true = grind (arith, nat_tests, all) in
    let rest : list_all (λ (row : SetRecord). (row.number / 100) == row.session) (map set_record rows) ≡ true =
    grind (arith, nat_tests, all) in
    let more = live_within s rows rest in
    let here = within_is s r.number r.session r.cancelled own in
    rw (here, more) refl

pub live_is : (s : ℕ) (c : Content) → AreWellNumbered c
    → filter (λ (row : SetRow). is_live_within s row.number row.cancelled) c.sets ≡ live_sets s c.sets
unfolding state_of
live_is s c sound = live_within s c.sets (keyed (state_of c) sound).sets

-- rows that are numbered without gaps rise
beyond : {R : Type 0} (number : R → ℕ) (m i : ℕ) (rows : List R) → m < i
    → map number rows ≡ range_with_len i (length rows) → AllByRecursion (λ r. m < number r) rows
beyond number m i [] low is = tt
beyond number m i (r ∷ rows) low is =
    let here : number r ≡ i = cc (is) in
    let more : map number rows ≡ range_with_len (i + 1) (length rows) = cc (is) in
    (omega arith, beyond number m (i + 1) rows (omega arith) more)

rise_numbered : {R : Type 0} (number : R → ℕ) (i : ℕ) (rows : List R) → map number rows ≡ range_with_len i (length rows)
    → IsAscending (λ a b. number a < number b) rows
rise_numbered number i [] is = tt
rise_numbered number i (r ∷ rows) is =
    let here : number r ≡ i = cc (is) in
    let more : map number rows ≡ range_with_len (i + 1) (length rows) = cc (is) in
    (beyond number (number r) (i + 1) rows (omega arith) more, rise_numbered number (i + 1) rows more)

filter_both : {R : Type 0} (p q : R → Bool) (rows : List R) → filter q (filter p rows) ≡ filter (λ r. p r && q r) rows
filter_both p q [] = refl
filter_both p q (r ∷ rows) = grind (arith, nat_tests, filter_both p q rows)

pub live_rise : (s : ℕ) (c : Content) → AreWellNumbered c
    → IsAscending (λ (a b : SetRow). a.number < b.number) (live_sets s c.sets)
live_rise s c sound =
    let own = filter (λ (row : SetRow). row.session == s) c.sets in
    let follows : sets_in s (state_of c).sets ≡ map set_record own = sets_follow s c in
    let len : length (map set_record own) ≡ length own = length-map _ _ in
    let numbered : map (λ (row : SetRow). row.number) own ≡ range_with_len (first_of_session s) (length own) =
    sym (map-map (λ (row : SetRecord). row.number) set_record own)
    ∙ subst (λ rows. map (λ (row : SetRecord). row.number) rows ≡ range_with_len (first_of_session s) (length rows))
    follows (sets_numbered (state_of c) sound s) ∙ ap (range_with_len (first_of_session s)) len in
    subst (IsAscending (λ (a b : SetRow). a.number < b.number))
    (filter_both (λ (row : SetRow). row.session == s) (λ row. not row.cancelled) c.sets)
    (ascending-filter (λ (a b : SetRow). a.number < b.number) (λ (row : SetRow). not row.cancelled) own
    (rise_numbered (λ (row : SetRow). row.number) (first_of_session s) own numbered))

-- ---- the columns beside the rows

zip_live : (s : ℕ) (columns : List SetColumns) (sets : List SetRow) → AllZip IsSet columns sets
    → AllZip IsSet (filter (is_live_set s) columns)
    (filter (λ (row : SetRow). is_live_within s row.number row.cancelled) sets)
zip_live s [] [] h = tt
zip_live s (c ∷ columns) (r ∷ sets) h =
    let more = zip_live s columns sets h.1 in
    let same : is_live_set s c ≡ is_live_within s r.number r.cancelled = rw (h.0.number, h.0.cancelled) refl in
    elim (cases_Bool (is_live_within s r.number r.cancelled)) [
      | inl on ↦ rw (same, on) (h.0, more)
      | inr off ↦ rw (same, off) more
    ]
zip_live s _ _ h = absurd h

above_zipped : (m : ℕ) (columns : List SetColumns) (sets : List SetRow) → AllZip IsSet columns sets
    → AllByRecursion (λ (r : SetRow). m < r.number) sets → AllByRecursion (λ (c : SetColumns). m < c.number) columns
above_zipped m [] [] h low = tt
above_zipped m (c ∷ columns) (r ∷ sets) h low =
    (subst (λ n. m < n) (sym h.0.number) low.0, above_zipped m columns sets h.1 low.1)
above_zipped m _ _ h low = absurd h

rise_zipped : (columns : List SetColumns) (sets : List SetRow) → AllZip IsSet columns sets
    → IsAscending (λ (a b : SetRow). a.number < b.number) sets → Rising columns
rise_zipped [] [] h rise = tt
rise_zipped (c ∷ columns) (r ∷ sets) h rise = (
  above_zipped c.number columns sets h.1
      (subst (λ n. AllByRecursion (λ (r : SetRow). n < r.number) sets) (sym h.0.number) rise.0),
  rise_zipped columns sets h.1 rise.1,
)
rise_zipped _ _ h rise = absurd h

all_told : (columns : List SetColumns) (sets : List SetRow) (told : List SetSummary) → AllZip IsSet columns sets
    → AllZip IsSummary (map short_of columns) told → told ≡ map set_summary sets
all_told [] [] [] h is = refl
all_told [] (r ∷ sets) told h is = absurd h
all_told (c ∷ columns) [] told h is = absurd h
all_told (c ∷ columns) (r ∷ sets) (t ∷ told) h is =
    λ i. summary_is c r t h.0 is.0 i ∷ all_told columns sets told h.1 is.1 i
all_told _ _ _ h is = absurd is

-- ---- the whole

module _ {X L M E F G : Type 0} (s : ℕ) (table : List Row) (rows_in : X → List Row) (listed : L → List ShortColumns)
    (told : M → List SetSummary) where
  pub find_live : (outcome : Result X E) (found : Result L F) (result : Result M G) → (IsOk found → IsOk outcome)
      → (IsOk result → IsOk found)
      → IfOk found (λ l. IfOk outcome (λ x. (list : List ShortColumns) → AllByRecursion (λ _. ⊤) list
      → rows_in x ≡ map short_shown list → listed l ≡ list))
      → IfOk result (λ m. IfOk found (λ l. AllZip IsSummary (listed l) (told m)))
      → IfOk outcome (λ x. (columns : List SetColumns) → AreKept set_key set_row table columns
      → Rising (filter (is_live_set s) columns) → rows_in x ≡ map set_shown (filter (is_live_set s) columns))
      → IfOk result (λ m. (c : Content) → AreWellNumbered c → HoldsSets table c.sets
      → told m ≡ map set_summary (live_sets s c.sets))
  find_live outcome found result ok_found ok_result =
      told_through outcome found result ok_found ok_result _ _ _ _ (λ x l m lists tells rows c sound h.
      let columns = filter (is_live_set s) h.columns in
      let zip : AllZip IsSet columns (live_sets s c.sets) =
      subst (AllZip IsSet columns) (live_is s c sound) (zip_live s h.columns c.sets h.same) in
      let shown = rows h.columns h.kept (rise_zipped columns (live_sets s c.sets) zip (live_rise s c sound)) in
      let is : listed l ≡ map short_of columns =
      lists (map short_of columns) (unread _) (shown ∙ sym (map-map short_shown short_of columns)) in
      all_told columns (live_sets s c.sets) (told m) zip (subst (λ list. AllZip IsSummary list (told m)) is tells))
