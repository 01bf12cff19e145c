-- What was read of the rows with an account's numbers: whose it is, its order, and any content that the rows stand for.
use Rattle.std.proofs.Common.{◌≡◌, ℕ, ◌/◌, Bool, true, false, List, [], ◌∷◌, ◌++◌, None, Some, refl, sym, ap, ap₂}
use Rattle.std.proofs.Common.{subst, ◌∙◌}
use Rattle.std.proofs.Common.{inl, inr, arith}
use Rattle.std.specs.Prelude.{filter, ◌&&◌, ◌||◌, ◌==◌}
use Rattle.std.specs.List.{list_all, AllByRecursion}
use Rattle.std.specs.List.Sorted.{IsPermutation}
use Rattle.std.proofs.lemmas.Bool.{cases_Bool}
use Rattle.std.proofs.lemmas.Bool.Decides.{nat_tests}
use Rattle.std.proofs.lemmas.List.Elements.{All-filter}
use Rattle.std.proofs.lemmas.List.Sorted.{IsPermutation-sym}
use Rattle.sqlite_trees.proofs.ListLemmas.{all_weaker, all-append}
use Rattle.sqlite_trees.specs.Tree.{Trees}
use Rattle.sqlite_value.specs.Order.{Row}
use Rattle.acvp_desk.specs.Certifications.{IsLeft}
use Rattle.acvp_desk.specs.Kept.{IsGraded, IsGradedSet, IsKept}
use Rattle.acvp_desk.proofs.FirstBroken.{front_held}
use Rattle.acvp_mac.specs.Conditions.{Condition, first_broken}
use Rattle.acvp_tables.specs.Content.{Content, no_rows}
use Rattle.acvp_tables.specs.Counted.{is_counted}
use Rattle.acvp_tables.specs.State.{state_of, own, owner_of, is_account_number, IsWellNumbered, IsWellNumberedFor}
use Rattle.acvp_tables.specs.declared.rows.AccountRow.{AccountRow}
use Rattle.acvp_tables.specs.declared.rows.SessionRow.{SessionRow}
use Rattle.acvp_tables.specs.declared.rows.SetRow.{SetRow}
use Rattle.acvp_tables.specs.declared.rows.ObjectRow.{ObjectRow}
use Rattle.acvp_tables.specs.declared.rows.RequestRow.{RequestRow}
use Rattle.acvp_tables.specs.declared.rows.ReviewerRow.{ReviewerRow}
use Rattle.acvp_tables.proofs.Empty.{none_sound}
use Rattle.acvp_tables.proofs.KeptLemmas.{list_all_weaker, list_all-filter}
use Rattle.acvp_check.specs.Conditions.{all_conditions, account_conditions, own_row_conditions, session_conditions}
use Rattle.acvp_check.specs.Conditions.{set_conditions, request_conditions, object_conditions, all_kinds_conditions}
use Rattle.acvp_check.specs.Conditions.{reviewer_conditions, certification_conditions, is_beyond_kept}
use Rattle.acvp_check.specs.Conditions.{epoch_conditions, registration_conditions, verdict_conditions}
use Rattle.acvp_check.specs.Order.{HaveSameRows, AreInOrder}
use Rattle.acvp_check.specs.Owners.{is_of, is_in, owner_conditions, session_owners, registry_owners}
use Rattle.acvp_check.specs.Rows.{AreNumbered, rows_numbered, rows_of}
use Rattle.acvp_check.proofs.AccountLemmas.{join, split}
use Rattle.acvp_check.proofs.Holds.{none_broken, all_held}
use Rattle.acvp_check.proofs.Joins.{apart}
use Rattle.acvp_check.proofs.NumberedRows.{account_unbroken, numbered_whole, part_tells, part_unbroken}
use Rattle.acvp_check.proofs.OrderedRows.{kept_in_order, left_in_order}
use Rattle.acvp_check.proofs.WholeLemmas.{counted_for, kept_owned, left, numbers_select, owners_unbroken, rows_state}
use Rattle.acvp_check.proofs.WholeLemmas.{well_for}
use Rattle.acvp_store.specs.Ranges.{is_between, is_number_between, is_object_between, is_column_between, KeepsObjects}
use Rattle.acvp_store.specs.Ranges.{IsRegisteredWithin, first_number, last_number, first_set, last_set}
use Rattle.acvp_store.specs.Rows.{account_key, HoldsAccounts, session_key, HoldsSessions}
use Rattle.acvp_store.specs.Schema.{Layout}
use Rattle.acvp_store.specs.Stands.{Stands, object_tree, request_tree, object_columns, IsKeepable, HoldsSets}
use Rattle.acvp_store.specs.Stands.{HoldsReviewers}
use Rattle.acvp_store.specs.Values.{whole}
use Rattle.acvp_store.specs.Version.{is_equal}
use Rattle.acvp_store.proofs.EntryRanges.{both_hold, IsParted}
use Rattle.acvp_store.proofs.Keyed.{same_whole}
use Rattle.acvp_store.proofs.OneList.{same_sets, same_objects, same_reviewers}
use Rattle.acvp_store.proofs.RangeJoins.{sessions_known, accounts_known}
use Rattle.acvp_audit.specs.Read.{AreInTrees, AreRowsOf, IsRegistrable}
use Rattle.acvp_audit.specs.Wrong.{AreWithin, IsBroken}
use Rattle.acvp_audit.specs.declared.table.Table.TheVariants as table
use Rattle.acvp_check.specs.declared.finding.Finding.{Finding}
use Rattle.acvp_audit.proofs.Kept.{owner_is, session_is}
use Rattle.acvp_audit.proofs.Lists.{itself, of_account, set_of_account, all_kept, same_filter, rising}
use Rattle.acvp_audit.proofs.Parts.{HoldsAsked, known_by, within_by, within_range, sets_part, objects_part}
use Rattle.acvp_audit.proofs.Parts.{reviewers_part, requests_part, same_requests}

-- ---- objects of all kinds

module _ (f l : ℕ) where
  abbrev in_range : Row → Bool
  in_range = is_column_between 2 f l

  abbrev of_kind : ℕ → Row → Bool
  of_kind k = is_object_between k f l

  abbrev of_two : Row → Bool
  of_two row = of_kind 1 row || of_kind 2 row

  kind_test : (k : ℕ) (row : Row) (is : IsRegisteredWithin 9999 row) → of_kind k row ≡ ((is.0.0 == k) && in_range row)
  kind_test k row is = ap (λ b. b && in_range row) (ap (λ v. is_equal v (whole k)) is.0.1 ∙ same_whole is.0.0 k)

  two_parted : (row : Row) → IsRegisteredWithin 9999 row → IsParted object_columns of_two (of_kind 1) (of_kind 2) row
  two_parted row is = (
    refl,
    ap₂ (λ a b. a && b) (kind_test 1 row is) (kind_test 2 row is)
        ∙ never is.0.0 (in_range row),
  )
    where
      never : (n : ℕ) (b : Bool) → (((n == 1) && b) && ((n == 2) && b)) ≡ false
      never n true = grind (arith, nat_tests)
      never n false = grind (arith, nat_tests)

  three_parted : (row : Row) → IsRegisteredWithin 9999 row → IsParted object_columns in_range of_two (of_kind 3) row
  three_parted row is =
      let two = ap₂ (λ a b. a || b) (kind_test 1 row is) (kind_test 2 row is) in (
        among is.0.0 is.0.2 (in_range row) ∙ sym (ap₂ (λ a b. a || b) two (kind_test 3 row is)),
        ap₂ (λ a b. a && b) two (kind_test 3 row is) ∙ never is.0.0 (in_range row),
      )
    where
      among : (n : ℕ) → is_number_between 1 3 n ≡ true → (b : Bool)
          → b ≡ ((((n == 1) && b) || ((n == 2) && b)) || ((n == 3) && b))
      among n low true = grind (arith, nat_tests, low)
      among n low false = grind (arith, nat_tests)

      never : (n : ℕ) (b : Bool) → (((((n == 1) && b) || ((n == 2) && b))) && ((n == 3) && b)) ≡ false
      never n true = grind (arith, nat_tests)
      never n false = grind (arith, nat_tests)

-- ---- what was read

module _ (layout : Layout) (trees : Trees) (inside : AreInTrees layout trees) (within : AreWithin layout trees) (u : ℕ)
    (mine : Content) (rows : AreRowsOf layout trees u mine) where
  pub objects_all : KeepsObjects (filter (is_column_between 2 (first_number u) (last_number u)) (trees object_tree))
      mine.objects
  objects_all =
      let it = rows.entries.of_kinds in
      let f = first_number u in
      let l = last_number u in
      let objects = trees object_tree in
      let two = both_hold object_columns (of_two f l) (of_kind f l 1)
      (of_kind f l 2) objects it.vendors it.modules inside.objects
      (all_weaker (IsRegisteredWithin 9999) (IsParted object_columns (of_two f l) (of_kind f l 1) (of_kind f l 2))
      (two_parted f l) objects (within table.Object)) it.of_vendors.kept it.of_modules.kept in
      let three = both_hold object_columns (in_range f l) (of_two f l) (of_kind f l 3) objects
      (it.vendors ++ it.modules) it.environments inside.objects
      (all_weaker (IsRegisteredWithin 9999) (IsParted object_columns (in_range f l) (of_two f l) (of_kind f l 3))
      (three_parted f l) objects (within table.Object)) two it.of_environments.kept in
      subst (KeepsObjects (filter (in_range f l) objects)) (sym it.joined) (record {
        kept = three;
        numbers = all-append IsKeepable (it.vendors ++ it.modules) it.environments
            (all-append IsKeepable it.vendors it.modules it.of_vendors.numbers it.of_modules.numbers)
            it.of_environments.numbers;
      })

  asked : HoldsAsked (filter (is_between (first_number u) (last_number u)) (trees request_tree)) mine.requests
  asked = (rows.entries.request_range.holds, rows.registrable)

  -- whose the rows are
  pub accounts_of : list_all (λ row. row.number == u) mine.accounts ≡ true
  accounts_of =
      list_all_weaker (λ (row : AccountRow). is_number_between u u row.number) (λ row. row.number == u)
      (λ row e. sym (itself u row.number) ∙ e) mine.accounts
      (within_range HoldsAccounts account_key accounts_known u u _ mine.accounts rows.tests.account_range)

  pub sessions_of : list_all (λ row. owner_of row.number == u) mine.sessions ≡ true
  sessions_of =
      list_all_weaker (λ (row : SessionRow). is_number_between (first_number u) (last_number u) row.number)
      (λ row. owner_of row.number == u) (λ row e. sym (of_account u row.number) ∙ e) mine.sessions
      (within_range HoldsSessions session_key sessions_known (first_number u)
      (last_number u) _ mine.sessions rows.tests.session_range)

  pub sets_of : list_all (λ row. owner_of (row.number / 100) == u) mine.sets ≡ true
  sets_of =
      list_all_weaker (λ (row : SetRow). is_number_between (first_set u) (last_set u) row.number)
      (λ row. owner_of (row.number / 100) == u) (λ row e. sym (set_of_account u row.number) ∙ e) mine.sets
      (within_by HoldsSets same_sets (is_between (first_set u) (last_set u))
      (λ row. is_number_between (first_set u) (last_set u) row.number)
      (sets_part (first_set u) (last_set u)) _ mine.sets rows.tests.set_range.holds.kept)

  pub objects_of : list_all (λ row. owner_of row.number == u) mine.objects ≡ true
  objects_of =
      list_all_weaker (λ (row : ObjectRow). is_number_between (first_number u) (last_number u) row.number)
      (λ row. owner_of row.number == u) (λ row e. sym (of_account u row.number) ∙ e) mine.objects
      (within_by KeepsObjects same_objects (is_column_between 2 (first_number u) (last_number u))
      (λ row. is_number_between (first_number u) (last_number u) row.number)
      (objects_part (first_number u) (last_number u)) _ mine.objects objects_all)

  pub requests_of : list_all (λ row. owner_of row.number == u) mine.requests ≡ true
  requests_of =
      list_all_weaker (λ (row : RequestRow). is_number_between (first_number u) (last_number u) row.number)
      (λ row. owner_of row.number == u) (λ row e. sym (of_account u row.number) ∙ e) mine.requests
      (within_by HoldsAsked same_requests (is_between (first_number u) (last_number u))
      (λ row. is_number_between (first_number u) (last_number u) row.number)
      (requests_part (first_number u) (last_number u)) _ mine.requests asked)

  pub reviewers_of : list_all (λ row. owner_of row.session == u) mine.reviewers ≡ true
  reviewers_of =
      list_all_weaker (λ (row : ReviewerRow). is_number_between (first_number u) (last_number u) row.session)
      (λ row. owner_of row.session == u) (λ row e. sym (of_account u row.session) ∙ e) mine.reviewers
      (within_by HoldsReviewers same_reviewers (is_column_between 1 (first_number u) (last_number u))
      (λ row. is_number_between (first_number u) (last_number u) row.session)
      (reviewers_part (first_number u) (last_number u)) _ mine.reviewers rows.entries.reviewer_rows)

  pub selects : rows_numbered u mine ≡ mine
  unfolding rows_numbered
  selects = rw (
    all_kept (λ (row : AccountRow). row.number == u) mine.accounts accounts_of,
    all_kept (λ (row : SessionRow). owner_of row.number == u) mine.sessions sessions_of,
    all_kept (λ (row : SetRow). owner_of (row.number / 100) == u) mine.sets sets_of,
    all_kept (λ (row : ObjectRow). owner_of row.number == u) mine.objects objects_of,
    all_kept (λ (row : RequestRow). owner_of row.number == u) mine.requests requests_of,
    all_kept (λ (row : ReviewerRow). owner_of row.session == u) mine.reviewers reviewers_of,
  ) refl

  pub ordered : AreInOrder mine
  ordered = record {
    sessions = rising (λ row. row.number) mine.sessions rows.tests.session_range.rising;
    sets = rising (λ row. row.number) mine.sets rows.tests.set_range.rising;
    objects = rows.in_order;
    requests = rising (λ row. row.number) mine.requests rows.entries.request_range.rising;
  }

  -- a content that the rows stand for has them, in any order
  module _ (c : Content) (stand : Stands layout trees c)
      (registrable : AllByRecursion (λ (row : RequestRow). IsRegistrable row.body) c.requests) where
    pub same_rows : HaveSameRows (rows_numbered u c) mine
    unfolding rows_numbered
    same_rows = record {
      accounts = subst (λ xs. IsPermutation xs mine.accounts)
          (same_filter (λ (row : AccountRow). is_number_between u u row.number) (λ row. row.number == u)
          (λ row. itself u row.number) c.accounts)
          (IsPermutation-sym _ _ (accounts_known u u _ mine.accounts c.accounts stand.accounts
          rows.tests.account_range));
      sessions = subst (λ xs. IsPermutation xs mine.sessions)
          (same_filter (λ (row : SessionRow). is_number_between (first_number u) (last_number u) row.number)
          (λ row. owner_of row.number == u) (λ row. of_account u row.number) c.sessions)
          (IsPermutation-sym _ _ (sessions_known (first_number u)
          (last_number u) _ mine.sessions c.sessions stand.sessions rows.tests.session_range));
      sets = subst (λ xs. IsPermutation xs mine.sets)
          (same_filter (λ (row : SetRow). is_number_between (first_set u) (last_set u) row.number)
          (λ row. owner_of (row.number / 100) == u) (λ row. set_of_account u row.number) c.sets)
          (known_by HoldsSets same_sets (is_between (first_set u) (last_set u))
          (λ row. is_number_between (first_set u) (last_set u) row.number)
          (sets_part (first_set u) (last_set u)) _ c.sets mine.sets stand.sets rows.tests.set_range.holds.kept);
      objects = subst (λ xs. IsPermutation xs mine.objects)
          (same_filter (λ (row : ObjectRow). is_number_between (first_number u) (last_number u) row.number)
          (λ row. owner_of row.number == u) (λ row. of_account u row.number) c.objects)
          (known_by KeepsObjects same_objects (is_column_between 2 (first_number u) (last_number u))
          (λ row. is_number_between (first_number u) (last_number u) row.number)
          (objects_part (first_number u) (last_number u)) _ c.objects mine.objects
          (record { kept = stand.objects; numbers = stand.object_numbers }) objects_all);
      requests = subst (λ xs. IsPermutation xs mine.requests)
          (same_filter (λ (row : RequestRow). is_number_between (first_number u) (last_number u) row.number)
          (λ row. owner_of row.number == u) (λ row. of_account u row.number) c.requests)
          (known_by HoldsAsked same_requests (is_between (first_number u) (last_number u))
          (λ row. is_number_between (first_number u) (last_number u) row.number)
          (requests_part (first_number u) (last_number u)) _ c.requests mine.requests
          (stand.requests, registrable) asked);
      reviewers = subst (λ xs. IsPermutation xs mine.reviewers)
          (same_filter (λ (row : ReviewerRow). is_number_between (first_number u) (last_number u) row.session)
          (λ row. owner_of row.session == u) (λ row. of_account u row.session) c.reviewers)
          (known_by HoldsReviewers same_reviewers (is_column_between 1 (first_number u) (last_number u))
          (λ row. is_number_between (first_number u) (last_number u) row.session)
          (reviewers_part (first_number u) (last_number u)) _ c.reviewers mine.reviewers stand.reviewers
          rows.entries.reviewer_rows);
    }

-- ---- an account's part of kept records is kept

none_left : {R : Type 0} (class : R → ℕ) (u v : ℕ) → (v == u) ≡ false → (xs : List R)
    → filter (λ r. class r == v) (filter (λ r. class r == u) xs) ≡ []
none_left class u v other [] = refl
none_left class u v other (x ∷ xs) = elim (cases_Bool (class x == u)) [
  | inl is ↦
      let at : class x ≡ u = grind (arith, nat_tests, is) in
      let off : (class x == v) ≡ false = grind (arith, nat_tests, at, other) in
      rw (is, off) (none_left class u v other xs)
  | inr isnt ↦ rw isnt (none_left class u v other xs)
]

twice : {R : Type 0} (p : R → Bool) (xs : List R) → filter p (filter p xs) ≡ filter p xs
twice p [] = refl
twice p (x ∷ xs) = elim (cases_Bool (p x)) [
  | inl is ↦ rw (is, is) (ap (λ l. x ∷ l) (twice p xs))
  | inr isnt ↦ rw isnt (twice p xs)
]

module _ (u : ℕ) (c : Content) where
  own_again : rows_numbered u (rows_numbered u c) ≡ rows_numbered u c
  unfolding rows_numbered
  own_again = rw (
    twice (λ (row : AccountRow). row.number == u) c.accounts,
    twice (λ (row : SessionRow). owner_of row.number == u) c.sessions,
    twice (λ (row : SetRow). owner_of (row.number / 100) == u) c.sets,
    twice (λ (row : ObjectRow). owner_of row.number == u) c.objects,
    twice (λ (row : RequestRow). owner_of row.number == u) c.requests,
    twice (λ (row : ReviewerRow). owner_of row.session == u) c.reviewers,
  ) refl

  no_others : (v : ℕ) → (v == u) ≡ false → rows_numbered v (rows_numbered u c) ≡ no_rows
  unfolding rows_numbered
  no_others v other = rw (
    none_left (λ (row : AccountRow). row.number) u v other c.accounts,
    none_left (λ (row : SessionRow). owner_of row.number) u v other c.sessions,
    none_left (λ (row : SetRow). owner_of (row.number / 100)) u v other c.sets,
    none_left (λ (row : ObjectRow). owner_of row.number) u v other c.objects,
    none_left (λ (row : RequestRow). owner_of row.number) u v other c.requests,
    none_left (λ (row : ReviewerRow). owner_of row.session) u v other c.reviewers,
  ) refl

  none_owned : first_broken (owner_conditions no_rows) ≡ None
  unfolding owner_conditions session_owners registry_owners
  none_owned = refl

  none_wrong : (seeds : List (List ℕ)) (v : ℕ) → first_broken (all_conditions true seeds v no_rows) ≡ None
  unfolding account_conditions own_row_conditions session_conditions set_conditions request_conditions object_conditions
      all_kinds_conditions reviewer_conditions certification_conditions registration_conditions epoch_conditions
      verdict_conditions state_of
  none_wrong seeds v = refl

  numbered : (seeds : List (List ℕ)) → IsKept seeds c → AreNumbered (rows_numbered u c)
  unfolding rows_numbered
  numbered seeds is =
      let owned = kept_owned seeds c is in
      record {
        accounts = list_all-filter (λ (row : AccountRow). is_account_number row.number)
            (λ row. row.number == u) c.accounts owned.accounts;
        sessions = list_all-filter (λ (row : SessionRow). is_account_number (owner_of row.number))
            (λ row. owner_of row.number == u) c.sessions
            (list_all_weaker (λ (row : SessionRow). is_of row.account row.number)
            (λ row. is_account_number (owner_of row.number))
            (λ row e. owner_is row.account row.number e) c.sessions owned.sessions);
        sets = list_all-filter (λ (row : SetRow). is_account_number (owner_of (row.number / 100)))
            (λ row. owner_of (row.number / 100) == u) c.sets
            (list_all_weaker (λ (row : SetRow). is_in row.session row.number)
            (λ row. is_account_number (owner_of (row.number / 100)))
            (λ row e. session_is row.session row.number e) c.sets owned.sets);
        objects = list_all-filter (λ (row : ObjectRow). is_account_number (owner_of row.number))
            (λ row. owner_of row.number == u) c.objects
            (list_all_weaker (λ (row : ObjectRow). is_of row.account row.number)
            (λ row. is_account_number (owner_of row.number))
            (λ row e. owner_is row.account row.number e) c.objects owned.objects);
        requests = list_all-filter (λ (row : RequestRow). is_account_number (owner_of row.number))
            (λ row. owner_of row.number == u) c.requests
            (list_all_weaker (λ (row : RequestRow). is_of row.account row.number)
            (λ row. is_account_number (owner_of row.number))
            (λ row e. owner_is row.account row.number e) c.requests owned.requests);
        reviewers = list_all-filter (λ (row : ReviewerRow). is_account_number (owner_of row.session))
            (λ row. owner_of row.session == u) c.reviewers owned.reviewers;
      }

  pub part_left : (seeds : List (List ℕ)) → IsLeft seeds c → IsLeft seeds (rows_numbered u c)
  part_left seeds is = left seeds (rows_numbered u c)
      (numbered_whole (rows_numbered u c) (numbered seeds is.kept) owners true seeds others)
    where
      owners : (v : ℕ) → is_account_number v ≡ true
          → first_broken (owner_conditions (rows_numbered v (rows_numbered u c))) ≡ None
      owners v on = elim (cases_Bool (v == u)) [
        | inl same ↦
            let at : u ≡ v = grind (arith, nat_tests, same) in
            subst (λ k. first_broken (owner_conditions (rows_numbered k (rows_numbered u c)))
            ≡ None) at (subst (λ d. first_broken (owner_conditions d) ≡ None) (sym own_again)
            (part_unbroken seeds c is.kept u))
        | inr other ↦ subst (λ d. first_broken (owner_conditions d) ≡ None) (sym (no_others v other)) none_owned
      ]

      others : (v : ℕ) → is_account_number v ≡ true
          → first_broken (all_conditions true seeds v (rows_numbered v (rows_numbered u c))) ≡ None
      others v on = elim (cases_Bool (v == u)) [
        | inl same ↦
            let at : u ≡ v = grind (arith, nat_tests, same) in
            subst (λ k. first_broken (all_conditions true seeds k (rows_numbered k (rows_numbered u c)))
            ≡ None) at (subst (λ d. first_broken (all_conditions true seeds u d) ≡ None) (sym own_again)
            (account_unbroken seeds c is true u))
        | inr other ↦ subst (λ d. first_broken (all_conditions true seeds v d) ≡ None) (sym (no_others v other))
            (none_wrong seeds v)
      ]

  none_well : (v : ℕ) → IsWellNumberedFor v (state_of no_rows)
  unfolding IsWellNumbered own state_of
  none_well v = none_sound v

  part_graded : (seeds : List (List ℕ)) → IsKept seeds c → IsGraded seeds (rows_numbered u c)
  unfolding rows_numbered
  part_graded seeds is = All-filter (λ (row : SetRow). owner_of (row.number / 100) == u) (IsGradedSet seeds) c.sets
      is.graded

  part_sound : (seeds : List (List ℕ)) → IsKept seeds c → (v : ℕ)
      → IsWellNumberedFor v (own v (state_of (rows_numbered u c)))
  part_sound seeds is v = subst (IsWellNumberedFor v) (rows_state v part) (elim (cases_Bool (v == u)) [
    | inl same ↦
        let at : u ≡ v = grind (arith, nat_tests, same) in
        subst (λ k. IsWellNumberedFor k (state_of (rows_of k part))) at
        (subst (λ d. IsWellNumberedFor u (state_of d)) (sym (sym (select u) ∙ own_again
        ∙ numbers_select u c (owners_unbroken seeds c is))) (well_for seeds c is u))
    | inr other ↦ subst (λ d. IsWellNumberedFor v (state_of d)) (sym (sym (select v) ∙ no_others v other))
        (none_well v)
  ])
    where
      part : Content
      part = rows_numbered u c

      select : (v : ℕ) → rows_numbered v part ≡ rows_of v part
      select v = numbers_select v part (part_unbroken seeds c is u)

  -- kept records are kept among an account's rows
  pub part_kept : (seeds : List (List ℕ)) → IsKept seeds c → IsKept seeds (rows_numbered u c)
  unfolding IsWellNumbered
  part_kept seeds is = record {
    sound = part_sound seeds is;
    counted = subst (λ d. list_all (is_counted d.sets) d.sessions ≡ true)
        (sym (numbers_select u c (owners_unbroken seeds c is))) (counted_for seeds c is u);
    graded = part_graded seeds is;
  }

-- of conditions of which none is broken, none is in either part
pub none_of_both : (front rest : List (Condition Finding)) → first_broken (front ++ rest) ≡ None
    → (first_broken front ≡ None) × (first_broken rest ≡ None)
none_of_both front rest none =
    let two = split front rest (none_broken (front ++ rest) none) in
    (all_held front two.0, all_held rest two.1)

-- ---- what is found tells that no run leaves the content

module _ (grades : Bool) (seeds : List (List ℕ)) (u : ℕ) (c mine : Content)
    (same : HaveSameRows (rows_numbered u c) mine) (up : AreInOrder mine) (own : rows_numbered u mine ≡ mine)
    (found : Finding) (broken : IsBroken grades seeds u mine found) where
  pub not_kept : is_beyond_kept found.wrong ≡ false → ¬ IsKept seeds c
  not_kept other is =
      let part = kept_in_order seeds (rows_numbered u c) mine same up (part_kept u c seeds is) in
      let owners = subst (λ d. first_broken (owner_conditions d) ≡ None) own (part_unbroken seeds mine part u) in
      let others = sym (front_held (owner_conditions mine) (all_conditions grades seeds u mine) owners) ∙ broken in
      let tells = part_tells seeds mine part grades u found
      (subst (λ d. first_broken (all_conditions grades seeds u d) ≡ Some found) (sym own) others) in
      let both_ways : true ≡ false = sym tells ∙ other in
      absurd (cc (both_ways))

  pub not_left : ¬ IsLeft seeds c
  not_left is =
      let part = left_in_order seeds (rows_numbered u c) mine same up (part_left u c seeds is) in
      let owners = subst (λ d. first_broken (owner_conditions d) ≡ None) own (part_unbroken seeds mine part.kept u) in
      let others = subst (λ d. first_broken (all_conditions grades seeds u d) ≡ None) own
      (account_unbroken seeds mine part grades u) in
      let none = all_held (owner_conditions mine ++ all_conditions grades seeds u mine)
      (join (owner_conditions mine) (all_conditions grades seeds u mine) (none_broken (owner_conditions mine) owners)
      (none_broken (all_conditions grades seeds u mine) others)) in
      apart _ found broken none
