-- Where no condition is broken on the rows of any account, the rows stand for records that are kept.
use Rattle.std.proofs.Common.{◌≡◌, ℕ, zero, suc, ◌+◌, ◌/◌, ◌<◌, ◌≤◌, Bool, true, false, List, length, None, refl, sym}
use Rattle.std.proofs.Common.{ap, ap₂, subst, ◌∙◌, ◌++◌, inl, inr, arith}
use Rattle.std.specs.Prelude.{◌==◌, if◌then◌else◌}
use Rattle.std.specs.Prelude.{is_some, slice_get}
use Rattle.std.specs.List.{list_all}
use Rattle.std.proofs.lemmas.Bool.{cases_Bool}
use Rattle.std.proofs.lemmas.Bool.Decides.{nat_tests}
use Rattle.std.proofs.lemmas.List.{length-append}
use Rattle.std.proofs.lemmas.List.Folds.{list_all-append}
use Rattle.sqlite_trees.proofs.ListLemmas.{all_weaker, filter_all}
use Rattle.sqlite_trees.specs.Tree.{Trees}
use Rattle.sqlite.specs.Effect.{Database}
use Rattle.acvp_mac.specs.Conditions.{first_broken}
use Rattle.acvp_tables.specs.Content.{Content}
use Rattle.acvp_tables.specs.State.{owner_of, is_account_number}
use Rattle.acvp_tables.specs.declared.rows.AccountRow.{AccountRow}
use Rattle.acvp_tables.specs.declared.rows.SessionRow.{SessionRow}
use Rattle.acvp_tables.specs.declared.rows.SetRow.{SetRow}
use Rattle.acvp_tables.specs.declared.rows.ObjectRow.{ObjectRow}
use Rattle.acvp_tables.specs.declared.rows.RequestRow.{RequestRow}
use Rattle.acvp_tables.specs.declared.rows.ReviewerRow.{ReviewerRow}
use Rattle.acvp_check.specs.Conditions.{account_conditions, all_conditions, certification_conditions, is_disposed}
use Rattle.acvp_check.specs.Conditions.{epoch_conditions, kept_conditions, registration_conditions, set_row_conditions}
use Rattle.acvp_check.specs.Owners.{owner_conditions}
use Rattle.acvp_check.specs.Rows.{AreNumbered, rows_numbered}
use Rattle.acvp_check.specs.Whole.{IsWhole}
use Rattle.acvp_tables.specs.State.{of_all}
use Rattle.acvp_tables.proofs.KeptLemmas.{list_all_weaker}
use Rattle.acvp_check.proofs.AccountLemmas.{parts, sets_hold, set_holds, split}
use Rattle.acvp_check.proofs.Holds.{all_both, holds, joint, none_broken}
use Rattle.acvp_check.proofs.NumberedRows.{numbered_whole}
use Rattle.acvp_check.proofs.WholeLemmas.{left, whole_sound, whole_counted, whole_certified, whole_in_epochs}
use Rattle.acvp_check.proofs.WholeLemmas.{whole_registered}
use Rattle.acvp_store.specs.Adopted.{IsOurs}
use Rattle.acvp_store.specs.Ranges.{is_column_between, IsRegisteredWithin, first_number, last_number, joined}
use Rattle.acvp_store.specs.Rows.{account_key, account_row, HoldsAccounts}
use Rattle.acvp_store.specs.Stands.{Stands, object_columns, object_tree, HoldsEntries, IsKeepable}
use Rattle.acvp_store.specs.Schema.{Layout}
use Rattle.acvp_store.proofs.ColumnNumbers.{column_test}
use Rattle.acvp_store.proofs.EntryRanges.{entries_joined, joined_all, IsNumbered}
use Rattle.acvp_store.proofs.RangeJoins.{joined_whole, kept_nothing, kept_both, sessions_whole}
use Rattle.acvp_store.proofs.RequestRanges.{requests_whole}
use Rattle.acvp_store.proofs.ReviewerRanges.{reviewers_joined}
use Rattle.acvp_store.proofs.SetRanges.{sets_joined}
use Rattle.acvp_audit.specs.Checked.{totals_of, plus, totals_to, IsFine, AreLeftAs, IsWholeAs, is_seeded}
use Rattle.acvp_audit.specs.Wrong.{AreWithin}
use Rattle.acvp_audit.specs.Read.{AreInTrees, AreRowsOf}
use Rattle.acvp_audit.specs.Private.Looks.{AreFineTo}
use Rattle.acvp_audit.specs.declared.damage.Totals.{Totals}
use Rattle.acvp_audit.specs.declared.table.Table.TheVariants as table
use Rattle.acvp_audit.proofs.Lists.{of_joined, numbered_joined}
use Rattle.acvp_audit.proofs.Mine.{objects_all, accounts_of, sessions_of, sets_of, objects_of, requests_of}
use Rattle.acvp_audit.proofs.Mine.{reviewers_of}

-- ---- one account after another

module _ (grades : Bool) (seeds : List (List ℕ)) (layout : Layout) (trees : Trees) where
  abbrev pub HasFine : ℕ → Totals → Type 0
  HasFine u more = (mine : Content) × IsFine grades seeds layout trees u mine × (more ≡ totals_of mine)

  same_totals : (f g : ℕ → Content) (n : ℕ) → ((v : ℕ) → v ≤ n → f v ≡ g v) → totals_to f n ≡ totals_to g n
  unfolding totals_to
  same_totals f g zero same = refl
  same_totals f g (suc n) same =
      ap₂ plus (same_totals f g n (λ v low. same v (omega (arith, low)))) (ap totals_of (same (suc n) (omega arith)))

  none_before : (n : Totals) → plus (record { accounts = 0; sessions = 0; sets = 0; requests = 0 }) n ≡ n
  none_before n =
      let accounts : 0 + n.accounts ≡ n.accounts = omega arith in
      let sessions : 0 + n.sessions ≡ n.sessions = omega arith in
      let sets : 0 + n.sets ≡ n.sets = omega arith in
      let requests : 0 + n.requests ≡ n.requests = omega arith in
      λ i. record { accounts = accounts i; sessions = sessions i; sets = sets i; requests = requests i }

  pub fine_first : (more : Totals) → HasFine 1 more → AreFineTo grades seeds layout trees 1 more
  unfolding totals_to
  fine_first more it = record {
    lists = λ v. it.0;
    fine = λ u some few. subst (λ k. IsFine grades seeds layout trees k it.0) (only u some few) it.1;
    counted = it.2 ∙ sym (none_before (totals_of it.0));
  }
    where
      only : (u : ℕ) → 0 < u → u ≤ 1 → 1 ≡ u
      only u some few = omega (arith, some, few)

  pub fine_next : (n : ℕ) (totals more : Totals) → AreFineTo grades seeds layout trees n totals → HasFine (suc n) more
      → AreFineTo grades seeds layout trees (suc n) (plus totals more)
  unfolding totals_to
  fine_next n totals more before it = record {
    lists = lists;
    fine = fine;
    counted = ap₂ plus (before.counted ∙ same_totals before.lists lists n earlier) (it.2 ∙ ap totals_of (sym last));
  }
    where
      lists : ℕ → Content
      lists v = if v == suc n then it.0 else before.lists v

      last : lists (suc n) ≡ it.0
      last = let on : (suc n == suc n) ≡ true = grind (arith, nat_tests) in rw on refl

      earlier : (v : ℕ) → v ≤ n → before.lists v ≡ lists v
      earlier v low = let off : (v == suc n) ≡ false = grind (arith, nat_tests, low) in rw off refl

      fine : (u : ℕ) → 0 < u → u ≤ suc n → IsFine grades seeds layout trees u (lists u)
      fine u some few = elim (cases_Bool (u == suc n)) [
        | inl is ↦
            let at : suc n ≡ u = grind (arith, nat_tests, is) in
            subst (λ k. IsFine grades seeds layout trees k (lists k)) at (subst
            (IsFine grades seeds layout trees (suc n)) (sym last) it.1)
        | inr isnt ↦
            let low : u ≤ n = grind (arith, nat_tests, isnt, few) in
            subst (IsFine grades seeds layout trees u) (earlier u low) (before.fine u some low)
      ]

  -- the number of the next account as the program reckons it
  pub fine_after : (n : ℕ) (totals more sum : Totals) → sum ≡ plus totals more
      → AreFineTo grades seeds layout trees n totals → HasFine (n + 1) more
      → AreFineTo grades seeds layout trees (n + 1) sum
  fine_after n totals more sum is before it =
      let next : suc n ≡ n + 1 = omega arith in
      subst (λ k. AreFineTo grades seeds layout trees k sum) next
      (subst (AreFineTo grades seeds layout trees (suc n)) (sym is)
      (fine_next n totals more before (subst (λ k. HasFine k more) (sym next) it)))

-- ---- what else is asked of vector sets

module _ (seeds : List (List ℕ)) where
  seeded_sets : (u : ℕ) (mine : Content) → first_broken (account_conditions seeds u mine) ≡ None
      → list_all (is_seeded seeds) mine.sets ≡ true
  unfolding account_conditions
  seeded_sets u mine none =
      let two = kept_conditions seeds u mine ++ certification_conditions mine in
      let three = (split (two ++ registration_conditions mine) (epoch_conditions mine)
      (none_broken (account_conditions seeds u mine) none)).0 in
      let left = (split two (registration_conditions mine) three).0 in
      let kept = (split (kept_conditions seeds u mine) (certification_conditions mine) left).0 in
      let rows = sets_hold seeds mine (parts seeds u mine kept).sets in
      let seeded = list_all_weaker (λ r. holds (set_row_conditions seeds mine r))
      (λ (r : SetRow). is_some (slice_get seeds r.epoch)) (λ r h. (set_holds seeds mine r h).seed) mine.sets rows in
      let disposed = list_all_weaker (λ r. holds (set_row_conditions seeds mine r))
      (λ (r : SetRow). of_all is_disposed r.graded) (λ r h. (set_holds seeds mine r h).disposed) mine.sets rows in
      all_both (λ (r : SetRow). is_some (slice_get seeds r.epoch))
      (λ r. of_all is_disposed r.graded) mine.sets seeded disposed

  seeded_to : (lists : ℕ → Content) (n : ℕ)
      → ((u : ℕ) → 0 < u → u ≤ n → first_broken (account_conditions seeds u (lists u)) ≡ None)
      → list_all (is_seeded seeds) (joined (λ u. (lists u).sets) n) ≡ true
  unfolding joined
  seeded_to lists zero none = refl
  seeded_to lists (suc n) none =
      list_all-append (is_seeded seeds) (joined (λ u. (lists u).sets) n) (lists (suc n)).sets
      ∙ joint _ _ (seeded_to lists n (λ u some few. none u some (omega (arith, few))))
      (seeded_sets (suc n) (lists (suc n)) (none (suc n) (omega arith) (omega arith)))

-- ---- all accounts

module _ (grades : Bool) (seeds : List (List ℕ)) (db : Database) (ours : IsOurs db)
    (inside : AreInTrees ours.layout db.trees) (within : AreWithin ours.layout db.trees) (totals : Totals)
    (all : AreFineTo grades seeds ours.layout db.trees 9999 totals) where
  abbrev list : ℕ → Content
  list = all.lists

  read : (u : ℕ) → 0 < u → u ≤ 9999 → AreRowsOf ours.layout db.trees u (list u)
  read u some few = (all.fine u some few).rows

  records : Content
  records = record {
    accounts = joined (λ u. (list u).accounts) 9999;
    sessions = joined (λ u. (list u).sessions) 9999;
    sets = joined (λ u. (list u).sets) 9999;
    objects = joined (λ u. (list u).objects) 9999;
    requests = joined (λ u. (list u).requests) 9999;
    reviewers = joined (λ u. (list u).reviewers) 9999;
  }

  -- ---- an account's rows among them

  own_rows : (u : ℕ) → 0 < u → u ≤ 9999 → rows_numbered u records ≡ list u
  unfolding rows_numbered records
  own_rows u some few = rw (
    of_joined (λ (row : AccountRow). row.number) (λ v. (list v).accounts) 9999 u some few
        (λ v there low. accounts_of ours.layout db.trees inside within v (list v) (read v there low)),
    of_joined (λ (row : SessionRow). owner_of row.number) (λ v. (list v).sessions) 9999 u some few
        (λ v there low. sessions_of ours.layout db.trees inside within v (list v) (read v there low)),
    of_joined (λ (row : SetRow). owner_of (row.number / 100)) (λ v. (list v).sets) 9999 u some few
        (λ v there low. sets_of ours.layout db.trees inside within v (list v) (read v there low)),
    of_joined (λ (row : ObjectRow). owner_of row.number) (λ v. (list v).objects) 9999 u some few
        (λ v there low. objects_of ours.layout db.trees inside within v (list v) (read v there low)),
    of_joined (λ (row : RequestRow). owner_of row.number) (λ v. (list v).requests) 9999 u some few
        (λ v there low. requests_of ours.layout db.trees inside within v (list v) (read v there low)),
    of_joined (λ (row : ReviewerRow). owner_of row.session) (λ v. (list v).reviewers) 9999 u some few
        (λ v there low. reviewers_of ours.layout db.trees inside within v (list v) (read v there low)),
  ) refl

  numbered : AreNumbered records
  unfolding records
  numbered = record {
    accounts = numbered_joined (λ (row : AccountRow). row.number) (λ v. (list v).accounts) 9999 (omega arith)
        (λ v there low. accounts_of ours.layout db.trees inside within v (list v) (read v there low));
    sessions = numbered_joined (λ (row : SessionRow). owner_of row.number) (λ v. (list v).sessions) 9999 (omega arith)
        (λ v there low. sessions_of ours.layout db.trees inside within v (list v) (read v there low));
    sets = numbered_joined (λ (row : SetRow). owner_of (row.number / 100)) (λ v. (list v).sets) 9999 (omega arith)
        (λ v there low. sets_of ours.layout db.trees inside within v (list v) (read v there low));
    objects = numbered_joined (λ (row : ObjectRow). owner_of row.number) (λ v. (list v).objects) 9999 (omega arith)
        (λ v there low. objects_of ours.layout db.trees inside within v (list v) (read v there low));
    requests = numbered_joined (λ (row : RequestRow). owner_of row.number) (λ v. (list v).requests) 9999 (omega arith)
        (λ v there low. requests_of ours.layout db.trees inside within v (list v) (read v there low));
    reviewers = numbered_joined (λ (row : ReviewerRow). owner_of row.session) (λ v. (list v).reviewers) 9999
        (omega arith) (λ v there low. reviewers_of ours.layout db.trees inside within v (list v) (read v there low));
  }

  few : (u : ℕ) → is_account_number u ≡ true → u ≤ 9999
  few u on = grind (arith, nat_tests, on)

  some : (u : ℕ) → is_account_number u ≡ true → 0 < u
  some u on = grind (arith, nat_tests, on)

  whole : IsWhole grades seeds records
  whole = numbered_whole records numbered
      (λ u on. subst (λ mine. first_broken (owner_conditions mine) ≡ None) (sym (own_rows u (some u on) (few u on)))
      (all.fine u (some u on) (few u on)).owners) grades seeds
      (λ u on. subst (λ mine. first_broken (all_conditions grades seeds u mine) ≡ None)
      (sym (own_rows u (some u on) (few u on))) (all.fine u (some u on) (few u on)).others)

  -- ---- the rows stand for them

  stand_objects : HoldsEntries object_columns (db.trees object_tree) (joined (λ u. (list u).objects) 9999)
  stand_objects =
      let test = is_column_between 2 in
      let rows = db.trees object_tree in
      let passes = all_weaker (IsRegisteredWithin 9999) (λ row. test (first_number 1) (last_number 9999) row ≡ true)
      (λ row is. column_test 2 row is.1.0 is.1.1 (first_number 1) (last_number 9999) ∙ is.1.2) rows
      (within table.Object) in
      let held = entries_joined object_columns test rows (λ u. (list u).objects) 9999 inside.objects
      (all_weaker (IsRegisteredWithin 9999) (IsNumbered object_columns test)
      (λ row is. (true, is.1.0, column_test 2 row is.1.0 is.1.1)) rows (within table.Object))
      (λ u there low. (objects_all ours.layout db.trees inside within u (list u) (read u there low)).kept) in
      subst (λ rs. HoldsEntries object_columns rs (joined (λ u. (list u).objects) 9999))
      (filter_all (test (first_number 1) (last_number 9999)) rows passes) held

  stand : Stands ours.layout db.trees records
  unfolding records
  stand = record {
    version = ours.version;
    accounts = joined_whole HoldsAccounts account_key (kept_nothing account_key account_row (λ a. refl))
        (kept_both account_key account_row (λ a. refl)) (λ n. n) (λ n. n) (omega arith) (λ n. omega arith)
        (λ n. omega arith) (λ n. omega arith) _ (λ u. (list u).accounts) 9999
        inside.accounts (λ u there low. (read u there low).tests.account_range) (within table.Account);
    sessions = sessions_whole _ (λ u. (list u).sessions) 9999 inside.sessions
        (λ u there low. (read u there low).tests.session_range) (within table.Session);
    sets = (sets_joined _ (λ u. (list u).sets) 9999 inside.sets (λ u there low. (read u there low).tests.set_range)
        (within table.Set)).kept;
    no_old_sets = ours.no_old_sets;
    objects = stand_objects;
    object_numbers = joined_all IsKeepable (λ u. (list u).objects) 9999
        (λ u there low. (objects_all ours.layout db.trees inside within u (list u) (read u there low)).numbers);
    requests = requests_whole _ (λ u. (list u).requests) 9999 inside.requests
        (λ u there low. (read u there low).entries.request_range) (within table.Request);
    reviewers = reviewers_joined _ (λ u. (list u).reviewers) 9999 inside.reviewers
        (λ u there low. (read u there low).entries.reviewer_rows) (within table.Reviewer);
  }

  joined_totals : (n : ℕ) → totals_to list n ≡ record {
    accounts = length (joined (λ u. (list u).accounts) n);
    sessions = length (joined (λ u. (list u).sessions) n);
    sets = length (joined (λ u. (list u).sets) n);
    requests = length (joined (λ u. (list u).requests) n);
  }
  unfolding totals_to joined
  joined_totals zero = refl
  joined_totals (suc n) =
      ap (λ t. plus t (totals_of (list (suc n)))) (joined_totals n)
      ∙ rw (
        length-append (joined (λ u. (list u).accounts) n) (list (suc n)).accounts,
        length-append (joined (λ u. (list u).sessions) n) (list (suc n)).sessions,
        length-append (joined (λ u. (list u).sets) n) (list (suc n)).sets,
        length-append (joined (λ u. (list u).requests) n) (list (suc n)).requests,
      )
      refl

  counted : totals ≡ totals_of records
  unfolding records
  counted = all.counted ∙ joined_totals 9999

  seeded : grades ≡ false → list_all (is_seeded seeds) records.sets ≡ true
  unfolding records
  seeded off = seeded_to seeds list 9999
      (λ u there low. subst (λ g. first_broken (all_conditions g seeds u (list u)) ≡ None) off
      (all.fine u there low).others)

left_as : (grades : Bool) (seeds : List (List ℕ)) (c : Content) → IsWhole grades seeds c
    → (grades ≡ false → list_all (is_seeded seeds) c.sets ≡ true) → AreLeftAs grades seeds c
left_as true seeds c is more = left seeds c is
left_as false seeds c is more = (
  whole_sound false seeds c is,
  whole_counted false seeds c is,
  more refl,
  whole_certified false seeds c is,
  whole_registered false seeds c is,
  whole_in_epochs false seeds c is,
)

pub is_whole : (grades : Bool) (seeds : List (List ℕ)) (db : Database) (ours : IsOurs db)
    → AreInTrees ours.layout db.trees → AreWithin ours.layout db.trees → (totals : Totals)
    → AreFineTo grades seeds ours.layout db.trees 9999 totals → IsWholeAs grades seeds ours.layout db.trees totals
is_whole grades seeds db ours inside within totals all = record {
  records = records grades seeds db ours inside within totals all;
  stand = stand grades seeds db ours inside within totals all;
  left = left_as grades seeds _ (whole grades seeds db ours inside within totals all)
      (seeded grades seeds db ours inside within totals all);
  counted = counted grades seeds db ours inside within totals all;
}
