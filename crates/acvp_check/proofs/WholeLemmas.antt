-- The conditions on all accounts' rows hold exactly where the records are kept.
use Rattle.std.proofs.Common.{◌≡◌, ℕ, ◌+◌, ◌/◌, ◌≤◌, Bool, true, false, List, [], ◌∷◌, ◌++◌, length, map, get_or}
use Rattle.std.proofs.Common.{None, Some}
use Rattle.std.proofs.Common.{refl, sym, ap, subst, ◌∙◌, inl, inr, arith}
use Rattle.std.specs.Prelude.{filter, not, ◌&&◌, ◌==◌, nat_lt, find, is_some, slice_get}
use Rattle.std.specs.List.{flat_map, list_all}
use Rattle.std.proofs.lemmas.Bool.{cases_Bool}
use Rattle.std.proofs.lemmas.Bool.Decides.{nat_tests}
use Rattle.std.proofs.lemmas.List.Sums.{AllPass-from_list_all, list_all-from_AllPass}
use Rattle.acvp_desk.specs.Certifications.{AreCertified, IsLeft}
use Rattle.acvp_desk.specs.Epochs.{AreInEpochs}
use Rattle.acvp_desk.specs.Registrations.{AreRegistered}
use Rattle.acvp_desk.specs.Kept.{IsGradedSet, IsGraded, IsKept}
use Rattle.acvp_mac.specs.Conditions.{first_broken}
use Rattle.acvp_tables.specs.Content.{Content, no_rows, is_live_in}
use Rattle.acvp_tables.specs.Counted.{is_counted, is_passed_in, IsCounted}
use Rattle.acvp_tables.specs.State.{State, SessionRecord, SetRecord, session_record, set_record, state_of, own}
use Rattle.acvp_tables.specs.State.{owner_of, is_account_number, is_account_row, has_rows, session_record_at, of_all}
use Rattle.acvp_tables.specs.State.{IsWellNumberedFor, IsWellNumbered, AreWellNumbered}
use Rattle.acvp_tables.specs.declared.rows.AccountRow.{AccountRow}
use Rattle.acvp_tables.specs.declared.rows.SessionRow.{SessionRow}
use Rattle.acvp_tables.specs.declared.rows.SetRow.{SetRow}
use Rattle.acvp_tables.specs.declared.rows.ObjectRow.{ObjectRow}
use Rattle.acvp_tables.specs.declared.rows.RequestRow.{RequestRow}
use Rattle.acvp_tables.specs.declared.rows.ReviewerRow.{ReviewerRow}
use Rattle.acvp_tables.proofs.KeptLemmas.{list_all_weaker, list_all-filter}
use Rattle.acvp_tables.proofs.Numbers.{by_class, eqb_same, filter-within, keyed, sessions_keyed}
use Rattle.acvp_check.specs.Conditions.{is_disposed, is_right, account_conditions, kept_conditions, own_row_conditions}
use Rattle.acvp_check.specs.Conditions.{session_conditions, set_row_conditions, set_conditions, request_conditions}
use Rattle.acvp_check.specs.Conditions.{object_conditions, all_kinds_conditions}
use Rattle.acvp_check.specs.Conditions.{reviewer_conditions, certification_conditions, is_beyond_kept}
use Rattle.acvp_check.specs.Conditions.{epoch_conditions, registration_conditions}
use Rattle.acvp_check.specs.Conditions.{verdict_conditions, all_conditions}
use Rattle.acvp_check.specs.Owners.{is_of, is_in, account_owner, session_owner, set_owner, object_owner, request_owner}
use Rattle.acvp_check.specs.Owners.{reviewer_owner, session_owners, registry_owners, owner_conditions}
use Rattle.acvp_check.specs.Rows.{rows_of, rows_numbered}
use Rattle.acvp_check.specs.Whole.{IsWhole}
use Rattle.acvp_check.proofs.Holds.{holds, none_broken, all_held, both, joint, all_both, at_passing, each_passes}
use Rattle.acvp_check.proofs.Holds.{none_without}
use Rattle.acvp_check.proofs.Joins.{found_any}
use Rattle.acvp_check.proofs.AccountLemmas.{split, join, of_each, to_each, rows_all, well, counted, parts, sets_hold}
use Rattle.acvp_check.proofs.AccountLemmas.{set_holds}
use Rattle.acvp_check.specs.declared.finding.Finding.{Finding}
use Rattle.acvp_desk.proofs.FirstBroken.{front_held}
use Rattle.acvp_check.proofs.CertificationLemmas.{all_certified, certification_found}
use Rattle.acvp_check.proofs.CertificationLemmas.{certifications_hold, either_broken, one}
use Rattle.acvp_check.proofs.AnsweredLemmas.{all_answered, answer_found, answered_for, both_hold, each_right}
use Rattle.acvp_check.proofs.EpochLemmas.{all_in_epochs, epoch_found, epochs_hold}
use Rattle.acvp_check.proofs.RegistrationLemmas.{all_registered, registration_found, registrations_hold}
use Rattle.acvp_check.proofs.GradedLemmas.{graded_set, set_graded}
use Rattle.acvp_check.proofs.HeldLemmas.{held, last_holds}

-- ---- an account's rows

records_filter : {R Q : Type 0} (h : R → Q) (p : Q → Bool) (rows : List R)
    → map h (filter (λ r. p (h r)) rows) ≡ filter p (map h rows)
records_filter h p [] = refl
records_filter h p (r ∷ rows) = grind (arith, nat_tests, records_filter h p rows)

pub rows_state : (u : ℕ) (c : Content) → state_of (rows_of u c) ≡ own u (state_of c)
unfolding rows_of state_of own
rows_state u c = rw (
  records_filter session_record (λ row. row.account == u) c.sessions,
  records_filter set_record (λ row. owner_of row.session == u) c.sets,
) refl

-- ---- counters

-- a session's counters count the same sets among its account's
live_own : (u n : ℕ) (sets : List SetRow) → owner_of n ≡ u
    → filter (is_live_in n) (filter (λ s. owner_of s.session == u) sets) ≡ filter (is_live_in n) sets
live_own u n sets of = filter-within (is_live_in n) (λ (s : SetRow). owner_of s.session == u)
    (λ s e. grind (arith, nat_tests, e, of)) sets

passed_own : (u n : ℕ) (sets : List SetRow) → owner_of n ≡ u
    → filter (is_passed_in n) (filter (λ s. owner_of s.session == u) sets) ≡ filter (is_passed_in n) sets
passed_own u n sets of = filter-within (is_passed_in n) (λ (s : SetRow). owner_of s.session == u) is_own sets
  where
    is_own : (s : SetRow) → is_passed_in n s ≡ true → (owner_of s.session == u) ≡ true
    is_own s e =
        let live = both (s.session == n) (not s.cancelled) (both (is_live_in n s) _ e).0 in
        grind (arith, nat_tests, live.0, of)

counted_own : (u : ℕ) (sets : List SetRow) (row : SessionRow) → owner_of row.number ≡ u
    → is_counted (filter (λ s. owner_of s.session == u) sets) row ≡ is_counted sets row
counted_own u sets row of = rw (live_own u row.number sets of, passed_own u row.number sets of) refl

-- ---- whose each row is

pub record Owned (c : Content) : Type 0 where
  pub accounts : list_all (λ row. is_account_number row.number) c.accounts ≡ true
  pub sessions : list_all (λ row. is_of row.account row.number) c.sessions ≡ true
  pub sets : list_all (λ row. is_in row.session row.number) c.sets ≡ true
  pub objects : list_all (λ row. is_of row.account row.number) c.objects ≡ true
  pub requests : list_all (λ row. is_of row.account row.number) c.requests ≡ true
  pub reviewers : list_all (λ row. is_account_number (owner_of row.session)) c.reviewers ≡ true

pub owned : (c : Content) → holds (owner_conditions c) ≡ true → Owned c
unfolding owner_conditions session_owners registry_owners
owned c e =
    let p = split (session_owners c) (registry_owners c) e in
    let a = split (flat_map object_owner c.objects ++ flat_map request_owner c.requests)
    (flat_map reviewer_owner c.reviewers) p.1 in
    let b = split (flat_map object_owner c.objects) (flat_map request_owner c.requests) a.0 in
    let f = split (flat_map account_owner c.accounts ++ flat_map session_owner c.sessions)
    (flat_map set_owner c.sets) p.0 in
    let h = split (flat_map account_owner c.accounts) (flat_map session_owner c.sessions) f.0 in
    record {
      accounts = one (λ row. is_account_number row.number) c.accounts (of_each account_owner c.accounts h.0);
      sessions = one (λ row. is_of row.account row.number) c.sessions (of_each session_owner c.sessions h.1);
      sets = one (λ row. is_in row.session row.number) c.sets (of_each set_owner c.sets f.1);
      objects = one (λ row. is_of row.account row.number) c.objects (of_each object_owner c.objects b.0);
      requests = one (λ row. is_of row.account row.number) c.requests (of_each request_owner c.requests b.1);
      reviewers = one (λ row. is_account_number (owner_of row.session)) c.reviewers
          (of_each reviewer_owner c.reviewers a.1);
    }

pub not_at : (n u : ℕ) → is_account_number n ≡ true → is_account_number u ≡ false → (n == u) ≡ false
not_at n u is none = elim (cases_Bool (n == u)) [
  | inl same ↦ let at : n ≡ u = grind (arith, nat_tests, same) in
      let both_ways : true ≡ false = sym (subst (λ k. is_account_number k ≡ true) at is) ∙ none in
      absurd (cc (both_ways))
  | inr other ↦ other
]

-- a number that is no account's has no rows
no_own_rows : (u : ℕ) (c : Content) → Owned c → is_account_number u ≡ false → rows_of u c ≡ no_rows
unfolding rows_of
no_own_rows u c is none = rw (
  none_without (λ (row : AccountRow). is_account_number row.number) (λ row. row.number == u)
      (λ row e. not_at row.number u e none) c.accounts is.accounts,
  none_without (λ (row : SessionRow). is_of row.account row.number) (λ row. row.account == u)
      (λ row e. not_at row.account u (both (is_account_number row.account) _ e).0 none) c.sessions is.sessions,
  none_without (λ (row : SetRow). is_in row.session row.number) (λ row. owner_of row.session == u)
      (λ row e. not_at (owner_of row.session) u (both (is_account_number (owner_of row.session)) _ e).0 none) c.sets
      is.sets,
  none_without (λ (row : ObjectRow). is_of row.account row.number) (λ row. row.account == u)
      (λ row e. not_at row.account u (both (is_account_number row.account) _ e).0 none) c.objects is.objects,
  none_without (λ (row : RequestRow). is_of row.account row.number) (λ row. row.account == u)
      (λ row e. not_at row.account u (both (is_account_number row.account) _ e).0 none) c.requests is.requests,
  none_without (λ (row : ReviewerRow). is_account_number (owner_of row.session)) (λ row. owner_of row.session == u)
      (λ row e. not_at (owner_of row.session) u e none) c.reviewers is.reviewers,
) refl

-- tests that agree on such rows select the same
same_selected : {R : Type 0} (p q such : R → Bool) → ((r : R) → such r ≡ true → p r ≡ q r) → (rows : List R)
    → list_all such rows ≡ true → filter p rows ≡ filter q rows
same_selected p q such agree [] all = refl
same_selected p q such agree (r ∷ rows) all = grind (arith, nat_tests, all, agree r, same_selected p q such agree rows)

of_same : (u account number : ℕ) → is_of account number ≡ true → (owner_of number == u) ≡ (account == u)
of_same u account number e =
    let two = both (is_account_number account) (owner_of number == account) e in
    let named : owner_of number ≡ account = grind (arith, nat_tests, two.1) in
    ap (λ n. n == u) named

in_same : (u session number : ℕ) → is_in session number ≡ true
    → (owner_of (number / 100) == u) ≡ (owner_of session == u)
in_same u session number e =
    let two = both (is_account_number (owner_of session)) ((number / 100) == session) e in
    let named : number / 100 ≡ session = grind (arith, nat_tests, two.1) in
    ap (λ n. owner_of n == u) named

pub numbers_select : (u : ℕ) (c : Content) → first_broken (owner_conditions c) ≡ None → rows_numbered u c ≡ rows_of u c
unfolding rows_of rows_numbered
numbers_select u c none =
    let is = owned c (none_broken (owner_conditions c) none) in
    rw (
      same_selected (λ (row : SessionRow). owner_of row.number == u) (λ row. row.account == u)
          (λ row. is_of row.account row.number) (λ row e. of_same u row.account row.number e) c.sessions is.sessions,
      same_selected (λ (row : SetRow). owner_of (row.number / 100) == u) (λ row. owner_of row.session == u)
          (λ row. is_in row.session row.number) (λ row e. in_same u row.session row.number e) c.sets is.sets,
      same_selected (λ (row : ObjectRow). owner_of row.number == u) (λ row. row.account == u)
          (λ row. is_of row.account row.number) (λ row e. of_same u row.account row.number e) c.objects is.objects,
      same_selected (λ (row : RequestRow). owner_of row.number == u) (λ row. row.account == u)
          (λ row. is_of row.account row.number) (λ row e. of_same u row.account row.number e) c.requests is.requests,
    ) refl

none_wrong : (grades : Bool) (seeds : List (List ℕ)) (u : ℕ) → holds (all_conditions grades seeds u no_rows) ≡ true
unfolding account_conditions own_row_conditions session_conditions set_conditions request_conditions object_conditions
    all_kinds_conditions reviewer_conditions certification_conditions registration_conditions epoch_conditions
    verdict_conditions state_of
none_wrong true seeds u = refl
none_wrong false seeds u = refl

all_hold : (grades : Bool) (seeds : List (List ℕ)) (c : Content) → IsWhole grades seeds c → (u : ℕ)
    → holds (all_conditions grades seeds u (rows_of u c)) ≡ true
all_hold grades seeds c is u = elim (cases_Bool (is_account_number u)) [
  | inl on ↦ none_broken (all_conditions grades seeds u (rows_of u c)) (is.accounts u on)
  | inr off ↦ subst (λ mine. holds (all_conditions grades seeds u mine) ≡ true)
      (sym (no_own_rows u c (owned c (none_broken (owner_conditions c) is.owners)) off)) (none_wrong grades seeds u)
]

-- ---- whole records are kept

-- without the verdicts
plain : (grades : Bool) (seeds : List (List ℕ)) (u : ℕ) (mine : Content)
    → holds (all_conditions grades seeds u mine) ≡ true → holds (account_conditions seeds u mine) ≡ true
plain true seeds u mine e = (split (account_conditions seeds u mine) (verdict_conditions seeds mine) e).0
plain false seeds u mine e = e

-- what kept records meet, and what is asked besides of certifications, of registrations and of epochs
record Four (seeds : List (List ℕ)) (u : ℕ) (mine : Content) : Type 0 where
  kept : holds (kept_conditions seeds u mine) ≡ true
  certified : holds (certification_conditions mine) ≡ true
  registered : holds (registration_conditions mine) ≡ true
  epochs : holds (epoch_conditions mine) ≡ true

four : (seeds : List (List ℕ)) (u : ℕ) (mine : Content) → holds (account_conditions seeds u mine) ≡ true
    → Four seeds u mine
unfolding account_conditions
four seeds u mine e =
    let two = kept_conditions seeds u mine ++ certification_conditions mine in
    let last = split (two ++ registration_conditions mine) (epoch_conditions mine) e in
    let next = split two (registration_conditions mine) last.0 in
    let first = split (kept_conditions seeds u mine) (certification_conditions mine) next.0 in
    record { kept = first.0; certified = first.1; registered = next.1; epochs = last.1 }

module _ (grades : Bool) (seeds : List (List ℕ)) (c : Content) (is : IsWhole grades seeds c) where
  account_holds : (u : ℕ) → holds (account_conditions seeds u (rows_of u c)) ≡ true
  account_holds u = plain grades seeds u (rows_of u c) (all_hold grades seeds c is u)

  part_hold : (u : ℕ) → Four seeds u (rows_of u c)
  part_hold u = four seeds u (rows_of u c) (account_holds u)

  pub whole_sound : AreWellNumbered c
  unfolding IsWellNumbered
  whole_sound = λ u. subst (IsWellNumberedFor u) (rows_state u c) (well seeds u (rows_of u c) (part_hold u).kept)

  pub whole_certified : AreCertified c
  whole_certified = all_certified c whole_sound (λ u. (part_hold u).certified)

  pub whole_registered : AreRegistered c
  whole_registered = all_registered c whole_sound (λ u. well seeds u (rows_of u c) (part_hold u).kept)
      (λ u. (part_hold u).registered)

  pub whole_in_epochs : AreInEpochs c
  whole_in_epochs = all_in_epochs c (λ u. (part_hold u).epochs)

  pub whole_counted : IsCounted c
  unfolding rows_of
  whole_counted =
      let among : list_all (λ (row : SessionRow).
      is_counted (filter (λ s. owner_of s.session == row.account) c.sets) row) c.sessions ≡ true =
      by_class (λ a b. a == b) (λ (row : SessionRow). row.account)
      (λ u row. is_counted (filter (λ s. owner_of s.session == u) c.sets) row) eqb_same c.sessions
      (λ u. counted seeds u (rows_of u c) (part_hold u).kept) in
      list_all_weaker (λ (row : SessionRow). is_of row.account row.number && is_counted
      (filter (λ s. owner_of s.session == row.account) c.sets) row) (is_counted c.sets)
      (λ row e.
      let p = both (is_of row.account row.number)
      (is_counted (filter (λ s. owner_of s.session == row.account) c.sets) row) e in
      let of : owner_of row.number ≡ row.account = named row.account row.number p.0 in
      sym (counted_own row.account c.sets row of) ∙ p.1)
      c.sessions (all_both (λ (row : SessionRow). is_of row.account row.number)
      (λ row. is_counted (filter (λ s. owner_of s.session == row.account) c.sets) row) c.sessions
      (owned c (none_broken (owner_conditions c) is.owners)).sessions among)
    where
      named : (u n : ℕ) → is_of u n ≡ true → owner_of n ≡ u
      named u n e = let p = both (is_account_number u) (owner_of n == u) e in grind (arith, nat_tests, p.1)

module _ (seeds : List (List ℕ)) (c : Content) (is : IsWhole true seeds c) where
  verdicts_hold : (u : ℕ) → holds (verdict_conditions seeds (rows_of u c)) ≡ true
  verdicts_hold u = (split (account_conditions seeds u (rows_of u c)) (verdict_conditions seeds (rows_of u c))
      (all_hold true seeds c is u)).1

  set_bool : SetRow → Bool
  set_bool row = is_some (slice_get seeds row.epoch) && (of_all is_disposed row.graded && is_right seeds row)

  sets_graded : (u : ℕ) → list_all set_bool (filter (λ row. owner_of row.session == u) c.sets) ≡ true
  unfolding rows_of verdict_conditions set_bool
  sets_graded u =
      let mine = rows_of u c in
      let rows = sets_hold seeds mine (parts seeds u mine (part_hold true seeds c is u).kept).sets in
      let seeded = list_all_weaker (λ r. holds (set_row_conditions seeds mine r))
      (λ (r : SetRow). is_some (slice_get seeds r.epoch)) (λ r h. (set_holds seeds mine r h).seed) mine.sets rows in
      let disposed = list_all_weaker (λ r. holds (set_row_conditions seeds mine r))
      (λ (r : SetRow). of_all is_disposed r.graded) (λ r h. (set_holds seeds mine r h).disposed) mine.sets rows in
      let right = each_right seeds mine (verdicts_hold u) in
      all_both (λ (r : SetRow). is_some (slice_get seeds r.epoch))
      (λ r. of_all is_disposed r.graded && is_right seeds r) mine.sets seeded
      (all_both (λ (r : SetRow). of_all is_disposed r.graded) (is_right seeds) mine.sets disposed right)

  whole_graded : IsGraded seeds c
  unfolding set_bool
  whole_graded =
      let all : list_all set_bool c.sets ≡ true =
      by_class (λ a b. a == b) (λ (row : SetRow). owner_of row.session)
      (λ u row. set_bool row) eqb_same c.sets sets_graded in
      λ k d l. graded (get_or c.sets k d) (AllPass-from_list_all set_bool c.sets all k d l)
    where
      graded : (row : SetRow) → set_bool row ≡ true → IsGradedSet seeds row
      graded row e =
          let p = both (is_some (slice_get seeds row.epoch)) (of_all is_disposed row.graded && is_right seeds row) e in
          let q = both (of_all is_disposed row.graded) (is_right seeds row) p.1 in
          graded_set seeds row p.0 q.0 q.1

  pub kept : IsKept seeds c
  kept = record { sound = whole_sound true seeds c is; counted = whole_counted true seeds c is; graded = whole_graded }

  pub left : IsLeft seeds c
  left = record {
    kept = kept;
    certified = whole_certified true seeds c is;
    registered = whole_registered true seeds c is;
    epochs = whole_in_epochs true seeds c is;
    answered = all_answered seeds c verdicts_hold;
  }

-- ---- kept records meet the conditions but those on certifications, registrations, epochs and answers

pub well_for : (seeds : List (List ℕ)) (c : Content) → IsKept seeds c → (u : ℕ)
    → IsWellNumberedFor u (state_of (rows_of u c))
unfolding IsWellNumbered
well_for seeds c is u = subst (IsWellNumberedFor u) (sym (rows_state u c)) (is.sound u)

module _ (seeds : List (List ℕ)) (c : Content) (is : IsKept seeds c) where
  wells : (u : ℕ) → IsWellNumberedFor u (state_of (rows_of u c))
  wells = well_for seeds c is

  keyed_for : (u : ℕ) → list_all (λ (row : SessionRow). owner_of row.number == u) (rows_of u c).sessions ≡ true
  unfolding state_of
  keyed_for u = rows_all session_record (λ row. owner_of row.number == u) (rows_of u c).sessions
      (sessions_keyed u (state_of (rows_of u c)) (wells u))

  pub counted_for : (u : ℕ) → list_all (is_counted (rows_of u c).sets) (rows_of u c).sessions ≡ true
  unfolding rows_of
  counted_for u =
      list_all_weaker (λ (row : SessionRow). (owner_of row.number == u) && is_counted c.sets row)
      (is_counted (filter (λ s. owner_of s.session == u) c.sets))
      (λ row e.
      let p = both (owner_of row.number == u) (is_counted c.sets row) e in
      let of : owner_of row.number ≡ u = grind (arith, nat_tests, p.0) in
      counted_own u c.sets row of ∙ p.1)
      (filter (λ row. row.account == u) c.sessions)
      (all_both (λ (row : SessionRow). owner_of row.number == u) (is_counted c.sets)
      (filter (λ row. row.account == u) c.sessions) (keyed_for u)
      (list_all-filter (is_counted c.sets) (λ row. row.account == u) c.sessions is.counted))

  seeded_for : (u : ℕ) → list_all (λ row. is_some (slice_get seeds row.epoch)) (rows_of u c).sets ≡ true
  unfolding rows_of
  seeded_for u = list_all-filter (λ (row : SetRow). is_some (slice_get seeds row.epoch))
      (λ row. owner_of row.session == u) c.sets
      (list_all-from_AllPass (λ (row : SetRow). is_some (slice_get seeds row.epoch)) c.sets
      (λ k d l. (set_graded seeds (get_or c.sets k d) (is.graded k d l)).there))

  disposed_for : (u : ℕ) → list_all (λ row. of_all is_disposed row.graded) (rows_of u c).sets ≡ true
  unfolding rows_of
  disposed_for u = list_all-filter (λ (row : SetRow). of_all is_disposed row.graded)
      (λ row. owner_of row.session == u) c.sets
      (list_all-from_AllPass (λ (row : SetRow). of_all is_disposed row.graded) c.sets
      (λ k d l. (set_graded seeds (get_or c.sets k d) (is.graded k d l)).disposed))

  right_for : (u : ℕ) → list_all (is_right seeds) (rows_of u c).sets ≡ true
  unfolding rows_of
  right_for u = list_all-filter (is_right seeds) (λ row. owner_of row.session == u) c.sets
      (list_all-from_AllPass (is_right seeds) c.sets
      (λ k d l. (set_graded seeds (get_or c.sets k d) (is.graded k d l)).right))

  kept_for : (u : ℕ) → holds (kept_conditions seeds u (rows_of u c)) ≡ true
  kept_for u = held seeds u (rows_of u c) (wells u) (counted_for u) (seeded_for u) (disposed_for u)

  -- so what is wrong is with a certification, a registration, an epoch or an answer
  pub kept_tells : (grades : Bool) (u : ℕ) (found : Finding)
      → first_broken (all_conditions grades seeds u (rows_of u c)) ≡ Some found
      → is_beyond_kept found.wrong ≡ true
  unfolding account_conditions
  kept_tells grades u found broken = go grades broken
    where
      mine : Content
      mine = rows_of u c

      certified : first_broken (kept_conditions seeds u mine ++ certification_conditions mine) ≡ Some found
          → is_beyond_kept found.wrong ≡ true
      certified broken = certification_found mine found
          (sym (front_held (kept_conditions seeds u mine) (certification_conditions mine)
          (all_held (kept_conditions seeds u mine) (kept_for u))) ∙ broken)

      registered : first_broken (kept_conditions seeds u mine ++ certification_conditions mine
          ++ registration_conditions mine) ≡ Some found → is_beyond_kept found.wrong ≡ true
      registered broken = elim (either_broken (kept_conditions seeds u mine ++ certification_conditions mine)
          (registration_conditions mine) found broken) [
            | inl first ↦ certified first
            | inr last ↦ registration_found mine found last
          ]

      plainly : first_broken (account_conditions seeds u mine) ≡ Some found → is_beyond_kept found.wrong ≡ true
      plainly broken = elim (either_broken (kept_conditions seeds u mine ++ certification_conditions mine
          ++ registration_conditions mine) (epoch_conditions mine) found broken) [
            | inl first ↦ registered first
            | inr last ↦ epoch_found mine found last
          ]

      go : (grades : Bool) → first_broken (all_conditions grades seeds u mine) ≡ Some found
          → is_beyond_kept found.wrong ≡ true
      go false broken = plainly broken
      go true broken = elim (either_broken (account_conditions seeds u mine) (verdict_conditions seeds mine) found
          broken) [
            | inl first ↦ plainly first
            | inr last ↦ answer_found seeds mine found (right_for u) last
          ]

-- ---- records that are left break no condition

module _ (seeds : List (List ℕ)) (c : Content) (left : IsLeft seeds c) where
  account_for : (u : ℕ) → holds (account_conditions seeds u (rows_of u c)) ≡ true
  unfolding account_conditions
  account_for u =
      let mine = rows_of u c in
      let two = kept_conditions seeds u mine ++ certification_conditions mine in
      join (two ++ registration_conditions mine) (epoch_conditions mine)
      (join two (registration_conditions mine)
      (join (kept_conditions seeds u mine) (certification_conditions mine) (kept_for seeds c left.kept u)
      (certifications_hold c left.kept.sound (well_for seeds c left.kept) left.certified u))
      (registrations_hold c left.kept.sound (well_for seeds c left.kept) left.registered u))
      (epochs_hold c left.epochs u)

  pub unbroken : (grades : Bool) (u : ℕ) → first_broken (all_conditions grades seeds u (rows_of u c)) ≡ None
  unbroken true u = all_held (all_conditions true seeds u (rows_of u c))
      (join (account_conditions seeds u (rows_of u c)) (verdict_conditions seeds (rows_of u c)) (account_for u)
      (both_hold seeds (rows_of u c) (right_for seeds c left.kept u) (answered_for seeds c left.answered u)))
  unbroken false u = all_held (all_conditions false seeds u (rows_of u c)) (account_for u)

-- ---- whose the rows of kept records are

found_some : {R : Type 0} (p : R → Bool) (rows : List R) → is_some (find p rows) ≡ true → 1 ≤ length rows
found_some p [] e = absurd (cc)
found_some p (r ∷ rows) e = omega arith

-- what holds of each where there is one
where_some : {R : Type 0} (p : R → Bool) (rows : List R) → (1 ≤ length rows → (r : R) → p r ≡ true)
    → list_all p rows ≡ true
where_some p [] is = refl
where_some p (r ∷ rows) is = joint (p r) (list_all p rows) (is (omega arith) r) (each_passes p (is (omega arith)) rows)

-- an account that has rows is there, by an account's number
numbered_account : (u : ℕ) (mine : State) → IsWellNumberedFor u mine → has_rows mine ≡ true → is_account_number u ≡ true
numbered_account u mine well some =
    at_passing (λ (row : AccountRow). is_account_number row.number) (λ row. row.number == u) (is_account_number u)
    (λ row e. ap is_account_number (same row e)) mine.accounts
    (list_all_weaker is_account_row (λ row. is_account_number row.number)
    (λ row e. (both (is_account_number row.number) (length row.secret == 32) e).0) mine.accounts well.accounts)
    (sym (found_any (λ (row : AccountRow). row.number == u) mine.accounts) ∙ well.there some)
  where
    same : (row : AccountRow) → (row.number == u) ≡ true → row.number ≡ u
    same row e = grind (arith, nat_tests, e)

has_some : (n m k : ℕ) → 1 ≤ n + m + k → nat_lt 0 (n + m + k) ≡ true
has_some n m k e = grind (arith, nat_tests, e)

module _ (state : State) (sound : IsWellNumbered state) where
  of_sessions : list_all (λ row. is_account_number row.account) state.sessions ≡ true
  unfolding IsWellNumbered own
  of_sessions = by_class (λ a b. a == b) (λ (row : SessionRecord). row.account)
      (λ u row. is_account_number u) eqb_same state.sessions
      (λ u. let mine = own u state in where_some (λ (row : SessionRecord). is_account_number u) mine.sessions
      (λ some row. numbered_account u mine (sound u)
      (has_some (length mine.sessions) (length mine.objects) (length mine.requests) (omega (arith, some)))))

  of_objects : list_all (λ row. is_account_number row.account) state.objects ≡ true
  unfolding IsWellNumbered own
  of_objects = by_class (λ a b. a == b) (λ (row : ObjectRow). row.account)
      (λ u row. is_account_number u) eqb_same state.objects
      (λ u. let mine = own u state in where_some (λ (row : ObjectRow). is_account_number u) mine.objects
      (λ some row. numbered_account u mine (sound u)
      (has_some (length mine.sessions) (length mine.objects) (length mine.requests) (omega (arith, some)))))

  of_requests : list_all (λ row. is_account_number row.account) state.requests ≡ true
  unfolding IsWellNumbered own
  of_requests = by_class (λ a b. a == b) (λ (row : RequestRow). row.account)
      (λ u row. is_account_number u) eqb_same state.requests
      (λ u. let mine = own u state in where_some (λ (row : RequestRow). is_account_number u) mine.requests
      (λ some row. numbered_account u mine (sound u)
      (has_some (length mine.sessions) (length mine.objects) (length mine.requests) (omega (arith, some)))))

  -- a row of a session that is there
  of_session : (u s : ℕ) → is_some (session_record_at s (own u state).sessions) ≡ true → is_account_number u ≡ true
  unfolding IsWellNumbered
  of_session u s there =
      let mine = own u state in
      let some = found_some (λ (row : SessionRecord). row.number == s) mine.sessions there in
      numbered_account u mine (sound u)
      (has_some (length mine.sessions) (length mine.objects) (length mine.requests) (omega (arith, some)))

  of_sets : list_all (λ row. is_account_number (owner_of row.session)) state.sets ≡ true
  unfolding IsWellNumbered own
  of_sets = by_class (λ a b. a == b) (λ (row : SetRecord). owner_of row.session)
      (λ u row. is_account_number u) eqb_same state.sets
      (λ u. list_all_weaker (λ (row : SetRecord). is_some (session_record_at row.session (own u state).sessions))
      (λ row. is_account_number u)
      (λ row there. of_session u row.session there) (own u state).sets (sound u).set_sessions)

  of_reviewers : list_all (λ row. is_account_number (owner_of row.session)) state.reviewers ≡ true
  unfolding IsWellNumbered own
  of_reviewers = by_class (λ a b. a == b) (λ (row : ReviewerRow). owner_of row.session)
      (λ u row. is_account_number u) eqb_same state.reviewers
      (λ u. list_all_weaker (λ (row : ReviewerRow). is_some (session_record_at row.session (own u state).sessions))
      (λ row. is_account_number u)
      (λ row there. of_session u row.session there) (own u state).reviewers (sound u).reviewed)

  of_accounts : list_all (λ row. is_account_number row.number) state.accounts ≡ true
  unfolding IsWellNumbered own
  of_accounts = by_class (λ a b. a == b) (λ (row : AccountRow). row.number)
      (λ u row. is_account_number row.number) eqb_same state.accounts
      (λ u. list_all_weaker is_account_row (λ row. is_account_number row.number)
      (λ row e. (both (is_account_number row.number) (length row.secret == 32) e).0) (own u state).accounts
      (sound u).accounts)

pub owners_hold : (c : Content) → Owned c → holds (owner_conditions c) ≡ true
unfolding owner_conditions session_owners registry_owners
owners_hold c is =
    let h = to_each account_owner c.accounts
    (last_holds (λ row. is_account_number row.number) c.accounts is.accounts) in
    let f = to_each session_owner c.sessions
    (last_holds (λ row. is_of row.account row.number) c.sessions is.sessions) in
    let d = to_each set_owner c.sets (last_holds (λ row. is_in row.session row.number) c.sets is.sets) in
    let b = to_each object_owner c.objects (last_holds (λ row. is_of row.account row.number) c.objects is.objects) in
    let a = to_each request_owner c.requests
    (last_holds (λ row. is_of row.account row.number) c.requests is.requests) in
    let r = to_each reviewer_owner c.reviewers
    (last_holds (λ row. is_account_number (owner_of row.session)) c.reviewers is.reviewers) in
    let two = flat_map account_owner c.accounts ++ flat_map session_owner c.sessions in
    let four = flat_map object_owner c.objects ++ flat_map request_owner c.requests in
    let front = join two (flat_map set_owner c.sets)
    (join (flat_map account_owner c.accounts) (flat_map session_owner c.sessions) h f) d in
    let rest = join four (flat_map reviewer_owner c.reviewers)
    (join (flat_map object_owner c.objects) (flat_map request_owner c.requests) b a) r in
    join (session_owners c) (registry_owners c) front rest

pub kept_owned : (seeds : List (List ℕ)) (c : Content) → IsKept seeds c → Owned c
unfolding state_of
kept_owned seeds c is =
    let state = state_of c in
    let tells = keyed state is.sound in record {
      accounts = of_accounts state is.sound;
      sessions = all_both (λ row. is_account_number row.account) (λ row. owner_of row.number == row.account) c.sessions
          (rows_all session_record (λ row. is_account_number row.account) c.sessions (of_sessions state is.sound))
          (rows_all session_record (λ row. owner_of row.number == row.account) c.sessions tells.sessions);
      sets = all_both (λ row. is_account_number (owner_of row.session))
          (λ row. (row.number / 100) == row.session) c.sets
          (rows_all set_record (λ row. is_account_number (owner_of row.session)) c.sets (of_sets state is.sound))
          (rows_all set_record (λ row. (row.number / 100) == row.session) c.sets tells.sets);
      objects = all_both (λ row. is_account_number row.account) (λ row. owner_of row.number == row.account) c.objects
          (of_objects state is.sound) tells.objects;
      requests = all_both (λ row. is_account_number row.account) (λ row. owner_of row.number == row.account) c.requests
          (of_requests state is.sound) tells.requests;
      reviewers = of_reviewers state is.sound;
    }

pub owners_unbroken : (seeds : List (List ℕ)) (c : Content) → IsKept seeds c → first_broken (owner_conditions c) ≡ None
owners_unbroken seeds c is = all_held (owner_conditions c) (owners_hold c (kept_owned seeds c is))
