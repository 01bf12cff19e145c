-- What holds of well numbered rows, in words; and changes of accounts, sets and reviewers keep an account's rows so.
use Rattle.std.proofs.Common.{◌≡◌, ℕ, ◌≤◌, ◌<◌, Bool, true, false, List, [], ◌∷◌, ◌++◌, length, refl, subst, ap, ◌∙◌}
use Rattle.std.proofs.Common.{arith}
use Rattle.std.specs.Prelude.{filter, not, is_some, ◌==◌, ◌&&◌}
use Rattle.std.specs.List.{list_all, list_any}
use Rattle.std.proofs.lemmas.Bool.Decides.{nat_tests}
use Rattle.acvp_tables.specs.Content.{account_at, is_reviewer}
use Rattle.acvp_tables.specs.State.{State, SessionRecord, SetRecord, first_of_session, session_record_at, sets_in}
use Rattle.acvp_tables.specs.State.{is_account_number, is_account_row, has_rows, has_registered_as, of_all, certifies}
use Rattle.acvp_tables.specs.State.{IsWellNumberedFor}
use Rattle.acvp_tables.specs.Changes.{changed, is_account, with_step, disabled, new_account, is_pair, with_reviewer}
use Rattle.acvp_tables.specs.StateChanges.{after_state, after_order_state, is_set_record, answered_record}
use Rattle.acvp_tables.specs.StateChanges.{cancelled_set_record}
use Rattle.acvp_tables.specs.Next.{IsNextFor, IsNextOrderFor}
use Rattle.acvp_tables.specs.declared.rows.AccountRow.{AccountRow}
use Rattle.acvp_tables.specs.declared.rows.ObjectRow.{ObjectRow}
use Rattle.acvp_tables.specs.declared.rows.RequestRow.{RequestRow}
use Rattle.acvp_tables.specs.declared.rows.ReviewerRow.{ReviewerRow}
use Rattle.acvp_tables.specs.declared.change.Change.TheVariants as change
use Rattle.acvp_tables.specs.declared.change.OrderChange.TheVariants as order
use Rattle.acvp_tables.specs.declared.change.UsedStep.{UsedStep}
use Rattle.acvp_tables.specs.declared.change.NewAccount.{NewAccount}
use Rattle.acvp_tables.specs.declared.change.KeptAnswers.{KeptAnswers}
use Rattle.acvp_tables.specs.declared.change.CancelledSet.{CancelledSet}
use Rattle.acvp_tables.proofs.CountedLemmas.{all_append}
use Rattle.acvp_tables.proofs.Numbers.{eqb_same}
use Rattle.acvp_tables.proofs.OwnRows.{filter_changed}
use Rattle.acvp_tables.proofs.KeptLemmas.{fewer, found-changed, found_last, length-changed, list_all-changed}
use Rattle.acvp_tables.proofs.KeptLemmas.{list_all-filter, list_all_weaker, list_any-changed, none_pass}
use Rattle.acvp_tables.proofs.KeptLemmas.{numbered-changed, one_more}

-- ---- words

abbrev pub is_there : List SessionRecord → ℕ → Bool
is_there sessions n = is_some (session_record_at n sessions)

abbrev pub has_set : List SetRecord → SessionRecord → Bool
has_set sets row = list_any (λ set. set.session == row.number) sets

-- the request of this number is for this session's certification
abbrev pub is_for : SessionRecord → ℕ → RequestRow → Bool
is_for row n request = (request.number == n) && certifies row.number request.body

abbrev pub is_certified : List RequestRow → SessionRecord → Bool
is_certified requests row = of_all (λ n. list_any (is_for row n) requests) row.last_request

abbrev pub is_registered : List RequestRow → ObjectRow → Bool
is_registered requests object = list_any (has_registered_as object) requests

-- ---- accounts

-- where they alone change
well_accounts : (u : ℕ) (rows : List AccountRow) (mine : State) → IsWellNumberedFor u mine → length rows ≤ 1
    → list_all is_account_row rows ≡ true → (has_rows mine ≡ true → is_some (account_at u rows) ≡ true)
    → IsWellNumberedFor u (record mine { accounts = rows })
well_accounts u rows mine well one all there = record {
  once = one;
  accounts = all;
  there = there;
  sessions = well.sessions;
  few_sessions = well.few_sessions;
  requests = well.requests;
  few_requests = well.few_requests;
  objects = well.objects;
  asked_for = well.asked_for;
  registered = well.registered;
  given = well.given;
  sets = well.sets;
  few_sets = well.few_sets;
  some_sets = well.some_sets;
  set_sessions = well.set_sessions;
  certified = well.certified;
  asked = well.asked;
  kept = well.kept;
  created = well.created;
  reviewed = well.reviewed;
  reviewers = well.reviewers;
  few_reviewers = well.few_reviewers;
  pairs_once = well.pairs_once;
}

-- one of them changes, and not its number and secret
well_account : (u n : ℕ) (f : AccountRow → AccountRow) (mine : State) → ((r : AccountRow) → (f r).number ≡ r.number)
    → ((r : AccountRow) → is_account_row (f r) ≡ is_account_row r) → IsWellNumberedFor u mine
    → IsWellNumberedFor u (record mine { accounts = changed (is_account n) f mine.accounts })
well_account u n f mine keeps stays well = well_accounts u (changed (is_account n) f mine.accounts) mine well
    (rw (length-changed (is_account n) f mine.accounts) well.once)
    (list_all-changed is_account_row (is_account n) f stays mine.accounts ∙ well.accounts)
    (λ e. found-changed (λ (row : AccountRow). row.number) u (is_account n) f keeps mine.accounts ∙ well.there e)

pub well_step : (u : ℕ) (x : UsedStep) (mine : State) → IsWellNumberedFor u mine
    → IsWellNumberedFor u (after_state (change.UseStep x) mine)
unfolding after_state
well_step u x mine well = well_account u x.account (with_step x.step) mine (λ r. refl) (λ r. refl) well

pub well_disabled : (u n : ℕ) (mine : State) → IsWellNumberedFor u mine
    → IsWellNumberedFor u (after_order_state (order.DisableAccount n) mine)
unfolding after_order_state
well_disabled u n mine well = well_account u n disabled mine (λ r. refl) (λ r. refl) well

pub well_added : (a : NewAccount) (mine : State) → IsWellNumberedFor a.account mine
    → IsNextOrderFor mine (order.AddAccount a)
    → IsWellNumberedFor a.account (after_order_state (order.AddAccount a) mine)
unfolding after_order_state
well_added a mine well next =
    well_accounts a.account (mine.accounts ++ new_account a ∷ []) mine well (rw next.0 (omega arith))
    (all_append is_account_row mine.accounts (new_account a ∷ []) well.accounts (rw next.1 refl))
    (λ e. found_last (λ (row : AccountRow). row.number == a.account) mine.accounts (new_account a) (eqb_same a.account))

-- ---- vector sets

-- one of them changes, and not its number and session
well_set : (u v : ℕ) (f : SetRecord → SetRecord) (mine : State) → ((r : SetRecord) → (f r).number ≡ r.number)
    → ((r : SetRecord) → (f r).session ≡ r.session)
    → IsWellNumberedFor u mine → IsWellNumberedFor u (record mine { sets = changed (is_set_record v) f mine.sets })
well_set u v f mine keeps stays well = record {
  once = well.once;
  accounts = well.accounts;
  there = well.there;
  sessions = well.sessions;
  few_sessions = well.few_sessions;
  requests = well.requests;
  few_requests = well.few_requests;
  objects = well.objects;
  asked_for = well.asked_for;
  registered = well.registered;
  given = well.given;
  sets = λ s. rw (in_session s)
      (numbered-changed (λ (row : SetRecord). row.number) (first_of_session s) (is_set_record v) f keeps
      (sets_in s mine.sets) (well.sets s));
  few_sets = λ s. rw (in_session s) (rw (length-changed (is_set_record v) f (sets_in s mine.sets)) (well.few_sets s));
  some_sets = list_all_weaker (has_set mine.sets)
      (has_set (changed (is_set_record v) f mine.sets)) some mine.sessions well.some_sets;
  set_sessions = list_all-changed (λ (set : SetRecord). is_there mine.sessions set.session) (is_set_record v) f
      (λ r. ap (λ n. is_there mine.sessions n) (stays r)) mine.sets ∙ well.set_sessions;
  certified = well.certified;
  asked = well.asked;
  kept = well.kept;
  created = well.created;
  reviewed = well.reviewed;
  reviewers = well.reviewers;
  few_reviewers = well.few_reviewers;
  pairs_once = well.pairs_once;
}
  where
    in_session : (s : ℕ) → sets_in s (changed (is_set_record v) f mine.sets) ≡ changed (is_set_record v) f
        (sets_in s mine.sets)
    in_session s = filter_changed (λ (row : SetRecord). row.session == s) (is_set_record v) f
        (λ r. ap (λ n. n == s) (stays r)) mine.sets

    some : (row : SessionRecord) → has_set mine.sets row ≡ true
        → has_set (changed (is_set_record v) f mine.sets) row ≡ true
    some row e = list_any-changed (λ (set : SetRecord). set.session == row.number) (is_set_record v) f
        (λ r. ap (λ n. n == row.number) (stays r)) mine.sets ∙ e

pub well_answered : (u : ℕ) (k : KeptAnswers) (mine : State) → IsWellNumberedFor u mine
    → IsWellNumberedFor u (after_state (change.KeepAnswers k) mine)
unfolding after_state
well_answered u k mine well = well_set u k.set (answered_record k.graded.answers) mine (λ r. refl) (λ r. refl) well

pub well_cancelled_set : (u : ℕ) (x : CancelledSet) (mine : State) → IsWellNumberedFor u mine
    → IsWellNumberedFor u (after_state (change.CancelSet x) mine)
unfolding after_state
well_cancelled_set u x mine well = well_set u x.set cancelled_set_record mine (λ r. refl) (λ r. refl) well

-- ---- reviewers

-- where they alone change
well_reviewers : (u : ℕ) (rows : List ReviewerRow) (mine : State)
    → list_all (λ row. is_there mine.sessions row.session) rows ≡ true
    → list_all (λ row. is_account_number row.account) rows ≡ true
    → ((s : ℕ) → length (filter (λ row. row.session == s) rows) ≤ 16)
    → ((s a : ℕ) → length (filter (λ row. (row.session == s) && (row.account == a)) rows) ≤ 1)
    → IsWellNumberedFor u mine → IsWellNumberedFor u (record mine { reviewers = rows })
well_reviewers u rows mine there fine few once well = record {
  once = well.once;
  accounts = well.accounts;
  there = well.there;
  sessions = well.sessions;
  few_sessions = well.few_sessions;
  requests = well.requests;
  few_requests = well.few_requests;
  objects = well.objects;
  asked_for = well.asked_for;
  registered = well.registered;
  given = well.given;
  sets = well.sets;
  few_sets = well.few_sets;
  some_sets = well.some_sets;
  set_sessions = well.set_sessions;
  certified = well.certified;
  asked = well.asked;
  kept = well.kept;
  created = well.created;
  reviewed = there;
  reviewers = fine;
  few_reviewers = few;
  pairs_once = once;
}

pub well_less_reviewer : (u : ℕ) (r : ReviewerRow) (mine : State) → IsWellNumberedFor u mine
    → IsWellNumberedFor u (after_state (change.RemoveReviewer r) mine)
unfolding after_state
well_less_reviewer u r mine well = well_reviewers u (filter (λ row. not (is_pair r row)) mine.reviewers) mine
    (list_all-filter (λ (row : ReviewerRow). is_there mine.sessions row.session)
    (λ row. not (is_pair r row)) mine.reviewers well.reviewed)
    (list_all-filter (λ (row : ReviewerRow). is_account_number row.account)
    (λ row. not (is_pair r row)) mine.reviewers well.reviewers)
    (λ s. omega (
      arith,
      fewer (λ (row : ReviewerRow). row.session == s) (λ row. not (is_pair r row)) mine.reviewers,
      well.few_reviewers s,
    ))
    (λ s a. omega (
      arith,
      fewer (λ (row : ReviewerRow). (row.session == s) && (row.account == a))
          (λ row. not (is_pair r row)) mine.reviewers,
      well.pairs_once s a,
    ))
    well

-- one that isn't there yet
well_more_reviewer : (u : ℕ) (r : ReviewerRow) (mine : State) → is_there mine.sessions r.session ≡ true
    → is_account_number r.account ≡ true
    → is_reviewer r.session r.account mine.reviewers ≡ false
    → length (filter (λ (row : ReviewerRow). row.session == r.session) mine.reviewers) < 16
    → IsWellNumberedFor u mine → IsWellNumberedFor u (record mine { reviewers = mine.reviewers ++ r ∷ [] })
well_more_reviewer u r mine there fine new room well = well_reviewers u (mine.reviewers ++ r ∷ []) mine
    (all_append (λ (row : ReviewerRow). is_there mine.sessions row.session) mine.reviewers (r ∷ []) well.reviewed
    (rw there refl))
    (all_append (λ (row : ReviewerRow). is_account_number row.account) mine.reviewers (r ∷ []) well.reviewers
    (rw fine refl))
    (λ s. one_more (λ (row : ReviewerRow). row.session == s) r mine.reviewers 16 (well.few_reviewers s) (λ e. free s e))
    (λ s a. one_more (λ (row : ReviewerRow). (row.session == s) && (row.account == a)) r mine.reviewers 1
    (well.pairs_once s a) (λ e. first s a e))
    well
  where
    free : (s : ℕ) → (r.session == s) ≡ true
        → length (filter (λ (row : ReviewerRow). row.session == s) mine.reviewers) < 16
    free s e =
        let its : r.session ≡ s = grind (arith, nat_tests, e) in
        subst (λ s. length (filter (λ (row : ReviewerRow). row.session == s) mine.reviewers) < 16) its room

    first : (s a : ℕ) → ((r.session == s) && (r.account == a)) ≡ true
        → length (filter (λ (row : ReviewerRow). (row.session == s) && (row.account == a)) mine.reviewers) < 1
    first s a e =
        let at_s : r.session ≡ s = grind (arith, nat_tests, e) in
        let at_a : r.account ≡ a = grind (arith, nat_tests, e) in
        let none : length (filter
        (λ (row : ReviewerRow). (row.session == r.session) && (row.account == r.account)) mine.reviewers) ≡ 0
        = none_pass (λ (row : ReviewerRow). (row.session == r.session) && (row.account == r.account)) mine.reviewers
        new in
        rw (← at_s) (rw (← at_a) (omega (arith, none)))

pub well_reviewed : (u : ℕ) (r : ReviewerRow) (mine : State) → IsWellNumberedFor u mine
    → IsNextFor mine (change.AddReviewer r)
    → IsWellNumberedFor u (after_state (change.AddReviewer r) mine)
unfolding after_state
well_reviewed u r mine well next = go (is_reviewer r.session r.account mine.reviewers) refl
  where
    go : (b : Bool) → is_reviewer r.session r.account mine.reviewers ≡ b
        → IsWellNumberedFor u (record mine { reviewers = with_reviewer r mine.reviewers })
    go true e = rw e well
    go false e =
        let room : length (filter (λ (row : ReviewerRow). row.session == r.session) mine.reviewers) < 16 =
        grind (arith, nat_tests, e, next.2) in
        rw e (well_more_reviewer u r mine next.0 next.1 e room well)
