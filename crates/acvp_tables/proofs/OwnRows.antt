-- What a change does to each account's rows.
use Rattle.std.proofs.Common.{◌≡◌, ◌≢◌, ℕ, ◌+◌, ◌/◌, Bool, true, false, List, [], ◌∷◌, map, eqb, refl, ap, arith}
use Rattle.std.specs.Prelude.{filter, not, ◌==◌, ◌&&◌, if◌then◌else◌}
use Rattle.std.specs.List.{list_all, list_any}
use Rattle.std.proofs.lemmas.Bool.Decides.{nat_tests}
use Rattle.std.proofs.lemmas.List.Elements.{filter-append}
use Rattle.std.proofs.lemmas.List.{append-nil}
use Rattle.acvp_caps.specs.Capability.{CapabilityValue}
use Rattle.acvp_tables.specs.Content.{is_reviewer, request_at}
use Rattle.acvp_tables.specs.State.{State, SessionRecord, SetRecord, set_record, owner_of, own}
use Rattle.acvp_tables.specs.Changes.{changed, is_account, with_step, disabled, is_request, with_status, new_sets}
use Rattle.acvp_tables.specs.Changes.{is_pair, with_reviewer, approved_objects, new_objects}
use Rattle.acvp_tables.specs.StateChanges.{after_state, after_order_state, is_session_record, cancelled_session_record}
use Rattle.acvp_tables.specs.StateChanges.{certified_record, is_set_record, answered_record, cancelled_set_record}
use Rattle.acvp_tables.specs.Own.{account_of_change, account_of_order, Fits}
use Rattle.acvp_tables.proofs.Numbers.{IsKeyed, request_found}
use Rattle.acvp_tables.specs.declared.rows.AccountRow.{AccountRow}
use Rattle.acvp_tables.specs.declared.rows.RequestRow.{RequestRow}
use Rattle.acvp_tables.specs.declared.rows.RequestBody.{RequestBody}
use Rattle.acvp_tables.specs.declared.rows.RequestBody.TheVariants as body
use Rattle.acvp_tables.specs.declared.rows.RequestStatus.TheVariants as status
use Rattle.acvp_tables.specs.declared.rows.ReviewerRow.{ReviewerRow}
use Rattle.acvp_tables.specs.declared.change.Change.{Change}
use Rattle.acvp_tables.specs.declared.change.Change.TheVariants as change
use Rattle.acvp_tables.specs.declared.change.OrderChange.{OrderChange}
use Rattle.acvp_tables.specs.declared.change.OrderChange.TheVariants as order

-- ---- rows seen through a filter

-- a change that leaves whose a row is
pub filter_changed : {R : Type 0} (mine test : R → Bool) (f : R → R) → ((r : R) → mine (f r) ≡ mine r) → (rows : List R)
    → filter mine (changed test f rows) ≡ changed test f (filter mine rows)
filter_changed mine test f keeps [] = refl
filter_changed mine test f keeps (r ∷ rows) = grind (arith, nat_tests, keeps r, filter_changed mine test f keeps rows)

-- a change of no row that the filter passes
filter_changed_other : {R : Type 0} (mine test keyed : R → Bool) (f : R → R) → ((r : R) → mine (f r) ≡ mine r)
    → ((r : R) → keyed r ≡ true → test r ≡ true → mine r ≡ false) → (rows : List R)
    → list_all keyed rows ≡ true → filter mine (changed test f rows) ≡ filter mine rows
filter_changed_other mine test keyed f keeps apart [] all = refl
filter_changed_other mine test keyed f keeps apart (r ∷ rows) all =
    grind (arith, nat_tests, keeps r, apart r, filter_changed_other mine test keyed f keeps apart rows)

filter_swap : {R : Type 0} (p q : R → Bool) (rows : List R) → filter p (filter q rows) ≡ filter q (filter p rows)
filter_swap p q [] = refl
filter_swap p q (r ∷ rows) = grind (arith, nat_tests, filter_swap p q rows)

-- what another filter drops are rows that this one doesn't pass
filter_kept : {R : Type 0} (p q : R → Bool) → ((r : R) → p r ≡ true → q r ≡ true) → (rows : List R)
    → filter p (filter q rows) ≡ filter p rows
filter_kept p q gives [] = refl
filter_kept p q gives (r ∷ rows) = grind (arith, nat_tests, gives r, filter_kept p q gives rows)

any_within : {R : Type 0} (p q : R → Bool) → ((r : R) → p r ≡ true → q r ≡ true) → (rows : List R)
    → list_any p (filter q rows) ≡ list_any p rows
any_within p q gives [] = refl
any_within p q gives (r ∷ rows) = grind (arith, nat_tests, gives r, any_within p q gives rows)

filter-new_sets : (v s epoch i : ℕ) (capabilities : List CapabilityValue)
    → filter (λ row. owner_of row.session == v) (map set_record (new_sets s epoch i capabilities))
    ≡ (if owner_of s == v then map set_record (new_sets s epoch i capabilities) else [])
filter-new_sets v s epoch i [] = grind (arith, nat_tests)
filter-new_sets v s epoch i (c ∷ rest) = grind (arith, nat_tests, filter-new_sets v s epoch (i + 1) rest)

same : (u : ℕ) → eqb u u ≡ true
same u = grind (arith, nat_tests)

differs : (u v : ℕ) → u ≢ v → eqb u v ≡ false
differs u v apart = grind (arith, nat_tests)

-- ---- reviewers

reviewer_own : (r : ReviewerRow) (rows : List ReviewerRow)
    → filter (λ row. owner_of row.session == owner_of r.session) (with_reviewer r rows)
    ≡ with_reviewer r (filter (λ row. owner_of row.session == owner_of r.session) rows)
reviewer_own r rows = go (is_reviewer r.session r.account rows) refl
  where
    there : is_reviewer r.session r.account (filter (λ row. owner_of row.session == owner_of r.session) rows)
        ≡ is_reviewer r.session r.account rows
    there = any_within (λ (row : ReviewerRow). (row.session == r.session) && (row.account == r.account))
        (λ row. owner_of row.session == owner_of r.session) (λ row e. grind (arith, nat_tests, e)) rows

    go : (b : Bool) → is_reviewer r.session r.account rows ≡ b
        → filter (λ row. owner_of row.session == owner_of r.session) (with_reviewer r rows)
        ≡ with_reviewer r (filter (λ row. owner_of row.session == owner_of r.session) rows)
    go true e = simp (there, e)
    go false e = simp (there, e, filter-append, same (owner_of r.session))

reviewer_other : (v : ℕ) (r : ReviewerRow) (rows : List ReviewerRow) → owner_of r.session ≢ v
    → filter (λ row. owner_of row.session == v) (with_reviewer r rows) ≡ filter (λ row. owner_of row.session == v) rows
reviewer_other v r rows apart = go (is_reviewer r.session r.account rows) refl
  where
    go : (b : Bool) → is_reviewer r.session r.account rows ≡ b
        → filter (λ row. owner_of row.session == v) (with_reviewer r rows)
        ≡ filter (λ row. owner_of row.session == v) rows
    go true e = simp (e)
    go false e = simp (e, filter-append, differs (owner_of r.session) v apart, append-nil)

removed_other : (v : ℕ) (r row : ReviewerRow) → owner_of r.session ≢ v → (owner_of row.session == v) ≡ true
    → not (is_pair r row) ≡ true
removed_other v r row apart e = grind (arith, nat_tests, apart, e)

-- ---- what is registered

registered_by_own : (v account k : ℕ) (it : RequestBody)
    → filter (λ row. row.account == v) (new_objects account it k)
    ≡ (if account == v then new_objects account it k else [])
registered_by_own v account k (body.Registration object) = grind (arith, nat_tests)
registered_by_own v account k (body.Certification c) = grind (arith, nat_tests)

registered_own : (v n k : ℕ) (rows : List RequestRow) → list_all (λ row. owner_of row.number == row.account) rows ≡ true
    → filter (λ row. row.account == v) (approved_objects (request_at n rows) k)
    ≡ (if owner_of n == v then approved_objects (request_at n rows) k else [])
registered_own v n k [] all = grind (arith, nat_tests)
registered_own v n k (r ∷ rows) all =
    let rest : list_all (λ (row : RequestRow). owner_of row.number == row.account) rows ≡ true =
    grind (arith, nat_tests, all) in
    let here : owner_of r.number ≡ r.account = grind (arith, nat_tests, all) in
    go (r.number == n) refl here (registered_own v n k rows rest)
  where
    go : (b : Bool) → (r.number == n) ≡ b → owner_of r.number ≡ r.account
        → filter (λ row. row.account == v) (approved_objects (request_at n rows) k)
        ≡ (if owner_of n == v then approved_objects (request_at n rows) k else [])
        → filter (λ row. row.account == v) (approved_objects (request_at n (r ∷ rows)) k)
        ≡ (if owner_of n == v then approved_objects (request_at n (r ∷ rows)) k else [])
    go true e here more =
        let of : owner_of n ≡ r.account = grind (arith, nat_tests, e, here) in
        rw e (rw of (registered_by_own v r.account k r.body))
    go false e here more = rw e more

-- ---- the account's own rows

pub own_same : (it : Change) (state : State) → Fits it
    → own (account_of_change it) (after_state it state) ≡ after_state it (own (account_of_change it) state)
unfolding after_state own
own_same (change.UseStep u) state fits = simp (filter_changed {R = AccountRow})
own_same (change.NewSession s) state fits = simp (filter-append, filter-new_sets, fits, same s.account)
own_same (change.KeepAnswers k) state fits = simp (filter_changed {R = SetRecord})
own_same (change.CancelSession n) state fits = simp (filter_changed {R = SessionRecord})
own_same (change.CancelSet x) state fits = simp (filter_changed {R = SetRecord})
own_same (change.NewRequest r) state fits = simp (filter-append, same r.account)
own_same (change.Certify c) state fits =
    simp (filter-append, filter_changed {R = SessionRecord}, fits.0, same (owner_of c.certification.session))
own_same (change.AddReviewer r) state fits = simp (reviewer_own r state.reviewers)
own_same (change.RemoveReviewer r) state fits =
    simp (filter_swap (λ (row : ReviewerRow). owner_of row.session == owner_of r.session)
    (λ row. not (is_pair r row)) state.reviewers)

own_request : (n : ℕ) (state : State) → IsKeyed state
    → request_at n (filter (λ row. row.account == owner_of n) state.requests) ≡ request_at n state.requests
unfolding own
own_request n state is = rw (same (owner_of n)) at (request_found (owner_of n) n state is)

pub own_ordered : (it : OrderChange) (state : State) → IsKeyed state
    → own (account_of_order it) (after_order_state it state) ≡ after_order_state it (own (account_of_order it) state)
unfolding after_order_state own
own_ordered (order.AddAccount a) state is = simp (filter-append, same a.account)
own_ordered (order.DisableAccount n) state is = simp (filter_changed {R = AccountRow})
own_ordered (order.Approve a) state is =
    simp (
      filter-append,
      filter_changed {R = RequestRow},
      own_request a.request state is,
      registered_own (owner_of a.request) a.request a.approved state.requests is.requests,
      same (owner_of a.request),
    )
own_ordered (order.Reject n) state is = simp (filter_changed {R = RequestRow})

-- ---- other accounts' rows

others_accounts : (v u : ℕ) (f : AccountRow → AccountRow) → ((r : AccountRow) → (f r).number ≡ r.number) → u ≢ v
    → (rows : List AccountRow) → filter (λ row. row.number == v) (changed (is_account u) f rows)
    ≡ filter (λ row. row.number == v) rows
others_accounts v u f keeps apart [] = refl
others_accounts v u f keeps apart (r ∷ rows) =
    grind (arith, nat_tests, keeps r, apart, others_accounts v u f keeps apart rows)

others_sessions : (v n : ℕ) (f : SessionRecord → SessionRecord) → ((r : SessionRecord) → (f r).account ≡ r.account)
    → owner_of n ≢ v → (state : State) → IsKeyed state
    → filter (λ row. row.account == v) (changed (is_session_record n) f state.sessions)
    ≡ filter (λ row. row.account == v) state.sessions
others_sessions v n f keeps apart state is =
    filter_changed_other (λ row. row.account == v) (is_session_record n) (λ row. owner_of row.number == row.account) f
    (λ r. ap (λ k. k == v) (keeps r))
    (λ r k e. grind (arith, nat_tests, k, e, apart)) state.sessions is.sessions

others_requests : (v n : ℕ) (f : RequestRow → RequestRow) → ((r : RequestRow) → (f r).account ≡ r.account)
    → owner_of n ≢ v → (state : State) → IsKeyed state
    → filter (λ row. row.account == v) (changed (is_request n) f state.requests)
    ≡ filter (λ row. row.account == v) state.requests
others_requests v n f keeps apart state is =
    filter_changed_other (λ row. row.account == v) (is_request n) (λ row. owner_of row.number == row.account) f
    (λ r. ap (λ k. k == v) (keeps r))
    (λ r k e. grind (arith, nat_tests, k, e, apart)) state.requests is.requests

others_sets : (v s n : ℕ) (f : SetRecord → SetRecord) → ((r : SetRecord) → (f r).session ≡ r.session) → (n / 100) ≡ s
    → owner_of s ≢ v → (state : State) → IsKeyed state
    → filter (λ row. owner_of row.session == v) (changed (is_set_record n) f state.sets)
    ≡ filter (λ row. owner_of row.session == v) state.sets
others_sets v s n f keeps of apart state is =
    filter_changed_other (λ row. owner_of row.session == v) (is_set_record n)
    (λ row. (row.number / 100) == row.session) f (λ r. ap (λ k. owner_of k == v) (keeps r))
    off state.sets is.sets
  where
    off : (r : SetRecord) → ((r.number / 100) == r.session) ≡ true → (r.number == n) ≡ true
        → (owner_of r.session == v) ≡ false
    off r k e =
        let in_s : r.session ≡ s = grind (arith, nat_tests, k, e, of) in
        rw in_s (differs (owner_of s) v apart)

pub own_other : (v : ℕ) (it : Change) (state : State) → account_of_change it ≢ v → IsKeyed state → Fits it
    → own v (after_state it state) ≡ own v state
unfolding after_state own
own_other v (change.UseStep u) state apart is fits =
    simp (others_accounts v u.account (with_step u.step) (λ r. refl) apart state.accounts)
own_other v (change.NewSession s) state apart is fits =
    simp (filter-append, filter-new_sets, fits, differs s.account v apart, append-nil)
own_other v (change.KeepAnswers k) state apart is fits =
    simp (others_sets v k.session k.set (answered_record k.graded.answers) (λ r. refl) fits apart state is)
own_other v (change.CancelSession n) state apart is fits =
    simp (others_sessions v n cancelled_session_record (λ r. refl) apart state is)
own_other v (change.CancelSet x) state apart is fits =
    simp (others_sets v x.session x.set cancelled_set_record (λ r. refl) fits apart state is)
own_other v (change.NewRequest r) state apart is fits = simp (filter-append, differs r.account v apart, append-nil)
own_other v (change.Certify c) state apart is fits =
    simp (
      others_sessions v c.certification.session (certified_record c.number) (λ r. refl) apart state is,
      filter-append,
      fits.0,
      differs (owner_of c.certification.session) v apart,
      append-nil,
    )
own_other v (change.AddReviewer r) state apart is fits = simp (reviewer_other v r state.reviewers apart)
own_other v (change.RemoveReviewer r) state apart is fits =
    simp (filter_kept (λ (row : ReviewerRow). owner_of row.session == v) (λ row. not (is_pair r row))
    (λ row e. removed_other v r row apart e) state.reviewers)

pub other_ordered : (v : ℕ) (it : OrderChange) (state : State) → account_of_order it ≢ v → IsKeyed state
    → own v (after_order_state it state) ≡ own v state
unfolding after_order_state own
other_ordered v (order.AddAccount a) state apart is = simp (filter-append, differs a.account v apart, append-nil)
other_ordered v (order.DisableAccount n) state apart is =
    simp (others_accounts v n disabled (λ r. refl) apart state.accounts)
other_ordered v (order.Approve a) state apart is = simp (
  filter-append,
  others_requests v a.request (with_status (status.Approved a.approved)) (λ r. refl) apart state is,
  registered_own v a.request a.approved state.requests is.requests,
  differs (owner_of a.request) v apart,
  append-nil,
)
other_ordered v (order.Reject n) state apart is =
    simp (others_requests v n (with_status status.Rejected) (λ r. refl) apart state is)
