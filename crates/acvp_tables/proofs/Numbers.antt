-- What a number says of its row's account.
use Rattle.std.proofs.Common.{◌≡◌, ℕ, ◌+◌, ◌*◌, ◌/◌, ◌≤◌, ◌<◌, Bool, true, false, List, [], ◌∷◌, length, map, None}
use Rattle.std.proofs.Common.{refl, subst, ap, ◌∙◌, cond, arith}
use Rattle.std.specs.Prelude.{filter, find, not, ◌&&◌, ◌||◌, ◌==◌, if◌then◌else◌}
use Rattle.std.specs.List.{list_all, list_any}
use Rattle.std.proofs.lemmas.Bool.Decides.{nat_tests}
use Rattle.std.proofs.lemmas.List.Sums.{length-filter, count_by-le-length}
use Rattle.acvp_registry.specs.declared.kind.Kind.{Kind}
use Rattle.acvp_registry.specs.declared.kind.Kind.TheVariants.{Vendor, Module, Environment, Certification}
use Rattle.acvp_tables.specs.Content.{Content, is_kind, is_reviewer, account_at, object_at, request_at}
use Rattle.acvp_tables.specs.State.{State, SessionRecord, SetRecord, state_of, set_record, IsNumbered, owner_of, own}
use Rattle.acvp_tables.specs.State.{seen, may_see, session_record_at, set_record_at, sets_in, live_records, objects_in}
use Rattle.acvp_tables.specs.State.{has_registered, first_of_account, first_of_session, IsWellNumberedFor}
use Rattle.acvp_tables.specs.State.{IsWellNumbered}
use Rattle.acvp_tables.specs.Changes.{is_set}
use Rattle.acvp_tables.specs.declared.rows.AccountRow.{AccountRow}
use Rattle.acvp_tables.specs.declared.rows.SetRow.{SetRow}
use Rattle.acvp_tables.specs.declared.rows.ObjectRow.{ObjectRow}
use Rattle.acvp_tables.specs.declared.rows.RequestRow.{RequestRow}
use Rattle.acvp_tables.specs.declared.rows.ReviewerRow.{ReviewerRow}

-- each row's number is one of its account's or of its session's, and each set's session is there
pub record IsKeyed (state : State) : Type 0 where
  pub sessions : list_all (λ row. owner_of row.number == row.account) state.sessions ≡ true
  pub objects : list_all (λ row. owner_of row.number == row.account) state.objects ≡ true
  pub requests : list_all (λ row. owner_of row.number == row.account) state.requests ≡ true
  pub sets : list_all (λ row. (row.number / 100) == row.session) state.sets ≡ true

-- ---- selections

-- where the test tells whose a row is, it finds among the account's rows what it finds among all, or nothing
find_own : {R : Type 0} (mine test keyed : R → Bool) (b : Bool)
    → ((r : R) → keyed r ≡ true → test r ≡ true → mine r ≡ b) → (rows : List R) → list_all keyed rows ≡ true
    → find test (filter mine rows) ≡ (if b then find test rows else None)
find_own mine test keyed true tells [] all = refl
find_own mine test keyed false tells [] all = refl
find_own mine test keyed b tells (r ∷ rows) all =
    grind (arith, nat_tests, tells r, find_own mine test keyed b tells rows)

-- and where each row tells it
find_told : {R : Type 0} (mine test : R → Bool) (b : Bool) → ((r : R) → test r ≡ true → mine r ≡ b) → (rows : List R)
    → find test (filter mine rows) ≡ (if b then find test rows else None)
find_told mine test true tells [] = refl
find_told mine test false tells [] = refl
find_told mine test b tells (r ∷ rows) = grind (arith, nat_tests, tells r, find_told mine test b tells rows)

pub filter_told : {R : Type 0} (mine test : R → Bool) (b : Bool) → ((r : R) → test r ≡ true → mine r ≡ b)
    → (rows : List R) → filter test (filter mine rows) ≡ (if b then filter test rows else [])
filter_told mine test true tells [] = refl
filter_told mine test false tells [] = refl
filter_told mine test b tells (r ∷ rows) = grind (arith, nat_tests, tells r, filter_told mine test b tells rows)

pub any_told : {R : Type 0} (mine test : R → Bool) (b : Bool) → ((r : R) → test r ≡ true → mine r ≡ b) → (rows : List R)
    → list_any test (filter mine rows) ≡ (b && list_any test rows)
any_told mine test true tells [] = refl
any_told mine test false tells [] = refl
any_told mine test b tells (r ∷ rows) = grind (arith, nat_tests, tells r, any_told mine test b tells rows)

-- a test that gives another selects the same after it
pub filter-within : {R : Type 0} (p q : R → Bool) → ((r : R) → p r ≡ true → q r ≡ true) → (rows : List R)
    → filter p (filter q rows) ≡ filter p rows
filter-within p q gives [] = refl
filter-within p q gives (r ∷ rows) = grind (arith, nat_tests, gives r, filter-within p q gives rows)

-- ---- well numbered gives keyed

-- what holds of each class of rows holds of all, said of each row's own class
pub by_class : {R C : Type 0} (same : C → C → Bool) (class : R → C) (p : C → R → Bool) → ((c : C) → same c c ≡ true)
    → (rows : List R)
    → ((c : C) → list_all (p c) (filter (λ r. same (class r) c) rows) ≡ true)
    → list_all (λ r. p (class r) r) rows ≡ true
by_class same class p is [] all = refl
by_class {C = C} same class p is (r ∷ rows) all =
    let here : p (class r) r ≡ true = grind (arith, nat_tests, is (class r), all (class r)) in
    let rest : list_all (λ r. p (class r) r) rows ≡ true =
    by_class same class p is rows (λ c. tail (same (class r) c) c (all c)) in
    grind (arith, nat_tests, here, rest)
  where
    tail : (b : Bool) (c : C)
        → list_all (p c) (cond b (r ∷ filter (λ r. same (class r) c) rows) (filter (λ r. same (class r) c) rows)) ≡ true
        → list_all (p c) (filter (λ r. same (class r) c) rows) ≡ true
    tail true c e = grind (arith, nat_tests, e)
    tail false c e = e

numbered_of_account : {R : Type 0} (number : R → ℕ) (u i : ℕ) (rows : List R) → u * 1000000 ≤ i
    → i + length rows ≤ (u + 1) * 1000000 → IsNumbered number i rows
    → list_all (λ r. owner_of (number r) == u) rows ≡ true
numbered_of_account number u i [] low few e = refl
numbered_of_account number u i (r ∷ rows) low few e =
    let here : number r ≡ i = cc (e) in
    let mine : owner_of i ≡ u = omega arith in
    let low' : u * 1000000 ≤ i + 1 = omega arith in
    let more : (i + 1) + length rows ≤ (u + 1) * 1000000 = omega arith in
    let after : IsNumbered number (i + 1) rows = cc (e) in
    grind (arith, nat_tests, here, mine, numbered_of_account number u (i + 1) rows low' more after)

numbered_of_session : {R : Type 0} (number : R → ℕ) (s i : ℕ) (rows : List R) → s * 100 ≤ i
    → i + length rows ≤ (s + 1) * 100 → IsNumbered number i rows → list_all (λ r. (number r / 100) == s) rows ≡ true
numbered_of_session number s i [] low few e = refl
numbered_of_session number s i (r ∷ rows) low few e =
    let here : number r ≡ i = cc (e) in
    let mine : i / 100 ≡ s = omega arith in
    let low' : s * 100 ≤ i + 1 = omega arith in
    let more : (i + 1) + length rows ≤ (s + 1) * 100 = omega arith in
    let after : IsNumbered number (i + 1) rows = cc (e) in
    grind (arith, nat_tests, here, mine, numbered_of_session number s (i + 1) rows low' more after)

pub same_kind : (kind : Kind) → is_kind kind kind ≡ true
same_kind Vendor = refl
same_kind Module = refl
same_kind Environment = refl
same_kind Certification = refl

pub eqb_same : (u : ℕ) → (u == u) ≡ true
eqb_same u = grind (arith, nat_tests)

length-filter_le : {R : Type 0} (p : R → Bool) (rows : List R) → length (filter p rows) ≤ length rows
length-filter_le p rows = omega (arith, length-filter p rows, count_by-le-length p rows)

pub few_objects : (u : ℕ) (mine : State) (kind : Kind) → IsWellNumberedFor u mine
    → length (objects_in kind mine.objects) ≤ 999999
few_objects u mine kind well =
    omega (arith, well.asked_for kind, well.few_requests, length-filter_le (has_registered kind) mine.requests)

pub sessions_keyed : (u : ℕ) (mine : State) → IsWellNumberedFor u mine
    → list_all (λ row. owner_of row.number == u) mine.sessions ≡ true
sessions_keyed u mine well =
    numbered_of_account {R = SessionRecord} (λ row. row.number) u (first_of_account u) mine.sessions (omega arith)
    (omega (arith, well.few_sessions)) well.sessions

pub requests_keyed : (u : ℕ) (mine : State) → IsWellNumberedFor u mine
    → list_all (λ row. owner_of row.number == u) mine.requests ≡ true
requests_keyed u mine well =
    numbered_of_account {R = RequestRow} (λ row. row.number) u (first_of_account u) mine.requests (omega arith)
    (omega (arith, well.few_requests)) well.requests

objects_keyed : (u : ℕ) (mine : State) → IsWellNumberedFor u mine
    → list_all (λ row. owner_of row.number == u) mine.objects ≡ true
objects_keyed u mine well =
    by_class is_kind (λ row. row.object.kind) (λ kind row. owner_of row.number == u) same_kind mine.objects
    (λ kind. numbered_of_account {R = ObjectRow} (λ row. row.number) u (first_of_account u)
    (objects_in kind mine.objects) (omega arith) (omega (arith, few_objects u mine kind well)) (well.objects kind))

-- the sets of a session are among its account's
pub own_sets_in : (s : ℕ) (state : State) → sets_in s (own (owner_of s) state).sets ≡ sets_in s state.sets
unfolding own
own_sets_in s state = filter-within (λ (row : SetRecord). row.session == s) (λ row. owner_of row.session == owner_of s)
    (λ row e. grind (arith, nat_tests, e)) state.sets

pub sets_numbered : (state : State) → IsWellNumbered state → (s : ℕ)
    → IsNumbered (λ row. row.number) (first_of_session s) (sets_in s state.sets)
unfolding IsWellNumbered
sets_numbered state well s =
    subst (λ rows. IsNumbered (λ row. row.number) (first_of_session s) rows) (own_sets_in s state)
    ((well (owner_of s)).sets s)

sets_few : (state : State) → IsWellNumbered state → (s : ℕ) → length (sets_in s state.sets) ≤ 20
unfolding IsWellNumbered
sets_few state well s = subst (λ rows. length rows ≤ 20) (own_sets_in s state) ((well (owner_of s)).few_sets s)

sets_keyed : (state : State) → IsWellNumbered state → (s : ℕ)
    → list_all (λ row. (row.number / 100) == s) (sets_in s state.sets) ≡ true
sets_keyed state well s = numbered_of_session {R = SetRecord} (λ row. row.number) s (first_of_session s)
    (sets_in s state.sets) (omega arith) (omega (arith, sets_few state well s)) (sets_numbered state well s)

pub keyed : (state : State) → IsWellNumbered state → IsKeyed state
unfolding IsWellNumbered own
keyed state well = record {
  sessions = by_class (λ a b. a == b) (λ row. row.account) (λ u row. owner_of row.number == u) eqb_same state.sessions
      (λ u. sessions_keyed u (own u state) (well u));
  objects = by_class (λ a b. a == b) (λ row. row.account) (λ u row. owner_of row.number == u) eqb_same state.objects
      (λ u. objects_keyed u (own u state) (well u));
  requests = by_class (λ a b. a == b) (λ row. row.account) (λ u row. owner_of row.number == u) eqb_same state.requests
      (λ u. requests_keyed u (own u state) (well u));
  sets = by_class (λ a b. a == b) (λ row. row.session) (λ s row. (row.number / 100) == s) eqb_same state.sets
      (λ s. sets_keyed state well s);
}

-- ---- look-ups among an account's rows

pub account_found : (u n : ℕ) (state : State)
    → account_at n (own u state).accounts ≡ (if n == u then account_at n state.accounts else None)
unfolding own
account_found u n state = find_told (λ (row : AccountRow). row.number == u) (λ row. row.number == n) (n == u)
    (λ row e. grind (arith, nat_tests, e)) state.accounts

pub session_found : (u n : ℕ) (state : State) → IsKeyed state
    → session_record_at n (own u state).sessions
    ≡ (if owner_of n == u then session_record_at n state.sessions else None)
unfolding own
session_found u n state is = find_own (λ (row : SessionRecord). row.account == u) (λ row. row.number == n)
    (λ row. owner_of row.number == row.account) (owner_of n == u)
    (λ row k e. grind (arith, nat_tests, k, e)) state.sessions is.sessions

pub request_found : (u n : ℕ) (state : State) → IsKeyed state
    → request_at n (own u state).requests ≡ (if owner_of n == u then request_at n state.requests else None)
unfolding own
request_found u n state is =
    find_own (λ (row : RequestRow). row.account == u) (λ row. row.number == n)
    (λ row. owner_of row.number == row.account) (owner_of n == u)
    (λ row k e. grind (arith, nat_tests, k, e)) state.requests is.requests

pub object_found : (u n : ℕ) (kind : Kind) (state : State) → IsKeyed state
    → object_at kind n (own u state).objects ≡ (if owner_of n == u then object_at kind n state.objects else None)
unfolding own
object_found u n kind state is =
    find_own (λ (row : ObjectRow). row.account == u) (λ row. is_kind row.object.kind kind && (row.number == n))
    (λ row. owner_of row.number == row.account) (owner_of n == u)
    (λ row k e. grind (arith, nat_tests, k, e)) state.objects is.objects

pub set_found : (u v : ℕ) (state : State) → IsKeyed state
    → set_record_at v (own u state).sets ≡ (if owner_of (v / 100) == u then set_record_at v state.sets else None)
unfolding own
set_found u v state is = find_own (λ (row : SetRecord). owner_of row.session == u) (λ row. row.number == v)
    (λ row. (row.number / 100) == row.session) (owner_of (v / 100) == u)
    (λ row k e. grind (arith, nat_tests, k, e)) state.sets is.sets

pub sets_found : (u s : ℕ) (state : State)
    → sets_in s (own u state).sets ≡ (if owner_of s == u then sets_in s state.sets else [])
unfolding own
sets_found u s state = filter_told (λ (row : SetRecord). owner_of row.session == u) (λ row. row.session == s)
    (owner_of s == u) (λ row e. grind (arith, nat_tests, e)) state.sets

pub live_found : (u s : ℕ) (state : State)
    → live_records s (own u state).sets ≡ (if owner_of s == u then live_records s state.sets else [])
unfolding own
live_found u s state = filter_told (λ (row : SetRecord). owner_of row.session == u)
    (λ row. (row.session == s) && not row.cancelled) (owner_of s == u) (λ row e. grind (arith, nat_tests, e)) state.sets

pub reviewer_found : (u s a : ℕ) (state : State)
    → is_reviewer s a (own u state).reviewers ≡ ((owner_of s == u) && is_reviewer s a state.reviewers)
unfolding own
reviewer_found u s a state =
    any_told (λ (row : ReviewerRow). owner_of row.session == u) (λ row. (row.session == s) && (row.account == a))
    (owner_of s == u) (λ row e. grind (arith, nat_tests, e)) state.reviewers

-- ---- look-ups among the rows that an account may see

pub session_seen : (u n : ℕ) (state : State) → IsKeyed state
    → session_record_at n (seen u state).sessions
    ≡ (if may_see u (owner_of n) n state then session_record_at n state.sessions else None)
unfolding seen
session_seen u n state is =
    find_own (λ (row : SessionRecord). may_see u row.account row.number state) (λ row. row.number == n)
    (λ row. owner_of row.number == row.account) (may_see u (owner_of n) n state) tells state.sessions is.sessions
  where
    tells : (row : SessionRecord) → (owner_of row.number == row.account) ≡ true → (row.number == n) ≡ true
        → may_see u row.account row.number state ≡ may_see u (owner_of n) n state
    tells row k e =
        let same : row.number ≡ n = grind (arith, nat_tests, e) in
        let of : row.account ≡ owner_of n = grind (arith, nat_tests, k, same) in
        rw same (rw of refl)

pub set_seen : (u v : ℕ) (state : State) → IsKeyed state
    → set_record_at v (seen u state).sets
    ≡ (if may_see u (owner_of (v / 100)) (v / 100) state then set_record_at v state.sets else None)
unfolding seen
set_seen u v state is = find_own (λ (row : SetRecord). may_see u (owner_of row.session) row.session state)
    (λ row. row.number == v) (λ row. (row.number / 100) == row.session)
    (may_see u (owner_of (v / 100)) (v / 100) state) tells state.sets is.sets
  where
    tells : (row : SetRecord) → ((row.number / 100) == row.session) ≡ true → (row.number == v) ≡ true
        → may_see u (owner_of row.session) row.session state ≡ may_see u (owner_of (v / 100)) (v / 100) state
    tells row k e =
        let of : row.session ≡ v / 100 = grind (arith, nat_tests, k, e) in
        ap (λ s. may_see u (owner_of s) s state) of

session_means : (s : ℕ) (row : SetRecord) → (row.session == s) ≡ true → row.session ≡ s
session_means s row e = grind (arith, nat_tests, e)

pub sets_seen : (u s : ℕ) (state : State)
    → sets_in s (seen u state).sets ≡ (if may_see u (owner_of s) s state then sets_in s state.sets else [])
unfolding seen
sets_seen u s state = filter_told (λ (row : SetRecord). may_see u (owner_of row.session) row.session state)
    (λ row. row.session == s) (may_see u (owner_of s) s state)
    (λ row e. ap (λ s. may_see u (owner_of s) s state) (session_means s row e)) state.sets

pub live_seen : (u s : ℕ) (state : State)
    → live_records s (seen u state).sets ≡ (if may_see u (owner_of s) s state then live_records s state.sets else [])
unfolding seen
live_seen u s state = filter_told (λ (row : SetRecord). may_see u (owner_of row.session) row.session state)
    (λ row. (row.session == s) && not row.cancelled) (may_see u (owner_of s) s state)
    (λ row e. ap (λ s. may_see u (owner_of s) s state) (session_means s row (grind (arith, nat_tests, e)))) state.sets

pub reviewer_seen : (u s : ℕ) (state : State)
    → is_reviewer s u (seen u state).reviewers ≡ is_reviewer s u state.reviewers
unfolding seen
reviewer_seen u s state = any_told (λ (row : ReviewerRow). (owner_of row.session == u) || (row.account == u))
    (λ row. (row.session == s) && (row.account == u)) true (λ row e. grind (arith, nat_tests, e)) state.reviewers

pub own_seen : (u : ℕ) (state : State) → own u (seen u state) ≡ own u state
unfolding own seen
own_seen u state = simp (
  filter-within (λ (row : AccountRow). row.number == u) (λ row. row.number == u) (λ row e. e) state.accounts,
  filter-within (λ (row : SessionRecord). row.account == u) (λ row. may_see u row.account row.number state)
      (λ row e. grind (arith, nat_tests, e)) state.sessions,
  filter-within (λ (row : SetRecord). owner_of row.session == u)
      (λ row. may_see u (owner_of row.session) row.session state) (λ row e. grind (arith, nat_tests, e)) state.sets,
  filter-within (λ (row : ObjectRow). row.account == u) (λ row. row.account == u) (λ row e. e) state.objects,
  filter-within (λ (row : RequestRow). row.account == u) (λ row. row.account == u) (λ row e. e) state.requests,
  filter-within (λ (row : ReviewerRow). owner_of row.session == u)
      (λ row. (owner_of row.session == u) || (row.account == u)) (λ row e. grind (arith, nat_tests, e)) state.reviewers,
)

-- ---- no set's number is there twice

none_below : {R : Type 0} (number : R → ℕ) (v i : ℕ) (rows : List R) → v < i → IsNumbered number i rows
    → length (filter (λ row. number row == v) rows) ≡ 0
none_below number v i [] low e = refl
none_below number v i (r ∷ rows) low e =
    let here : number r ≡ i = cc (e) in
    let off : (number r == v) ≡ false = grind (arith, nat_tests, here, low) in
    let rest : IsNumbered number (i + 1) rows = cc (e) in
    let low' : v < i + 1 = omega arith in
    rw off (none_below number v (i + 1) rows low' rest)

pub once_numbered : {R : Type 0} (number : R → ℕ) (v i : ℕ) (rows : List R) → IsNumbered number i rows
    → length (filter (λ row. number row == v) rows) ≤ 1
once_numbered number v i [] e = omega arith
once_numbered number v i (r ∷ rows) e =
    let here : number r ≡ i = cc (e) in
    let rest : IsNumbered number (i + 1) rows = cc (e) in
    go (number r == v) refl here rest (once_numbered number v (i + 1) rows rest)
  where
    go : (b : Bool) → (number r == v) ≡ b → number r ≡ i → IsNumbered number (i + 1) rows
        → length (filter (λ row. number row == v) rows) ≤ 1 → length (filter (λ row. number row == v) (r ∷ rows)) ≤ 1
    go true eb here rest few =
        let low : v < i + 1 = grind (arith, nat_tests, eb, here) in
        rw eb (omega (arith, none_below number v (i + 1) rows low rest))
    go false eb here rest few = rw eb few

-- tests that agree on the rows keep the same rows
filter_agrees : {R : Type 0} (p q keyed : R → Bool) → ((r : R) → keyed r ≡ true → p r ≡ q r) → (rows : List R)
    → list_all keyed rows ≡ true → filter p rows ≡ filter q rows
filter_agrees p q keyed agree [] all = refl
filter_agrees p q keyed agree (r ∷ rows) all = grind (arith, nat_tests, agree r, filter_agrees p q keyed agree rows)

pub filter_both : {R : Type 0} (p q : R → Bool) (rows : List R)
    → filter (λ row. q row && p row) rows ≡ filter p (filter q rows)
filter_both p q [] = refl
filter_both p q (r ∷ rows) = grind (arith, nat_tests, filter_both p q rows)

length-map_filter : (v : ℕ) (rows : List SetRow) → length (filter (λ row. row.number == v) (map set_record rows))
    ≡ length (filter (is_set v) rows)
length-map_filter v [] = refl
length-map_filter v (r ∷ rows) = grind (arith, nat_tests, length-map_filter v rows)

pub once_in_state : (state : State) → IsWellNumbered state → (v : ℕ)
    → length (filter (λ row. row.number == v) state.sets) ≤ 1
once_in_state state well v =
    let at : filter (λ (row : SetRecord). row.number == v) state.sets
    ≡ filter (λ (row : SetRecord). (row.session == (v / 100)) && (row.number == v)) state.sets =
    filter_agrees (λ (row : SetRecord). row.number == v)
    (λ (row : SetRecord). (row.session == (v / 100)) && (row.number == v))
    (λ row. (row.number / 100) == row.session) (λ row k. grind (arith, nat_tests, k)) state.sets
    (keyed state well).sets in
    let within : filter (λ (row : SetRecord). row.number == v) state.sets
    ≡ filter (λ (row : SetRecord). row.number == v) (sets_in (v / 100) state.sets) =
    at ∙ filter_both (λ (row : SetRecord). row.number == v)
    (λ (row : SetRecord). row.session == (v / 100)) state.sets in
    rw within (once_numbered (λ (row : SetRecord). row.number) v (first_of_session (v / 100))
    (sets_in (v / 100) state.sets) (sets_numbered state well (v / 100)))

-- a content's vector set of a number is there at most once
pub once : (c : Content) → IsWellNumbered (state_of c) → (v : ℕ) → length (filter (is_set v) c.sets) ≤ 1
unfolding state_of
once c well v = subst (λ n. n ≤ 1) (length-map_filter v c.sets) (once_in_state (state_of c) well v)
