-- What is selected of the records: of a content's rows, by their numbers, and of an account's own rows.
use Rattle.std.proofs.Common.{◌≡◌, ℕ, ◌/◌, Bool, true, List, [], ◌∷◌, map, filter, find, Some, refl, ap, sym, arith}
use Rattle.std.specs.Prelude.{◌==◌, ◌&&◌, not, option_map}
use Rattle.std.specs.List.{list_all}
use Rattle.std.proofs.lemmas.Bool.Decides.{nat_tests}
use Rattle.std.proofs.lemmas.List.{length-map, take-map, drop-map}
use Rattle.acvp_policy.specs.Granted.{Granted}
use Rattle.acvp_registry.specs.declared.kind.Kind.{Kind}
use Rattle.acvp_registry.specs.declared.kind.Kind.TheVariants.{Vendor, Module, Environment}
use Rattle.acvp_tables.specs.Content.{Content, is_kind, session_at, set_at, object_at, request_at, live_sets}
use Rattle.acvp_tables.specs.Content.{sessions_of, objects_of, requests_of, page}
use Rattle.acvp_tables.specs.Content.{counts_of}
use Rattle.acvp_tables.specs.State.{State, SessionRecord, SetRecord, session_record, set_record, state_of, own}
use Rattle.acvp_tables.specs.State.{owner_of, session_record_at, set_record_at}
use Rattle.acvp_tables.specs.State.{sets_in, live_records, session_records_of, record_counts, IsWellNumbered}
use Rattle.acvp_tables.specs.Covers.{Covers}
use Rattle.acvp_tables.specs.Own.{account_of_change}
use Rattle.acvp_tables.specs.declared.rows.SessionRow.{SessionRow}
use Rattle.acvp_tables.specs.declared.rows.ObjectRow.{ObjectRow}
use Rattle.acvp_tables.specs.declared.rows.RequestRow.{RequestRow}
use Rattle.acvp_tables.specs.declared.change.Change.{Change}
use Rattle.acvp_tables.specs.declared.change.Change.TheVariants as change
use Rattle.acvp_tables.proofs.CountedLemmas.{found_passes, found_all}
use Rattle.acvp_tables.proofs.Numbers.{keyed, filter-within}

-- ---- the records of a content

-- a test of a record is one of its row
pub find-map : {R Q : Type 0} (f : R → Q) (p : Q → Bool) (rows : List R)
    → find p (map f rows) ≡ option_map f (find (λ r. p (f r)) rows)
find-map f p [] = refl
find-map f p (r ∷ rows) = grind (arith, nat_tests, find-map f p rows)

filter-map : {R Q : Type 0} (f : R → Q) (p : Q → Bool) (rows : List R)
    → filter p (map f rows) ≡ map f (filter (λ r. p (f r)) rows)
filter-map f p [] = refl
filter-map f p (r ∷ rows) = grind (arith, nat_tests, filter-map f p rows)

pub session_follows : (n : ℕ) (c : Content)
    → session_record_at n (state_of c).sessions ≡ option_map session_record (session_at n c.sessions)
unfolding state_of
session_follows n c = find-map session_record (λ row. row.number == n) c.sessions

pub set_follows : (n : ℕ) (c : Content) → set_record_at n (state_of c).sets ≡ option_map set_record (set_at n c.sets)
unfolding state_of
set_follows n c = find-map set_record (λ row. row.number == n) c.sets

pub sets_follow : (s : ℕ) (c : Content)
    → sets_in s (state_of c).sets ≡ map set_record (filter (λ row. row.session == s) c.sets)
unfolding state_of
sets_follow s c = filter-map set_record (λ row. row.session == s) c.sets

pub live_follow : (s : ℕ) (c : Content) → live_records s (state_of c).sets ≡ map set_record (live_sets s c.sets)
unfolding state_of
live_follow s c = filter-map set_record (λ row. (row.session == s) && not row.cancelled) c.sets

pub sessions_follow : (u : ℕ) (c : Content)
    → session_records_of u (state_of c).sessions ≡ map session_record (sessions_of u c.sessions)
unfolding state_of
sessions_follow u c = filter-map session_record (λ row. row.account == u) c.sessions

pub page_follows : (offset limit : ℕ) (rows : List SessionRow)
    → page offset limit (map session_record rows) ≡ map session_record (page offset limit rows)
page_follows offset limit rows = simp (drop-map, take-map)

pub counts_follow : (u : ℕ) (c : Content) → record_counts u (state_of c) ≡ counts_of u c
unfolding state_of
counts_follow u c = simp (filter-map session_record (λ row. row.account == u) c.sessions, length-map)

-- ---- a row that is found by its number

-- is what the number says
named : {R : Type 0} (number its : R → ℕ) (class : ℕ → ℕ) (n : ℕ) (test : R → Bool)
    → ((r : R) → test r ≡ true → number r ≡ n) → (rows : List R) (row : R)
    → find test rows ≡ Some row → list_all (λ r. class (number r) == its r) rows ≡ true → its row ≡ class n
named number its class n test is rows row found all =
    let has : number row ≡ n = is row (found_passes test rows row found) in
    let fits : (class (number row) == its row) ≡ true =
    found_all test (λ r. class (number r) == its r) rows row found all in
    grind (arith, nat_tests, fits, ap class has)

pub session_names : (n : ℕ) (state : State) (row : SessionRecord) → IsWellNumbered state
    → session_record_at n state.sessions ≡ Some row → row.account ≡ owner_of n
session_names n state row well found = named (λ (row : SessionRecord). row.number) (λ row. row.account) owner_of n
    (λ row. row.number == n)
    (λ r e. grind (arith, nat_tests, e)) state.sessions row found (keyed state well).sessions

pub request_names : (n : ℕ) (state : State) (row : RequestRow) → IsWellNumbered state
    → request_at n state.requests ≡ Some row → row.account ≡ owner_of n
request_names n state row well found =
    named (λ (row : RequestRow). row.number) (λ row. row.account) owner_of n (λ row. row.number == n)
    (λ r e. grind (arith, nat_tests, e)) state.requests row found (keyed state well).requests

pub object_names : (n : ℕ) (kind : Kind) (state : State) (row : ObjectRow) → IsWellNumbered state
    → object_at kind n state.objects ≡ Some row → row.account ≡ owner_of n
object_names n kind state row well found = named (λ (row : ObjectRow). row.number) (λ row. row.account) owner_of n
    (λ row. is_kind row.object.kind kind && (row.number == n))
    (λ r e. grind (arith, nat_tests, e)) state.objects row found (keyed state well).objects

pub set_names : (n : ℕ) (state : State) (row : SetRecord) → IsWellNumbered state
    → set_record_at n state.sets ≡ Some row → row.session ≡ n / 100
set_names n state row well found = named (λ (row : SetRecord). row.number) (λ row. row.session) (λ v. v / 100) n
    (λ row. row.number == n)
    (λ r e. grind (arith, nat_tests, e)) state.sets row found (keyed state well).sets

-- ---- a grant's account

pub grant_names : (g : Granted) (it : Change) → Covers g it → account_of_change it ≡ g.account
grant_names g (change.Certify c) covers = sym covers.3
grant_names g _ covers = sym covers.2

-- ---- all rows of an account are its own

pub own_sessions : (u : ℕ) (state : State)
    → session_records_of u (own u state).sessions ≡ session_records_of u state.sessions
unfolding own
own_sessions u state = filter-within (λ (row : SessionRecord). row.account == u) (λ row. row.account == u)
    (λ row e. e) state.sessions

pub own_objects : (u : ℕ) (kind : Kind) (state : State)
    → objects_of kind u (own u state).objects ≡ objects_of kind u state.objects
unfolding own
own_objects u kind state = filter-within (λ (row : ObjectRow). is_kind row.object.kind kind && (row.account == u))
    (λ row. row.account == u)
    (λ row e. grind (arith, nat_tests, e)) state.objects

pub own_requests : (u : ℕ) (state : State) → requests_of u (own u state).requests ≡ requests_of u state.requests
unfolding own
own_requests u state = filter-within (λ (row : RequestRow). row.account == u) (λ row. row.account == u)
    (λ row e. e) state.requests

pub own_counts : (u : ℕ) (state : State) → record_counts u (own u state) ≡ record_counts u state
own_counts u state = simp (
  own_sessions u state,
  own_objects u Vendor state,
  own_objects u Module state,
  own_objects u Environment state,
  own_requests u state,
)
