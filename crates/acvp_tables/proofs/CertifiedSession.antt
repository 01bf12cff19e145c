-- The request for a session's certification is of the session's account.
use Rattle.std.proofs.Common.{◌≡◌, ℕ, Bool, true, false, List, [], ◌∷◌, Option, None, Some, refl, arith}
use Rattle.std.specs.Prelude.{◌==◌, ◌&&◌, IfSome}
use Rattle.std.specs.List.{All, list_all, list_any}
use Rattle.std.proofs.lemmas.Bool.Decides.{nat_tests}
use Rattle.std.proofs.lemmas.List.Elements.{All-nil, All-cons}
use Rattle.acvp_tables.specs.State.{State, SessionRecord, certifies, of_all, own, owner_of, session_record_at}
use Rattle.acvp_tables.specs.State.{session_records_of, IsWellNumbered, IsWellNumberedFor}
use Rattle.acvp_tables.specs.declared.rows.RequestRow.{RequestRow}
use Rattle.acvp_tables.proofs.CountedLemmas.{found_all}
use Rattle.acvp_tables.proofs.Numbers.{by_class, eqb_same, requests_keyed}
use Rattle.acvp_tables.proofs.Selections.{session_names}

-- a request that is there has a number of its account
request_keyed : (u n : ℕ) (test : RequestRow → Bool) (requests : List RequestRow)
    → list_all (λ row. owner_of row.number == u) requests ≡ true
    → list_any (λ request. (request.number == n) && test request) requests ≡ true → (owner_of n == u) ≡ true
request_keyed u n test [] all there = absurd (cc)
request_keyed u n test (row ∷ requests) all there =
    go (row.number == n) refl (test row) refl (request_keyed u n test requests (grind (arith, nat_tests, all)))
  where
    here : (owner_of row.number == u) ≡ true
    here = grind (arith, nat_tests, all)

    go : (is : Bool) → (row.number == n) ≡ is → (passes : Bool) → test row ≡ passes
        → (list_any (λ request. (request.number == n) && test request) requests ≡ true → (owner_of n == u) ≡ true)
        → (owner_of n == u) ≡ true
    go true same true passes later = let number : row.number ≡ n = grind (arith, nat_tests, same) in rw number at here
    go true same false passes later = later (rw (same, passes) at there)
    go false same passes is later = later (rw same at there)

-- the requests that sessions name are an account's where all requests are
named_keyed : (u : ℕ) (requests : List RequestRow) (sessions : List SessionRecord)
    → list_all (λ row. owner_of row.number == u) requests ≡ true
    → list_all (λ row. of_all
    (λ n. list_any (λ request. (request.number == n) && certifies row.number request.body) requests)
    row.last_request) sessions ≡ true
    → list_all (λ row. of_all (λ m. owner_of m == u) row.last_request) sessions ≡ true
named_keyed u requests [] keyed there = refl
named_keyed u requests (row ∷ sessions) keyed there =
    let here : of_all (λ n. list_any (λ request. (request.number == n) && certifies row.number request.body) requests)
    row.last_request ≡ true = grind (arith, nat_tests, there) in
    let rest = named_keyed u requests sessions keyed (grind (arith, nat_tests, there)) in
    let first : of_all (λ m. owner_of m == u) row.last_request ≡ true = of row.last_request here in
    grind (arith, nat_tests, first, rest)
  where
    of : (certify : Option ℕ)
        → of_all (λ n. list_any (λ request. (request.number == n) && certifies row.number request.body) requests)
        certify ≡ true
        → of_all (λ m. owner_of m == u) certify ≡ true
    of None h = refl
    of (Some n) h = request_keyed u n (λ request. certifies row.number request.body) requests keyed h

own_named : (u : ℕ) (mine : State) → IsWellNumberedFor u mine
    → list_all (λ row. of_all (λ m. owner_of m == u) row.last_request) mine.sessions ≡ true
own_named u mine well = named_keyed u mine.requests mine.sessions (requests_keyed u mine well) well.certified

all_named : (state : State) → IsWellNumbered state
    → list_all (λ row. of_all (λ m. owner_of m == row.account) row.last_request) state.sessions ≡ true
unfolding IsWellNumbered own
all_named state well = by_class (λ a b. a == b) (λ row. row.account)
    (λ u row. of_all (λ m. owner_of m == u) row.last_request) eqb_same state.sessions
    (λ u. own_named u (own u state) (well u))

of_some : (test : ℕ → Bool) (certify : Option ℕ) (m : ℕ) → certify ≡ Some m → of_all test certify ≡ true → test m ≡ true
of_some test certify m is all = rw is at all

pub certification_names : (n m : ℕ) (state : State) (row : SessionRecord) → IsWellNumbered state
    → session_record_at n state.sessions ≡ Some row → row.last_request ≡ Some m
    → owner_of m ≡ owner_of n
certification_names n m state row well found certify =
    let all = found_all (λ (row : SessionRecord). row.number == n)
    (λ row. of_all (λ m. owner_of m == row.account) row.last_request) state.sessions row found
    (all_named state well) in
    let its : (owner_of m == row.account) ≡ true =
    of_some (λ m. owner_of m == row.account) row.last_request m certify all in
    grind (arith, nat_tests, its, session_names n state row well found)

-- ---- of an account's sessions

each_named : (u : ℕ) (sessions : List SessionRecord)
    → list_all (λ row. of_all (λ m. owner_of m == u) row.last_request) sessions ≡ true
    → All (λ row. IfSome row.last_request (λ m. owner_of m ≡ u)) sessions
each_named u [] all = All-nil (λ (row : SessionRecord). IfSome row.last_request (λ m. owner_of m ≡ u))
each_named u (row ∷ sessions) all =
    All-cons (λ (row : SessionRecord). IfSome row.last_request (λ m. owner_of m ≡ u)) row sessions
    (of row.last_request (grind (arith, nat_tests, all)))
    (each_named u sessions (grind (arith, nat_tests, all)))
  where
    of : (certify : Option ℕ) → of_all (λ m. owner_of m == u) certify ≡ true → IfSome certify (λ m. owner_of m ≡ u)
    of None h = tt
    of (Some m) h = grind (arith, nat_tests, h)

pub certifications_name : (u : ℕ) (state : State) → IsWellNumbered state
    → All (λ row. IfSome row.last_request (λ m. owner_of m ≡ u)) (session_records_of u state.sessions)
unfolding IsWellNumbered own
certifications_name u state well =
    each_named u (session_records_of u state.sessions) (own_named u (own u state) (well u))
