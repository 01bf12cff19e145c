-- What every run leaves of certifications, among rows that change.
use Rattle.std.proofs.Common.{◌≡◌, ℕ, List, [], ◌∷◌, ◌++◌, Bool, true, false, Option, None, Some, refl, ap, ◌∙◌}
use Rattle.std.proofs.Common.{arith}
use Rattle.std.specs.Prelude.{find, nat_lt, option_map, is_some, ◌==◌, ◌&&◌, ◌||◌, if◌then◌else◌}
use Rattle.std.specs.Option.{option_or}
use Rattle.std.proofs.lemmas.Bool.Decides.{nat_tests}
use Rattle.std.proofs.lemmas.List.Folds.{find-append}
use Rattle.acvp_policy.specs.Conditions.{is_frozen, is_some_and}
use Rattle.acvp_tables.specs.Changes.{changed, is_request, is_session, new_certification}
use Rattle.acvp_tables.specs.Changes.{with_last_request, with_status}
use Rattle.acvp_tables.specs.Content.{request_at, session_at}
use Rattle.acvp_tables.specs.State.{of_all}
use Rattle.acvp_tables.specs.declared.change.NewCertification.{NewCertification}
use Rattle.acvp_tables.specs.declared.rows.RequestRow.{RequestRow}
use Rattle.acvp_tables.specs.declared.rows.RequestStatus.{RequestStatus}
use Rattle.acvp_tables.specs.declared.rows.RequestStatus.TheVariants as status
use Rattle.acvp_tables.specs.declared.rows.SessionRow.{SessionRow}
use Rattle.acvp_desk.specs.Certifications.{certified_session, is_certifiable, is_last, is_last_of, is_rejected}
use Rattle.acvp_desk.specs.Certifications.{may_be_certified, names_it}
use Rattle.acvp_desk.specs.Place.{certification_of, certification_status}
use Rattle.acvp_desk.proofs.NextSession.{left_true}

-- ---- rows that are found

pub found_is : {R : Type 0} (p : R → Bool) (rows : List R) (x : R) → find p rows ≡ Some x → p x ≡ true
found_is p [] x is = absurd (cc)
found_is {R = R} p (r ∷ rows) x is = go (p r) refl is (found_is p rows x)
  where
    go : (a : Bool) → p r ≡ a → (if a then Some r else find p rows) ≡ Some x
        → (find p rows ≡ Some x → p x ≡ true) → p x ≡ true
    go true e is later = let same : r ≡ x = cc in rw (← same) e
    go false e is later = later is

-- a row that is changed and keeps its number is found by it
found_changed : {R : Type 0} (number : R → ℕ) (test : R → Bool) (f : R → R) → ((r : R) → number (f r) ≡ number r)
    → (n : ℕ) (rows : List R)
    → find (λ r. number r == n) (changed test f rows)
    ≡ option_map (λ r. if test r then f r else r) (find (λ r. number r == n) rows)
found_changed number test f same n [] = refl
found_changed {R = R} number test f same n (r ∷ rows) =
    go (test r) (number r == n) refl refl (found_changed number test f same n rows)
  where
    Found : List R → Type 0
    Found rows = find (λ r. number r == n) (changed test f rows)
        ≡ option_map (λ r. if test r then f r else r) (find (λ r. number r == n) rows)

    go : (t e : Bool) → test r ≡ t → (number r == n) ≡ e → Found rows → Found (r ∷ rows)
    go true true t e later = rw (t, same r, e, t) refl
    go true false t e later = rw (t, same r, e) later
    go false true t e later = rw (t, e, t) refl
    go false false t e later = rw (t, e) later

pub session_changed : (m : ℕ) (f : SessionRow → SessionRow) → ((row : SessionRow) → (f row).number ≡ row.number)
    → (n : ℕ) (sessions : List SessionRow)
    → session_at n (changed (is_session m) f sessions)
    ≡ option_map (λ row. if is_session m row then f row else row) (session_at n sessions)
session_changed m f same n sessions = found_changed (λ row. row.number) (is_session m) f same n sessions

pub request_changed : (m : ℕ) (f : RequestRow → RequestRow) → ((row : RequestRow) → (f row).number ≡ row.number)
    → (n : ℕ) (requests : List RequestRow)
    → request_at n (changed (is_request m) f requests)
    ≡ option_map (λ row. if is_request m row then f row else row) (request_at n requests)
request_changed m f same n requests = found_changed (λ row. row.number) (is_request m) f same n requests

-- ---- what holds of all rows

abbrev pub Last : List SessionRow → List RequestRow → Type 0
Last sessions requests = (n : ℕ) → of_all (is_last sessions) (request_at n requests) ≡ true

abbrev pub Certifiable : List SessionRow → List RequestRow → Type 0
Certifiable sessions requests = (n : ℕ) → of_all (is_certifiable requests) (session_at n sessions) ≡ true

-- the session of a number isn't frozen
abbrev pub IsThawed : ℕ → List SessionRow → List RequestRow → Type 0
IsThawed n sessions requests = (row : SessionRow) → session_at n sessions ≡ Some row
    → is_frozen (certification_of row.last_request requests) ≡ false

-- the requests for certifications of a session have lower numbers than this
abbrev pub AreBefore : ℕ → ℕ → List RequestRow → Type 0
AreBefore next session requests = (r : RequestRow) → request_at r.number requests ≡ Some r
    → certified_session r.body ≡ Some session → nat_lt r.number next ≡ true

-- the request of a number isn't rejected
abbrev pub Stands : ℕ → List RequestRow → Type 0
Stands n requests = (r : RequestRow) → request_at n requests ≡ Some r → is_rejected r.status ≡ false

-- a request for a certification that freezes no session is rejected
thawed_rejected : (s : RequestStatus) → is_frozen (Some (certification_status s)) ≡ false → is_rejected s ≡ true
thawed_rejected status.Initial thawed = absurd (cc)
thawed_rejected (status.Approved k) thawed = absurd (cc)
thawed_rejected status.Rejected thawed = refl

-- ---- the request that a session names

-- one that isn't rejected is the last
pub standing_last : (r : RequestRow) (found : Option SessionRow) → is_rejected r.status ≡ false
    → names_it r found ≡ true → is_last_of r.number found ≡ true
standing_last r None stands is = absurd (cc)
standing_last r (Some row) stands is = go row.last_request is
  where
    at : (same rejected later : Bool) → rejected ≡ false → (same || (rejected && later)) ≡ true → same ≡ true
    at true rejected later stands is = refl
    at false true later stands is = absurd (cc)
    at false false later stands is = absurd (cc)

    go : (last : Option ℕ)
        → is_some_and last (λ m. (m == r.number) || (is_rejected r.status && nat_lt r.number m)) ≡ true
        → is_some_and last (λ m. m == r.number) ≡ true
    go None is = absurd (cc)
    go (Some m) is = at (m == r.number) (is_rejected r.status) (nat_lt r.number m) stands is

-- and the last is named
last_named : (r : RequestRow) (found : Option SessionRow) → is_last_of r.number found ≡ true
    → names_it r found ≡ true
last_named r None is = absurd (cc)
last_named r (Some row) is = go row.last_request is
  where
    go : (last : Option ℕ) → is_some_and last (λ m. m == r.number) ≡ true
        → is_some_and last (λ m. (m == r.number) || (is_rejected r.status && nat_lt r.number m)) ≡ true
    go None is = absurd (cc)
    go (Some m) is = rw is refl

-- ---- sessions that change, and keep their last request

module _ (n : ℕ) (f : SessionRow → SessionRow) (same : (row : SessionRow) → (f row).number ≡ row.number)
    (keeps : (row : SessionRow) → (f row).last_request ≡ row.last_request) where
  last_same : (r : RequestRow) (found : Option SessionRow)
      → names_it r (option_map (λ row. if is_session n row then f row else row) found) ≡ names_it r found
  last_same r None = refl
  last_same r (Some row) = go (is_session n row)
    where
      go : (b : Bool) → names_it r (Some (if b then f row else row)) ≡ names_it r (Some row)
      go true = rw (keeps row) refl
      go false = refl

  pub last_stays : (sessions : List SessionRow) (requests : List RequestRow) → Last sessions requests
      → Last (changed (is_session n) f sessions) requests
  last_stays sessions requests last m = go (request_at m requests) (last m)
    where
      at : (r : RequestRow) (asked : Option ℕ)
          → of_all (λ s. names_it r (session_at s (changed (is_session n) f sessions))) asked
          ≡ of_all (λ s. names_it r (session_at s sessions)) asked
      at r None = refl
      at r (Some s) = rw (session_changed n f same s sessions) (last_same r (session_at s sessions))

      go : (found : Option RequestRow) → of_all (is_last sessions) found ≡ true
          → of_all (is_last (changed (is_session n) f sessions)) found ≡ true
      go None is = refl
      go (Some r) is = rw (at r (certified_session r.body)) is

  -- one that isn't frozen
  thawed_stays : (requests : List RequestRow) (row : SessionRow)
      → is_frozen (certification_of row.last_request requests) ≡ false → is_certifiable requests row ≡ true
      → is_certifiable requests (f row) ≡ true
  thawed_stays requests row thawed is = rw (keeps row) (go row.last_request thawed is)
    where
      found : (r : Option RequestRow)
          → is_frozen (option_map (λ (r : RequestRow). certification_status r.status) r) ≡ false
          → is_some_and r (λ r. is_rejected r.status || may_be_certified row) ≡ true
          → is_some_and r (λ r. is_rejected r.status || may_be_certified (f row)) ≡ true
      found None thawed is = is
      found (Some r) thawed is = rw (thawed_rejected r.status thawed) refl

      go : (last : Option ℕ) → is_frozen (certification_of last requests) ≡ false
          → of_all (λ n. is_some_and (request_at n requests) (λ r. is_rejected r.status || may_be_certified row)) last
          ≡ true
          → of_all (λ n. is_some_and (request_at n requests) (λ r. is_rejected r.status || may_be_certified (f row)))
          last ≡ true
      go None thawed is = refl
      go (Some k) thawed is = found (request_at k requests) thawed is

  pub certifiable_stays : (sessions : List SessionRow) (requests : List RequestRow) → IsThawed n sessions requests
      → Certifiable sessions requests → Certifiable (changed (is_session n) f sessions) requests
  certifiable_stays sessions requests thawed all m =
      rw (session_changed n f same m sessions) (go (session_at m sessions) refl (all m))
    where
      at : (row : SessionRow) → session_at m sessions ≡ Some row → is_certifiable requests row ≡ true
          → (b : Bool) → (row.number == n) ≡ b → is_certifiable requests (if b then f row else row) ≡ true
      at row found is false e = is
      at row found is true e =
          let its : (row.number == m) ≡ true = found_is (λ r. r.number == m) sessions row found in
          let equal : m ≡ n = grind (arith, nat_tests, its, e) in
          thawed_stays requests row (thawed row (rw (← equal) found)) is

      go : (found : Option SessionRow) → session_at m sessions ≡ found
          → of_all (is_certifiable requests) found ≡ true
          → of_all (is_certifiable requests) (option_map (λ row. if is_session n row then f row else row) found) ≡ true
      go None found is = refl
      go (Some row) found is = at row found is (row.number == n) refl

-- ---- rows that are added

pub appended : {R : Type 0} (p : R → Bool) (rows more : List R) (x : R) → find p rows ≡ Some x → find p (rows ++ more)
    ≡ Some x
appended p rows more x is = find-append p rows more ∙ ap (λ found. option_or found (find p more)) is

pub behind : {R : Type 0} (p : R → Bool) (rows more : List R) → find p rows ≡ None → find p (rows ++ more) ≡ find p more
behind p rows more none = find-append p rows more ∙ ap (λ found. option_or found (find p more)) none

-- a session that was there is found as before
named_with_more : (r : RequestRow) (s : ℕ) (sessions more : List SessionRow)
    → names_it r (session_at s sessions) ≡ true → names_it r (session_at s (sessions ++ more)) ≡ true
named_with_more r s sessions more is = go (session_at s sessions) refl is
  where
    go : (found : Option SessionRow) → session_at s sessions ≡ found → names_it r found ≡ true
        → names_it r (session_at s (sessions ++ more)) ≡ true
    go None found is = absurd (cc)
    go (Some row) found is = rw (appended (λ row. row.number == s) sessions more row found) is

is_last_with_more : (sessions more : List SessionRow) (r : RequestRow) → is_last sessions r ≡ true
    → is_last (sessions ++ more) r ≡ true
is_last_with_more sessions more r is = go (certified_session r.body) is
  where
    go : (asked : Option ℕ) → of_all (λ s. names_it r (session_at s sessions)) asked ≡ true
        → of_all (λ s. names_it r (session_at s (sessions ++ more))) asked ≡ true
    go None is = refl
    go (Some s) is = named_with_more r s sessions more is

-- where sessions come that nobody has asked to certify
pub last_with_session : (sessions : List SessionRow) (new : SessionRow) (requests : List RequestRow)
    → Last sessions requests → Last (sessions ++ new ∷ []) requests
last_with_session sessions new requests last m = go (request_at m requests) (last m)
  where
    go : (found : Option RequestRow) → of_all (is_last sessions) found ≡ true
        → of_all (is_last (sessions ++ new ∷ [])) found ≡ true
    go None is = refl
    go (Some r) is = is_last_with_more sessions (new ∷ []) r is

pub certifiable_with_session : (sessions : List SessionRow) (new : SessionRow) (requests : List RequestRow)
    → new.last_request ≡ None → Certifiable sessions requests → Certifiable (sessions ++ new ∷ []) requests
certifiable_with_session sessions new requests none all m = go (session_at m sessions) refl (all m)
  where
    added : (b : Bool) → of_all (is_certifiable requests) (if b then Some new else None) ≡ true
    added true = rw none refl
    added false = refl

    go : (found : Option SessionRow) → session_at m sessions ≡ found
        → of_all (is_certifiable requests) found ≡ true
        → of_all (is_certifiable requests) (session_at m (sessions ++ new ∷ [])) ≡ true
    go None found is = rw (behind (λ row. row.number == m) sessions (new ∷ []) found) (added (new.number == m))
    go (Some row) found is = rw (appended (λ row. row.number == m) sessions (new ∷ []) row found) is

-- where requests come
certifiable_row_with_more : (requests more : List RequestRow) (row : SessionRow)
    → is_certifiable requests row ≡ true → is_certifiable (requests ++ more) row ≡ true
certifiable_row_with_more requests more row is = go row.last_request is
  where
    at : (k : ℕ) (found : Option RequestRow) → request_at k requests ≡ found
        → is_some_and found (λ r. is_rejected r.status || may_be_certified row) ≡ true
        → is_some_and (request_at k (requests ++ more)) (λ r. is_rejected r.status || may_be_certified row) ≡ true
    at k None found is = absurd (cc)
    at k (Some r) found is = rw (appended (λ r. r.number == k) requests more r found) is

    go : (last : Option ℕ)
        → of_all (λ n. is_some_and (request_at n requests) (λ r. is_rejected r.status || may_be_certified row)) last
        ≡ true
        → of_all (λ n. is_some_and (request_at n (requests ++ more)) (λ r. is_rejected r.status
        || may_be_certified row)) last ≡ true
    go None is = refl
    go (Some k) is = at k (request_at k requests) refl is

pub certifiable_with_request : (sessions : List SessionRow) (requests more : List RequestRow)
    → Certifiable sessions requests → Certifiable sessions (requests ++ more)
certifiable_with_request sessions requests more all m = go (session_at m sessions) (all m)
  where
    go : (found : Option SessionRow) → of_all (is_certifiable requests) found ≡ true
        → of_all (is_certifiable (requests ++ more)) found ≡ true
    go None is = refl
    go (Some row) is = certifiable_row_with_more requests more row is

-- a request that asks for no certification
pub last_with_request : (sessions : List SessionRow) (requests : List RequestRow) (new : RequestRow)
    → certified_session new.body ≡ None → Last sessions requests → Last sessions (requests ++ new ∷ [])
last_with_request sessions requests new none last m = go (request_at m requests) refl (last m)
  where
    added : (b : Bool) → of_all (is_last sessions) (if b then Some new else None) ≡ true
    added true = rw none refl
    added false = refl

    go : (found : Option RequestRow) → request_at m requests ≡ found → of_all (is_last sessions) found ≡ true
        → of_all (is_last sessions) (request_at m (requests ++ new ∷ [])) ≡ true
    go None found is = rw (behind (λ r. r.number == m) requests (new ∷ []) found) (added (new.number == m))
    go (Some r) found is = rw (appended (λ r. r.number == m) requests (new ∷ []) r found) is

-- ---- a session that is asked to be certified

module _ (it : NewCertification) (sessions : List SessionRow) (requests : List RequestRow) where
  abbrev n : ℕ
  n = it.certification.session

  abbrev asked_sessions : List SessionRow
  asked_sessions = changed (is_session n) (with_last_request it.number) sessions

  abbrev asked_requests : List RequestRow
  asked_requests = requests ++ new_certification it ∷ []

  -- each request for a certification of a session that isn't frozen is rejected
  all_rejected : IsThawed n sessions requests → (r : RequestRow) → request_at r.number requests ≡ Some r
      → names_it r (session_at n sessions) ≡ true → is_rejected r.status ≡ true
  all_rejected thawed r found is = at (session_at n sessions) refl is
    where
      by : (row : SessionRow) (k : ℕ) → row.last_request ≡ Some k → session_at n sessions ≡ Some row
          → (b : Bool) → (k == r.number) ≡ b → (b || (is_rejected r.status && nat_lt r.number k)) ≡ true
          → is_rejected r.status ≡ true
      by row k named there true e is =
          let equal : k ≡ r.number = grind (arith, nat_tests, e) in
          thawed_rejected r.status (rw (named, equal, found) at (thawed row there))
      by row k named there false e is = left_true (is_rejected r.status) (nat_lt r.number k) is

      last : (row : SessionRow) (asked : Option ℕ) → row.last_request ≡ asked → session_at n sessions ≡ Some row
          → is_some_and asked (λ k. (k == r.number) || (is_rejected r.status && nat_lt r.number k)) ≡ true
          → is_rejected r.status ≡ true
      last row None named there is = absurd (cc)
      last row (Some k) named there is = by row k named there (k == r.number) refl is

      at : (row : Option SessionRow) → session_at n sessions ≡ row → names_it r row ≡ true
          → is_rejected r.status ≡ true
      at None there is = absurd (cc)
      at (Some row) there is = last row row.last_request refl there is

  asked_last : IsThawed n sessions requests → AreBefore it.number n requests → (r : RequestRow)
      → request_at r.number requests ≡ Some r → is_last sessions r ≡ true → is_last asked_sessions r ≡ true
  asked_last thawed before r found is = go (certified_session r.body) refl is
    where
      later : (same : Bool) → is_rejected r.status ≡ true → nat_lt r.number it.number ≡ true
          → (same || (is_rejected r.status && nat_lt r.number it.number)) ≡ true
      later true rejected low = refl
      later false rejected low = rw (rejected, low) refl

      at : (s : ℕ) (row : Option SessionRow) → session_at s sessions ≡ row → certified_session r.body ≡ Some s
          → names_it r row ≡ true
          → names_it r (option_map (λ row. if is_session n row then with_last_request it.number row else row) row)
          ≡ true
      at s None there asks is = is
      at s (Some row) there asks is = by (row.number == n) refl
        where
          by : (b : Bool) → (row.number == n) ≡ b
              → names_it r (Some (if b then with_last_request it.number row else row)) ≡ true
          by false e = is
          by true e =
              let its : (row.number == s) ≡ true = found_is (λ row. row.number == s) sessions row there in
              let equal : s ≡ n = grind (arith, nat_tests, its, e) in
              later (it.number == r.number) (all_rejected thawed r found (rw (← equal, there) is))
              (before r found (rw equal at asks))

      go : (asked : Option ℕ) → certified_session r.body ≡ asked
          → of_all (λ s. names_it r (session_at s sessions)) asked ≡ true
          → of_all (λ s. names_it r (session_at s asked_sessions)) asked ≡ true
      go None e is = refl
      go (Some s) e is =
          rw (session_changed n (with_last_request it.number) (λ row. refl) s sessions)
          (at s (session_at s sessions) refl e is)

  pub last_once_asked : IsThawed n sessions requests → is_some (session_at n sessions) ≡ true
      → AreBefore it.number n requests → Last sessions requests → Last asked_sessions asked_requests
  last_once_asked thawed there before last m = go (request_at m requests) refl (last m)
    where
      same : (row : SessionRow) → session_at n sessions ≡ Some row
          → is_last_of it.number (session_at n asked_sessions) ≡ true
      same row found =
          let its : (row.number == n) ≡ true = found_is (λ row. row.number == n) sessions row found in
          rw (session_changed n (with_last_request it.number) (λ row. refl) n sessions, found, its)
          (grind (arith, nat_tests))

      new_last : (row : Option SessionRow) → session_at n sessions ≡ row → is_some row ≡ true
          → is_last asked_sessions (new_certification it) ≡ true
      new_last None found there = absurd (cc)
      new_last (Some row) found there =
          last_named (new_certification it) (session_at n asked_sessions) (same row found)

      added : (b : Bool) → of_all (is_last asked_sessions) (if b then Some (new_certification it) else None) ≡ true
      added true = new_last (session_at n sessions) refl there
      added false = refl

      go : (found : Option RequestRow) → request_at m requests ≡ found → of_all (is_last sessions) found ≡ true
          → of_all (is_last asked_sessions) (request_at m asked_requests) ≡ true
      go None found is =
          rw (behind (λ r. r.number == m) requests (new_certification it ∷ []) found) (added (it.number == m))
      go (Some r) found is =
          let its : (r.number == m) ≡ true = found_is (λ r. r.number == m) requests r found in
          let equal : m ≡ r.number = grind (arith, nat_tests, its) in
          rw (appended (λ r. r.number == m) requests (new_certification it ∷ []) r found)
          (asked_last thawed before r (rw equal at found) is)

  pub certifiable_once_asked : ((row : SessionRow) → session_at n sessions ≡ Some row → may_be_certified row ≡ true)
      → Certifiable sessions requests → Certifiable asked_sessions asked_requests
  certifiable_once_asked passed all m =
      rw (session_changed n (with_last_request it.number) (λ row. refl) m sessions)
      (go (session_at m sessions) refl (all m))
    where
      found_at : (x : Option RequestRow) → request_at it.number requests ≡ x → (row : SessionRow)
          → may_be_certified row ≡ true
          → is_some_and (request_at it.number asked_requests) (λ r. is_rejected r.status || may_be_certified row) ≡ true
      found_at None none row may =
          let itself : (it.number == it.number) ≡ true = grind (arith, nat_tests) in
          rw (behind (λ r. r.number == it.number) requests (new_certification it ∷ []) none, itself, may) refl
      found_at (Some r) found row may =
          rw (appended (λ r. r.number == it.number) requests (new_certification it ∷ []) r found, may)
          (either (is_rejected r.status))
        where
          either : (b : Bool) → (b || true) ≡ true
          either true = refl
          either false = refl

      at : (row : SessionRow) → session_at m sessions ≡ Some row → is_certifiable requests row ≡ true
          → (b : Bool) → (row.number == n) ≡ b
          → is_certifiable asked_requests (if b then with_last_request it.number row else row) ≡ true
      at row found is false e = certifiable_row_with_more requests (new_certification it ∷ []) row is
      at row found is true e =
          let its : (row.number == m) ≡ true = found_is (λ row. row.number == m) sessions row found in
          let equal : m ≡ n = grind (arith, nat_tests, its, e) in
          found_at (request_at it.number requests) refl (with_last_request it.number row)
          (passed row (rw equal at found))

      go : (found : Option SessionRow) → session_at m sessions ≡ found
          → of_all (is_certifiable requests) found ≡ true
          → of_all (is_certifiable asked_requests)
          (option_map (λ row. if is_session n row then with_last_request it.number row else row) found) ≡ true
      go None found is = refl
      go (Some row) found is = at row found is (row.number == n) refl

-- ---- a request that is decided

module _ (n : ℕ) (decided : RequestStatus) (sessions : List SessionRow) (requests : List RequestRow) where
  abbrev decided_requests : List RequestRow
  decided_requests = changed (is_request n) (with_status decided) requests

  pub last_once_decided : Stands n requests → Last sessions requests → Last sessions decided_requests
  last_once_decided stands last m =
      rw (request_changed n (with_status decided) (λ r. refl) m requests) (go (request_at m requests) refl (last m))
    where
      still : (r : RequestRow) → is_rejected r.status ≡ false → (asked : Option ℕ)
          → of_all (λ s. names_it r (session_at s sessions)) asked ≡ true
          → of_all (λ s. names_it (with_status decided r) (session_at s sessions)) asked ≡ true
      still r before None is = refl
      still r before (Some s) is =
          last_named (with_status decided r) (session_at s sessions)
          (standing_last r (session_at s sessions) before is)

      by : (r : RequestRow) → request_at m requests ≡ Some r → (r.number == n) ≡ true
          → is_last sessions r ≡ true → is_last sessions (with_status decided r) ≡ true
      by r found e is =
          let its : (r.number == m) ≡ true = found_is (λ r. r.number == m) requests r found in
          let equal : m ≡ n = grind (arith, nat_tests, its, e) in
          still r (stands r (rw equal at found)) (certified_session r.body) is

      at : (r : RequestRow) → request_at m requests ≡ Some r → is_last sessions r ≡ true
          → (b : Bool) → (r.number == n) ≡ b
          → is_last sessions (if b then with_status decided r else r) ≡ true
      at r found is false e = is
      at r found is true e = by r found e is

      go : (found : Option RequestRow) → request_at m requests ≡ found → of_all (is_last sessions) found ≡ true
          → of_all (is_last sessions) (option_map (λ r. if is_request n r then with_status decided r else r) found)
          ≡ true
      go None found is = refl
      go (Some r) found is = at r found is (r.number == n) refl

  pub certifiable_once_decided : Stands n requests → Certifiable sessions requests
      → Certifiable sessions decided_requests
  certifiable_once_decided stands all m = go (session_at m sessions) (all m)
    where
      rejected : (row : SessionRow) (r : RequestRow) → request_at n requests ≡ Some r
          → (is_rejected r.status || may_be_certified row) ≡ true
          → (b : Bool) → is_rejected decided ≡ b → (b || may_be_certified row) ≡ true
      rejected row r found is true f = refl
      rejected row r found is false f = rw (stands r found) at is

      by : (row : SessionRow) (k : ℕ) (r : RequestRow) → request_at k requests ≡ Some r
          → (is_rejected r.status || may_be_certified row) ≡ true
          → (b : Bool) → (r.number == n) ≡ b
          → (is_rejected (if b then with_status decided r else r).status || may_be_certified row) ≡ true
      by row k r found is false e = is
      by row k r found is true e =
          let its : (r.number == k) ≡ true = found_is (λ r. r.number == k) requests r found in
          let equal : k ≡ n = grind (arith, nat_tests, its, e) in
          rejected row r (rw equal at found) is (is_rejected decided) refl

      at : (row : SessionRow) (k : ℕ) (found : Option RequestRow) → request_at k requests ≡ found
          → is_some_and found (λ r. is_rejected r.status || may_be_certified row) ≡ true
          → is_some_and (option_map (λ r. if is_request n r then with_status decided r else r) found)
          (λ r. is_rejected r.status || may_be_certified row) ≡ true
      at row k None found is = is
      at row k (Some r) found is = by row k r found is (r.number == n) refl

      last : (row : SessionRow) (asked : Option ℕ)
          → of_all (λ k. is_some_and (request_at k requests) (λ r. is_rejected r.status || may_be_certified row)) asked
          ≡ true
          → of_all (λ k. is_some_and (request_at k decided_requests) (λ r. is_rejected r.status
          || may_be_certified row)) asked ≡ true
      last row None is = refl
      last row (Some k) is = rw (request_changed n (with_status decided) (λ r. refl) k requests)
          (at row k (request_at k requests) refl is)

      go : (found : Option SessionRow) → of_all (is_certifiable requests) found ≡ true
          → of_all (is_certifiable decided_requests) found ≡ true
      go None is = refl
      go (Some row) is = last row row.last_request is
