-- Certifications among the rows of an account, and among all.
use Rattle.std.proofs.Common.{◌≡◌, ℕ, ◌+◌, ◌≤◌, Bool, true, false, List, [], ◌∷◌, ◌++◌, length, Option, None, Some}
use Rattle.std.proofs.Common.{◌⊎◌, inl, inr, refl, ap, subst, ◌∙◌, arith}
use Rattle.std.specs.Prelude.{filter, find, option_map, is_some, ◌&&◌, ◌||◌, ◌==◌, if◌then◌else◌, nat_lt}
use Rattle.std.specs.List.{All, flat_map, list_all}
use Rattle.std.specs.List.Sorted.{IsPermutation}
use Rattle.std.proofs.lemmas.Bool.Decides.{nat_tests}
use Rattle.std.proofs.lemmas.List.Concat.{flat_map-cons}
use Rattle.std.proofs.lemmas.List.Elements.{All-nil, All-cons, All-head, All-tail}
use Rattle.std.proofs.lemmas.List.Sorted.{All-permutation}
use Rattle.acvp_mac.specs.Conditions.{Condition, first_broken}
use Rattle.acvp_policy.specs.Conditions.{is_some_and}
use Rattle.acvp_desk.specs.Certifications.{AreCertified, certified_session, is_certifiable, is_last, is_rejected}
use Rattle.acvp_desk.specs.Certifications.{may_be_certified, names_it}
use Rattle.acvp_desk.proofs.CertifiedRows.{found_is}
use Rattle.acvp_desk.proofs.DecidedRequest.{found_passes}
use Rattle.acvp_desk.proofs.RegisteredRecords.{requests_once}
use Rattle.acvp_desk.proofs.RegisteredRows.{filtered_own}
use Rattle.acvp_registry.specs.declared.kind.Kind.TheVariants.{Module, Environment}
use Rattle.acvp_tables.specs.Content.{Content, object_at, request_at, session_at}
use Rattle.acvp_tables.specs.State.{IsNumbered, IsWellNumbered, IsWellNumberedFor, first_of_account}
use Rattle.acvp_tables.specs.State.{is_sound_body, of_all, owner_of, session_record, session_record_at, state_of}
use Rattle.acvp_tables.specs.declared.rows.RequestBody.{RequestBody}
use Rattle.acvp_tables.specs.declared.rows.RequestBody.TheVariants as body
use Rattle.acvp_tables.specs.declared.rows.RequestRow.{RequestRow}
use Rattle.acvp_tables.specs.declared.rows.SessionRow.{SessionRow}
use Rattle.acvp_tables.proofs.CertifiedSession.{certification_names}
use Rattle.acvp_tables.proofs.KeptLemmas.{list_all_weaker, of_all_weaker}
use Rattle.acvp_tables.proofs.Numbers.{eqb_same, keyed, once_numbered}
use Rattle.acvp_tables.proofs.Selections.{session_follows}
use Rattle.acvp_check.specs.Conditions.{certifiable_conditions, certification_conditions, finding, is_beyond_kept}
use Rattle.acvp_check.specs.Conditions.{last_conditions}
use Rattle.acvp_check.specs.declared.finding.Finding.{Finding}
use Rattle.acvp_check.specs.declared.finding.RowKey.TheVariants as key
use Rattle.acvp_check.specs.declared.finding.Wrong.TheVariants as wrong
use Rattle.acvp_check.specs.Order.{HaveSameRows}
use Rattle.acvp_check.specs.Rows.{rows_of}
use Rattle.acvp_check.proofs.AccountLemmas.{join, of_each, rows_all, split, to_each}
use Rattle.acvp_check.proofs.HeldLemmas.{last_holds}
use Rattle.acvp_check.proofs.Holds.{both, holds, joint, numbered_rows}
use Rattle.acvp_check.proofs.OrderLemmas.{alike_found, permuted}

-- ---- what is read of a row

pub by_status : (may : Bool) (found : Option RequestRow)
    → is_some_and found (λ r. is_rejected r.status || may)
    ≡ is_some_and (option_map (λ (r : RequestRow). r.status) found) (λ s. is_rejected s || may)
by_status may None = refl
by_status may (Some r) = refl

pub by_last : (r : RequestRow) (found : Option SessionRow)
    → names_it r found ≡ is_some_and (option_map (λ (row : SessionRow). row.last_request) found)
    (λ last. is_some_and last (λ m. (m == r.number) || (is_rejected r.status && nat_lt r.number m)))
by_last r None = refl
by_last r (Some row) = refl

-- ---- rows that are found by their numbers

-- where a test tells whose a row is, it finds the same among the rows of an account, or none
pub among_own : {R : Type 0} (test such : R → Bool) (class : R → ℕ) (u : ℕ) (b : Bool)
    → ((r : R) → such r ≡ true → test r ≡ true → (class r == u) ≡ b) → (rows : List R) → list_all such rows ≡ true
    → find test (filter (λ r. class r == u) rows) ≡ (if b then find test rows else None)
among_own test such class u true tells [] all = refl
among_own test such class u false tells [] all = refl
among_own test such class u b tells (r ∷ rows) all =
    grind (arith, nat_tests, tells r, among_own test such class u b tells rows)

-- as its number does
numbered_own : {R : Type 0} (number class : R → ℕ) (u n : ℕ) (rows : List R)
    → list_all (λ r. owner_of (number r) == class r) rows ≡ true
    → find (λ r. number r == n) (filter (λ r. class r == u) rows)
    ≡ (if owner_of n == u then find (λ r. number r == n) rows else None)
numbered_own {R = R} number class u n rows all =
    among_own (λ r. number r == n) (λ r. owner_of (number r) == class r) class u (owner_of n == u) tells rows all
  where
    tells : (r : R) → (owner_of (number r) == class r) ≡ true → (number r == n) ≡ true
        → (class r == u) ≡ (owner_of n == u)
    tells r keyed at = grind (arith, nat_tests, keyed, at)

-- what holds of each that is found holds of all
pub all_found : {R : Type 0} (number : R → ℕ) (q : R → Bool) (i : ℕ) (rows : List R) → IsNumbered number i rows
    → ((n : ℕ) → i ≤ n → of_all q (find (λ r. number r == n) rows) ≡ true) → list_all q rows ≡ true
all_found number q i [] e is = refl
all_found number q i (r ∷ rows) e is =
    let here : number r ≡ i = cc (e) in
    let rest : IsNumbered number (i + 1) rows = cc (e) in
    joint (q r) (list_all q rows) (first here) (all_found number q (i + 1) rows rest (past here))
  where
    first : number r ≡ i → q r ≡ true
    first here =
        let on : (number r == i) ≡ true = grind (arith, nat_tests, here) in
        let found = is i (omega arith) in
        rw on at found

    past : number r ≡ i → (n : ℕ) → i + 1 ≤ n → of_all q (find (λ r. number r == n) rows) ≡ true
    past here n low =
        let off : (number r == n) ≡ false = grind (arith, nat_tests, here, low) in
        let found = is n (omega (arith, low)) in
        rw off at found

-- and what holds of all holds of the one that is found
pub of_found : {R : Type 0} (p q : R → Bool) (rows : List R) → list_all q rows ≡ true → of_all q (find p rows) ≡ true
of_found {R = R} p q rows all = go (find p rows) refl
  where
    go : (found : Option R) → find p rows ≡ found → of_all q found ≡ true
    go None is = refl
    go (Some x) is = found_passes p q rows x is all

-- of one condition a row
pub one : {R : Type 0} (p : R → Bool) (rows : List R) → list_all (λ r. p r && true) rows ≡ true
    → list_all p rows ≡ true
one p rows e = list_all_weaker (λ r. p r && true) p (λ r h. (both (p r) true h).0) rows e

-- ---- an account's rows, and all

module _ (c : Content) (sound : IsWellNumbered (state_of c)) where
  sessions_own : (u n : ℕ) → session_at n (rows_of u c).sessions
      ≡ (if owner_of n == u then session_at n c.sessions else None)
  unfolding rows_of state_of
  sessions_own u n = numbered_own (λ (row : SessionRow). row.number) (λ row. row.account) u n c.sessions
      (rows_all session_record (λ row. owner_of row.number == row.account) c.sessions
      (keyed (state_of c) sound).sessions)

  pub requests_own : (u n : ℕ) → request_at n (rows_of u c).requests
      ≡ (if owner_of n == u then request_at n c.requests else None)
  unfolding rows_of state_of
  requests_own u n = numbered_own (λ (row : RequestRow). row.number) (λ row. row.account) u n c.requests
      (keyed (state_of c) sound).requests

  -- ---- where the conditions hold

  last_of_all : (u : ℕ) (r : RequestRow) → is_last (rows_of u c).sessions r ≡ true → is_last c.sessions r ≡ true
  last_of_all u r is = go (certified_session r.body) is
    where
      at : (s : ℕ) (b : Bool) → names_it r (if b then session_at s c.sessions else None) ≡ true
          → names_it r (session_at s c.sessions) ≡ true
      at s true is = is
      at s false is = absurd (cc)

      go : (asked : Option ℕ) → of_all (λ s. names_it r (session_at s (rows_of u c).sessions)) asked ≡ true
          → of_all (λ s. names_it r (session_at s c.sessions)) asked ≡ true
      go None is = refl
      go (Some s) is = at s (owner_of s == u) (rw (sessions_own u s) at is)

  certifiable_of_all : (u : ℕ) (row : SessionRow) → is_certifiable (rows_of u c).requests row ≡ true
      → is_certifiable c.requests row ≡ true
  certifiable_of_all u row is = go row.last_request is
    where
      Fine : Option RequestRow → Type 0
      Fine found = is_some_and found (λ r. is_rejected r.status || may_be_certified row) ≡ true

      at : (k : ℕ) (b : Bool) → Fine (if b then request_at k c.requests else None) → Fine (request_at k c.requests)
      at k true is = is
      at k false is = absurd (cc)

      go : (last : Option ℕ)
          → of_all (λ n. is_some_and (request_at n (rows_of u c).requests)
          (λ r. is_rejected r.status || may_be_certified row)) last ≡ true
          → of_all (λ n. is_some_and (request_at n c.requests) (λ r. is_rejected r.status || may_be_certified row)) last
          ≡ true
      go None is = refl
      go (Some k) is = at k (owner_of k == u) (rw (requests_own u k) at is)

  pub all_certified : ((u : ℕ) → holds (certification_conditions (rows_of u c)) ≡ true) → AreCertified c
  unfolding certification_conditions
  all_certified is = record { last = last; certifiable = certifiable }
    where
      parts : (u : ℕ) → (list_all (is_certifiable (rows_of u c).requests) (rows_of u c).sessions ≡ true)
          × (list_all (is_last (rows_of u c).sessions) (rows_of u c).requests ≡ true)
      parts u =
          let mine = rows_of u c in
          let two = split (flat_map (certifiable_conditions mine.requests) mine.sessions)
          (flat_map (last_conditions mine.sessions) mine.requests) (is u) in (
            one (is_certifiable mine.requests) mine.sessions
                (of_each (certifiable_conditions mine.requests) mine.sessions two.0),
            one (is_last mine.sessions) mine.requests (of_each (last_conditions mine.sessions) mine.requests two.1),
          )

      last : (n : ℕ) → of_all (is_last c.sessions) (request_at n c.requests) ≡ true
      last n =
          let u = owner_of n in
          let mine = of_found (λ (r : RequestRow). r.number == n) (is_last (rows_of u c).sessions) (rows_of u c).requests
          (parts u).1 in
          of_all_weaker (is_last (rows_of u c).sessions) (is_last c.sessions) (last_of_all u) (request_at n c.requests)
          (rw (requests_own u n, eqb_same (owner_of n)) at mine)

      certifiable : (n : ℕ) → of_all (is_certifiable c.requests) (session_at n c.sessions) ≡ true
      certifiable n =
          let u = owner_of n in
          let mine = of_found (λ (r : SessionRow). r.number == n) (is_certifiable (rows_of u c).requests)
          (rows_of u c).sessions (parts u).0 in
          of_all_weaker (is_certifiable (rows_of u c).requests) (is_certifiable c.requests) (certifiable_of_all u)
          (session_at n c.sessions) (rw (sessions_own u n, eqb_same (owner_of n)) at mine)

  -- ---- where the records are certified rightly

  module _ (wells : (u : ℕ) → IsWellNumberedFor u (state_of (rows_of u c))) (certified : AreCertified c) (u : ℕ) where
    abbrev mine : Content
    mine = rows_of u c

    session_holds : (n : ℕ) (row : SessionRow) → session_at n c.sessions ≡ Some row → (owner_of n == u) ≡ true
        → is_certifiable c.requests row ≡ true → is_certifiable mine.requests row ≡ true
    session_holds n row found of is = go row.last_request refl is
      where
        recorded : session_record_at n (state_of c).sessions ≡ Some (session_record row)
        recorded = session_follows n c ∙ ap (λ found. option_map session_record found) found

        named : (k : ℕ) → row.last_request ≡ Some k → (owner_of k == u) ≡ true
        named k last =
            let same = certification_names n k (state_of c) (session_record row) sound recorded last in
            grind (arith, nat_tests, same, of)

        go : (last : Option ℕ) → row.last_request ≡ last
            → of_all (λ n. is_some_and (request_at n c.requests) (λ r. is_rejected r.status || may_be_certified row))
            last ≡ true
            → of_all (λ n. is_some_and (request_at n mine.requests) (λ r. is_rejected r.status
            || may_be_certified row)) last ≡ true
        go None last is = refl
        go (Some k) last is = rw (requests_own u k, named k last) is

    third : (a b d : Bool) → (a && b && d) ≡ true → d ≡ true
    third true true true e = refl
    third true true false e = absurd (cc)
    third true false d e = absurd (cc)
    third false b d e = absurd (cc)

    session_of_own : (b : RequestBody) (s : ℕ) → certified_session b ≡ Some s
        → is_sound_body (state_of mine) b ≡ true → (owner_of s == u) ≡ true
    session_of_own (body.Registration object) s asks there = absurd (cc)
    session_of_own (body.Certification it) s asks there =
        let same : it.session ≡ s = cc in
        let found = third (is_some (object_at Module it.module (state_of mine).objects))
        (is_some (object_at Environment it.environment (state_of mine).objects))
        (is_some (session_record_at it.session (state_of mine).sessions)) there in
        rw (← same) (go (owner_of it.session == u) (rw (session_follows it.session mine, sessions_own u it.session) at found))
      where
        go : (b : Bool)
            → is_some (option_map session_record (if b then session_at it.session c.sessions else None)) ≡ true
            → b ≡ true
        go true there = refl
        go false there = absurd (cc)

    request_holds : (r : RequestRow) → is_sound_body (state_of mine) r.body ≡ true
        → is_last c.sessions r ≡ true → is_last mine.sessions r ≡ true
    request_holds r there is = go (certified_session r.body) refl is
      where
        go : (asked : Option ℕ) → certified_session r.body ≡ asked
            → of_all (λ s. names_it r (session_at s c.sessions)) asked ≡ true
            → of_all (λ s. names_it r (session_at s mine.sessions)) asked ≡ true
        go None asks is = refl
        go (Some s) asks is = rw (sessions_own u s, session_of_own r.body s asks there) is

    numbered_sessions : IsNumbered (λ (row : SessionRow). row.number) (first_of_account u) mine.sessions
    unfolding state_of
    numbered_sessions = numbered_rows session_record (λ row. row.number) (first_of_account u) mine.sessions
        (wells u).sessions

    numbered_requests : IsNumbered (λ (row : RequestRow). row.number) (first_of_account u) mine.requests
    unfolding state_of
    numbered_requests = (wells u).requests

    asked : list_all (λ (row : RequestRow). is_sound_body (state_of mine) row.body) mine.requests ≡ true
    unfolding state_of
    asked = (wells u).asked

    sessions_hold : list_all (is_certifiable mine.requests) mine.sessions ≡ true
    sessions_hold =
        all_found (λ (row : SessionRow). row.number) (is_certifiable mine.requests) (first_of_account u) mine.sessions
        numbered_sessions (λ n low. rw (sessions_own u n) (by n (owner_of n == u) refl))
      where
        found : (n : ℕ) (row : Option SessionRow) → session_at n c.sessions ≡ row → (owner_of n == u) ≡ true
            → of_all (is_certifiable c.requests) row ≡ true → of_all (is_certifiable mine.requests) row ≡ true
        found n None at of is = refl
        found n (Some row) at of is = session_holds n row at of is

        by : (n : ℕ) (b : Bool) → (owner_of n == u) ≡ b
            → of_all (is_certifiable mine.requests) (if b then session_at n c.sessions else None) ≡ true
        by n true of = found n (session_at n c.sessions) refl of (certified.certifiable n)
        by n false of = refl

    requests_hold : list_all (is_last mine.sessions) mine.requests ≡ true
    requests_hold =
        all_found (λ (row : RequestRow). row.number) (is_last mine.sessions) (first_of_account u) mine.requests
        numbered_requests (λ n low. rw (requests_own u n) (by n (owner_of n == u) refl (there n)))
      where
        there : (n : ℕ) → of_all (λ (row : RequestRow). is_sound_body (state_of mine) row.body)
            (if owner_of n == u then request_at n c.requests else None) ≡ true
        there n = rw (requests_own u n) at (of_found (λ (row : RequestRow). row.number == n)
            (λ row. is_sound_body (state_of mine) row.body) mine.requests asked)

        found : (row : Option RequestRow)
            → of_all (λ (row : RequestRow). is_sound_body (state_of mine) row.body) row ≡ true
            → of_all (is_last c.sessions) row ≡ true → of_all (is_last mine.sessions) row ≡ true
        found None there is = refl
        found (Some row) there is = request_holds row there is

        by : (n : ℕ) (b : Bool) → (owner_of n == u) ≡ b
            → of_all (λ (row : RequestRow). is_sound_body (state_of mine) row.body)
            (if b then request_at n c.requests else None) ≡ true
            → of_all (is_last mine.sessions) (if b then request_at n c.requests else None) ≡ true
        by n true of there = found (request_at n c.requests) there (certified.last n)
        by n false of there = refl

    pub certifications_hold : holds (certification_conditions mine) ≡ true
    unfolding certification_conditions
    certifications_hold =
        join (flat_map (certifiable_conditions mine.requests) mine.sessions)
        (flat_map (last_conditions mine.sessions) mine.requests)
        (to_each (certifiable_conditions mine.requests) mine.sessions
        (last_holds (is_certifiable mine.requests) mine.sessions sessions_hold))
        (to_each (last_conditions mine.sessions) mine.requests
        (last_holds (is_last mine.sessions) mine.requests requests_hold))

-- ---- which condition is broken

pub either_broken : {F : Type 0} (front rest : List (Condition F)) (found : F)
    → first_broken (front ++ rest) ≡ Some found
    → (first_broken front ≡ Some found) ⊎ (first_broken rest ≡ Some found)
either_broken [] rest found is = inr is
either_broken ((true, f) ∷ front) rest found is = either_broken front rest found is
either_broken ((false, f) ∷ front) rest found is = inl is

-- of conditions on rows that all tell the same kind of wrong
abbrev pub told : {R : Type 0} → (R → Bool) → (R → Finding) → R → List (Condition Finding)
told passes tells r = (passes r, tells r) ∷ []

pub of_kind : {R : Type 0} (passes : R → Bool) (tells : R → Finding) (rows : List R)
    → ((r : R) → is_beyond_kept (tells r).wrong ≡ true) → (found : Finding)
    → first_broken (flat_map (told passes tells) rows) ≡ Some found → is_beyond_kept found.wrong ≡ true
of_kind passes tells [] kind found is = absurd (cc)
of_kind {R = R} passes tells (r ∷ rows) kind found is =
    go (passes r)
    (subst (λ conditions. first_broken conditions ≡ Some found) (flat_map-cons (told passes tells) r rows) is)
    (of_kind passes tells rows kind found)
  where
    go : (b : Bool) → first_broken ((b, tells r) ∷ flat_map (told passes tells) rows) ≡ Some found
        → (first_broken (flat_map (told passes tells) rows) ≡ Some found → is_beyond_kept found.wrong ≡ true)
        → is_beyond_kept found.wrong ≡ true
    go true is later = later is
    go false is later = let same : tells r ≡ found = cc in rw (← same) (kind r)

pub certification_found : (mine : Content) (found : Finding)
    → first_broken (certification_conditions mine) ≡ Some found → is_beyond_kept found.wrong ≡ true
unfolding certification_conditions
certification_found mine found is =
    elim (either_broken (flat_map (certifiable_conditions mine.requests) mine.sessions)
    (flat_map (last_conditions mine.sessions) mine.requests) found is) [
      | inl first ↦ of_kind (is_certifiable mine.requests)
          (λ (row : SessionRow). finding (key.Session row.number) wrong.NotCertifiable) mine.sessions (λ row. refl) found
          first
      | inr last ↦ of_kind (is_last mine.sessions)
          (λ (row : RequestRow). finding (key.Request row.number) wrong.NotLast) mine.requests (λ row. refl) found last
    ]

-- ---- rows in another order

only_one : {R : Type 0} (p : R → Bool) (rows : List R) (x : R) → find p rows ≡ Some x → length (filter p rows) ≤ 1
    → All (λ r. p r ≡ true → r ≡ x) rows
only_one p [] x found once = absurd (cc)
only_one {R = R} p (r ∷ rows) x found once = go (p r) refl found once (only_one p rows x)
  where
    none : (rows : List R) → length (filter p rows) ≤ 0 → All (λ r. p r ≡ true → r ≡ x) rows
    none [] few = All-nil (λ r. p r ≡ true → r ≡ x)
    none (r ∷ rows) few = at (p r) refl few (none rows)
      where
        at : (b : Bool) → p r ≡ b → length (filter p (r ∷ rows)) ≤ 0
            → (length (filter p rows) ≤ 0 → All (λ r. p r ≡ true → r ≡ x) rows)
            → All (λ r. p r ≡ true → r ≡ x) (r ∷ rows)
        at true is few later = absurd (omega (arith, rw is at few))
        at false is few later = All-cons (λ r. p r ≡ true → r ≡ x) r rows (λ on. absurd (cc)) (later (rw is at few))

    go : (b : Bool) → p r ≡ b → find p (r ∷ rows) ≡ Some x → length (filter p (r ∷ rows)) ≤ 1
        → (find p rows ≡ Some x → length (filter p rows) ≤ 1 → All (λ r. p r ≡ true → r ≡ x) rows)
        → All (λ r. p r ≡ true → r ≡ x) (r ∷ rows)
    go true is found once later =
        let same : r ≡ x = let at : Some r ≡ Some x = rw is at found in cc (at) in
        let few : length (filter p rows) ≤ 0 = omega (arith, rw is at once) in
        All-cons (λ r. p r ≡ true → r ≡ x) r rows (λ on. same) (none rows few)
    go false is found once later =
        All-cons (λ r. p r ≡ true → r ≡ x) r rows (λ on. absurd (cc)) (later (rw is at found) (rw is at once))

found_among : {R : Type 0} (p : R → Bool) (P : R → Type 0) (rows : List R) (y : R) → find p rows ≡ Some y → All P rows
    → P y
found_among p P [] y found all = absurd (cc)
found_among {R = R} p P (r ∷ rows) y found all =
    go (p r) refl found (All-head P r rows all) (found_among p P rows y) (All-tail P r rows all)
  where
    go : (b : Bool) → p r ≡ b → (if b then Some r else find p rows) ≡ Some y → P r
        → (find p rows ≡ Some y → All P rows → P y) → All P rows → P y
    go true is found head later tail = let same : r ≡ y = cc in subst P same head
    go false is found head later tail = later found tail

pub same_found : {R : Type 0} (p : R → Bool) (xs ys : List R) → IsPermutation xs ys → length (filter p xs) ≤ 1
    → find p ys ≡ find p xs
same_found {R = R} p xs ys same once =
    go (find p xs) refl (find p ys) refl (alike_found p xs ys (permuted xs ys same))
  where
    go : (x : Option R) → find p xs ≡ x → (y : Option R) → find p ys ≡ y → is_some x ≡ is_some y → y ≡ x
    go None ex None ey both_ways = refl
    go None ex (Some y) ey both_ways = absurd (cc)
    go (Some x) ex None ey both_ways = absurd (cc)
    go (Some x) ex (Some y) ey both_ways =
        ap Some (found_among p (λ r. p r ≡ true → r ≡ x) ys y ey
        (All-permutation (λ r. p r ≡ true → r ≡ x) xs ys same (only_one p xs x ex once)) (found_is p ys y ey))

module _ (c d : Content) (sound : IsWellNumbered (state_of c)) (same : HaveSameRows c d)
    (wells : (u : ℕ) → IsWellNumberedFor u (state_of (rows_of u c))) where
  sessions_once : (n : ℕ) → length (filter (λ (row : SessionRow). row.number == n) c.sessions) ≤ 1
  unfolding rows_of state_of
  sessions_once n =
      subst (λ rows. length rows ≤ 1)
      (filtered_own (λ (row : SessionRow). row.number) (λ row. row.account) n c.sessions
      (rows_all session_record (λ row. owner_of row.number == row.account) c.sessions
      (keyed (state_of c) sound).sessions))
      (once_numbered (λ (row : SessionRow). row.number) n (first_of_account (owner_of n)) (rows_of (owner_of n) c).sessions
      (numbered_rows session_record (λ row. row.number) (first_of_account (owner_of n)) (rows_of (owner_of n) c).sessions
      (wells (owner_of n)).sessions))

  session_same : (n : ℕ) → session_at n d.sessions ≡ session_at n c.sessions
  session_same n = same_found (λ (row : SessionRow). row.number == n) c.sessions d.sessions same.sessions (sessions_once n)

  pub request_same : (n : ℕ) → request_at n d.requests ≡ request_at n c.requests
  request_same n = same_found (λ (row : RequestRow). row.number == n) c.requests d.requests same.requests
      (requests_once c sound n)

  pub certified_in_order : AreCertified c → AreCertified d
  certified_in_order certified = record {
    last = λ n. rw (request_same n) (of_all_weaker (is_last c.sessions) (is_last d.sessions) last_same
        (request_at n c.requests) (certified.last n));
    certifiable = λ n. rw (session_same n)
        (of_all_weaker (is_certifiable c.requests) (is_certifiable d.requests) certifiable_same
        (session_at n c.sessions) (certified.certifiable n));
  }
    where
      last_same : (r : RequestRow) → is_last c.sessions r ≡ true → is_last d.sessions r ≡ true
      last_same r is = go (certified_session r.body) is
        where
          go : (asked : Option ℕ) → of_all (λ s. names_it r (session_at s c.sessions)) asked ≡ true
              → of_all (λ s. names_it r (session_at s d.sessions)) asked ≡ true
          go None is = refl
          go (Some s) is = rw (session_same s) is

      certifiable_same : (row : SessionRow) → is_certifiable c.requests row ≡ true
          → is_certifiable d.requests row ≡ true
      certifiable_same row is = go row.last_request is
        where
          go : (last : Option ℕ)
              → of_all (λ n. is_some_and (request_at n c.requests)
              (λ r. is_rejected r.status || may_be_certified row)) last ≡ true
              → of_all (λ n. is_some_and (request_at n d.requests)
              (λ r. is_rejected r.status || may_be_certified row)) last ≡ true
          go None is = refl
          go (Some k) is = rw (request_same k) is
