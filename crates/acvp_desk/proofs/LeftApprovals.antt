-- In records as every run leaves them, each request that waits may be approved.
use Rattle.std.proofs.Common.{◌≡◌, ◌≤◌, ℕ, List, [], ◌∷◌, Bool, true, false, ◌&&◌, ◌==◌, Option, None, Some, refl}
use Rattle.std.proofs.Common.{sym, ap, ◌∙◌, arith}
use Rattle.std.proofs.lemmas.Bool.Decides.{nat_tests}
use Rattle.std.specs.Prelude.{is_some, option_map, if◌then◌else◌}
use Rattle.std.specs.List.{list_all}
use Rattle.acvp_policy.specs.Conditions.{is_some_and}
use Rattle.acvp_registry.specs.declared.kind.Kind.{Kind}
use Rattle.acvp_registry.specs.declared.kind.Kind.TheVariants.{Module, Environment}
use Rattle.acvp_tables.specs.Content.{Content, is_live_in, live_sets, object_at, purpose_of, request_at, session_at}
use Rattle.acvp_tables.specs.Counted.{answers_passed, is_counted, live_count, passed_count}
use Rattle.acvp_tables.specs.State.{State, SessionRecord, is_sound_body, own, owner_of, session_record}
use Rattle.acvp_tables.specs.State.{session_record_at, state_of, IsWellNumbered}
use Rattle.acvp_tables.specs.declared.rows.Certification.{Certification}
use Rattle.acvp_tables.specs.declared.rows.ObjectRow.{ObjectRow}
use Rattle.acvp_tables.specs.declared.rows.RequestBody.{RequestBody}
use Rattle.acvp_tables.specs.declared.rows.RequestBody.TheVariants as body
use Rattle.acvp_tables.specs.declared.rows.RequestRow.{RequestRow}
use Rattle.acvp_tables.specs.declared.rows.RequestStatus.{RequestStatus}
use Rattle.acvp_tables.specs.declared.rows.RequestStatus.TheVariants as status
use Rattle.acvp_tables.specs.declared.rows.SessionRow.{SessionRow}
use Rattle.acvp_tables.specs.declared.rows.SetRow.{SetRow}
use Rattle.acvp_desk.specs.Approvals.{has_ready_session, have_passed, is_ready, may_approve, may_be_approved}
use Rattle.acvp_desk.specs.Certifications.{IsLeft, is_last_of, is_rejected, may_be_certified, names_it}
use Rattle.acvp_desk.specs.Orders.{is_initial}
use Rattle.acvp_desk.specs.Registries.{own_object}
use Rattle.acvp_desk.proofs.CertifiedRows.{found_is, standing_last}
use Rattle.acvp_desk.proofs.DecidedRequest.{sound_request}
use Rattle.acvp_desk.proofs.Elsewhere.{found_there}
use Rattle.acvp_desk.proofs.PassedSession.{both_more, fewer_passed, found_holds, not_one_more}

split : (a b : Bool) → (a && b) ≡ true → (a ≡ true) × (b ≡ true)
split true true e = (refl, refl)
split true false e = absurd (cc)
split false b e = absurd (cc)

both : (a b : Bool) → a ≡ true → b ≡ true → (a && b) ≡ true
both true true d e = refl
both true false d e = absurd (cc)
both false b d e = absurd (cc)

not_rejected : (s : RequestStatus) → is_initial s ≡ true → is_rejected s ≡ false
not_rejected status.Initial e = refl
not_rejected (status.Approved n) e = refl
not_rejected status.Rejected e = absurd (cc)

-- all have passed where as many have passed as there are
counted_all : (m : ℕ) (sets : List SetRow)
    → (passed_count m sets == live_count m sets)
    ≡ list_all (λ (row : SetRow). answers_passed row.graded) (live_sets m sets)
counted_all m [] = refl
counted_all m (row ∷ sets) =
    go (is_live_in m row) (answers_passed row.graded) refl refl (fewer_passed m sets) (counted_all m sets)
  where
    Same : List SetRow → Type 0
    Same sets = (passed_count m sets == live_count m sets)
        ≡ list_all (λ (row : SetRow). answers_passed row.graded) (live_sets m sets)

    go : (live pass : Bool) → is_live_in m row ≡ live → answers_passed row.graded ≡ pass
        → passed_count m sets ≤ live_count m sets → Same sets → Same (row ∷ sets)
    go true true live pass fewer later =
        rw (live, pass) (both_more (passed_count m sets) (live_count m sets) ∙ later)
    go true false live pass fewer later =
        rw (live, pass) (not_one_more (passed_count m sets) (live_count m sets) fewer)
    go false pass live is fewer later = rw live later

module _ (follows : (n : ℕ) (c : Content)
    → session_record_at n (state_of c).sessions ≡ option_map session_record (session_at n c.sessions))
    (session_named : (n : ℕ) (state : State) (row : SessionRecord) → IsWellNumbered state
    → session_record_at n state.sessions ≡ Some row → row.account ≡ owner_of n)
    (request_named : (n : ℕ) (state : State) (row : RequestRow) → IsWellNumbered state
    → request_at n state.requests ≡ Some row → row.account ≡ owner_of n)
    (object_named : (n : ℕ) (kind : Kind) (state : State) (row : ObjectRow) → IsWellNumbered state
    → object_at kind n state.objects ≡ Some row → row.account ≡ owner_of n)
    (session_told : (u n : ℕ) (state : State) → IsWellNumbered state → session_record_at n (own u state).sessions
    ≡ (if owner_of n == u then session_record_at n state.sessions else None))
    (request_told : (u n : ℕ) (state : State) → IsWellNumbered state → request_at n (own u state).requests
    ≡ (if owner_of n == u then request_at n state.requests else None))
    (object_told : (u n : ℕ) (kind : Kind) (state : State) → IsWellNumbered state
    → object_at kind n (own u state).objects ≡ (if owner_of n == u then object_at kind n state.objects else None))
    (seeds : List (List ℕ)) (c : Content) (left : IsLeft seeds c) (n : ℕ) (row : RequestRow)
    (there : request_at n c.requests ≡ Some row) (waits : is_initial row.status ≡ true) where
  -- ---- what is there, and whose it is

  in_state : request_at n (state_of c).requests ≡ Some row
  unfolding state_of
  in_state = there

  part_there : (kind : Kind) (m : ℕ) → is_some (object_at kind m (own (owner_of n) (state_of c)).objects) ≡ true
      → is_some (own_object kind (owner_of n) m c.objects) ≡ true
  unfolding state_of
  part_there kind m is =
      go (owner_of m == owner_of n) refl (rw (object_told (owner_of n) m kind (state_of c) left.kept.sound) at is)
    where
      go : (b : Bool) → (owner_of m == owner_of n) ≡ b
          → is_some (if b then object_at kind m (state_of c).objects else None) ≡ true
          → is_some (own_object kind (owner_of n) m c.objects) ≡ true
      go true same is = rw (found_there (λ (r : ObjectRow). r.account) (owner_of n) (owner_of m)
          (object_at kind m c.objects)
          (λ r found. object_named m kind (state_of c) r left.kept.sound found) same) is
      go false same is = absurd (cc)

  session_of : (k : ℕ) → is_some (session_record_at k (own (owner_of n) (state_of c)).sessions) ≡ true
      → owner_of k ≡ owner_of n
  session_of k is =
      go (owner_of k == owner_of n) refl (rw (session_told (owner_of n) k (state_of c) left.kept.sound) at is)
    where
      go : (b : Bool) → (owner_of k == owner_of n) ≡ b
          → is_some (if b then session_record_at k (state_of c).sessions else None) ≡ true → owner_of k ≡ owner_of n
      go true same is = grind (arith, nat_tests, same)
      go false same is = absurd (cc)

  -- ---- the session

  last : (it : Certification) → row.body ≡ body.Certification it
      → is_last_of n (session_at it.session c.sessions) ≡ true
  last it is =
      let its = found_is (λ (r : RequestRow). r.number == n) c.requests row there in
      let number : row.number ≡ n = grind (arith, nat_tests, its) in
      let named : names_it row (session_at it.session c.sessions) ≡ true = rw (there, is) at (left.certified.last n) in
      rw number at (standing_last row (session_at it.session c.sessions) (not_rejected row.status waits) named)

  may : (k : ℕ) (s : SessionRow) → session_at k c.sessions ≡ Some s → is_last_of n (Some s) ≡ true
      → may_be_certified s ≡ true
  may k s found names = go s.last_request refl names
    where
      go : (asked : Option ℕ) → s.last_request ≡ asked → is_some_and asked (λ m. m == n) ≡ true
          → may_be_certified s ≡ true
      go None is names = absurd (cc)
      go (Some m) is names = let same : m ≡ n = grind (arith, nat_tests, names) in
          rw (found, is, same, there, not_rejected row.status waits) at (left.certified.certifiable k)

  passed : (k : ℕ) (s : SessionRow) → session_at k c.sessions ≡ Some s → may_be_certified s ≡ true
      → have_passed s.live (live_sets k c.sets) ≡ true
  passed k s found may =
      let named = found_is (λ (r : SessionRow). r.number == k) c.sessions s found in
      let number : s.number ≡ k = grind (arith, nat_tests, named) in
      let counted = found_holds (λ (r : SessionRow). r.number == k) (is_counted c.sets) c.sessions s found
      left.kept.counted in
      let two = split (s.live == live_count k c.sets) (s.passed == passed_count k c.sets) (rw number at counted) in
      let equal = (split _ (s.passed == s.live) may).1 in
      let many : (live_count k c.sets == s.live) ≡ true = grind (arith, nat_tests, two.0) in
      let as_many : (passed_count k c.sets == live_count k c.sets) ≡ true =
      grind (arith, nat_tests, two.0, two.1, equal) in
      both _ _ many (sym (counted_all k c.sets) ∙ as_many)

  ready : (it : Certification) → row.body ≡ body.Certification it → owner_of it.session ≡ owner_of n
      → has_ready_session n (owner_of n) it.session c ≡ true
  ready it is of = go (session_at it.session c.sessions) refl (last it is)
    where
      go : (found : Option SessionRow) → session_at it.session c.sessions ≡ found → is_last_of n found ≡ true
          → is_some_and found (is_ready n (owner_of n) (live_sets it.session c.sets)) ≡ true
      go None found names = absurd (cc)
      go (Some s) found names =
          let named : s.account ≡ owner_of it.session =
          session_named it.session (state_of c) (session_record s) left.kept.sound
          (follows it.session c ∙ ap (option_map session_record) found) in
          let account : (s.account == owner_of n) ≡ true = grind (arith, nat_tests, named, of) in
          let certifiable = may it.session s found names in
          both _ _ (both _ _ (both _ _ account names) certifiable) (passed it.session s found certifiable)

  -- ---- all of it

  pub approvable : may_approve n c row ≡ true
  approvable = go row.body refl (sound_request request_told (state_of c) left.kept.sound n row in_state)
    where
      go : (b : RequestBody) → row.body ≡ b → is_sound_body (own (owner_of n) (state_of c)) b ≡ true
          → may_be_approved n row.account (purpose_of b) c ≡ true
      go (body.Registration object) is sound = refl
      go (body.Certification it) is sound =
          let all = split _ (is_some (session_record_at it.session (own (owner_of n) (state_of c)).sessions)) sound in
          let parts = split (is_some (object_at Module it.«module» (own (owner_of n) (state_of c)).objects))
          (is_some (object_at Environment it.environment (own (owner_of n) (state_of c)).objects)) all.0 in
          rw (request_named n (state_of c) row left.kept.sound in_state)
          (both _ _ (ready it is (session_of it.session all.1))
          (both _ _ (part_there Module it.«module» parts.0) (part_there Environment it.environment parts.1)))
