-- What holds of the records at all times holds after a change that is next.
use Rattle.std.proofs.Common.{◌≡◌, ℕ, List, [], ◌∷◌, Bool, true, false, Option, None, Some, Result, Ok, Err, OnOk, refl}
use Rattle.std.proofs.Common.{sym, ap, ◌∙◌, subst, length, arith, ◌/◌, map, ◌≤◌, ◌+◌}
use Rattle.std.specs.Prelude.{option_map, option_and_then, is_some, filter, nat_lt, ◌==◌, ◌&&◌, if◌then◌else◌, ◌/◌}
use Rattle.std.proofs.lemmas.Bool.Decides.{nat_tests}
use Rattle.acvp_json.specs.Data.{Data}
use Rattle.acvp_caps.specs.Registered.{registration_conditions}
use Rattle.acvp_caps.specs.Registration.{RegistrationValue}
use Rattle.acvp_json.specs.ReviewerBody.{reviewer_body_conditions}
use Rattle.acvp_mac.specs.Conditions.{first_broken}
use Rattle.acvp_policy.specs.Conditions.{claims_of, is_enabled, session_found, set_found}
use Rattle.acvp_policy.specs.Decision.{account_of_claims}
use Rattle.acvp_policy.specs.Policy.{policy}
use Rattle.acvp_policy.specs.declared.facts.Facts.{Facts}
use Rattle.acvp_policy.specs.declared.rule.Rule.{Rule}
use Rattle.acvp_policy.specs.declared.rule.Rule.TheVariants as rule
use Rattle.acvp_answers.specs.declared.verdict.Verdict.{Verdict}
use Rattle.acvp_tables.specs.Changes.{after, after_order, is_set}
use Rattle.acvp_tables.specs.StateChanges.{after_state, after_order_state}
use Rattle.acvp_tables.specs.Content.{Content, account_at, object_at, objects_of, request_at, is_reviewer, live_sets}
use Rattle.acvp_tables.specs.Content.{reviewers_of, session_at, set_at}
use Rattle.acvp_tables.specs.Counted.{IsCounted, IsNextCount, AreThere, answers_passed, is_passed, one_if}
use Rattle.acvp_tables.specs.Next.{IsNext, IsNextFor, IsNextOrder}
use Rattle.acvp_tables.specs.State.{State, state_of, objects_in, own, owner_of, session_record_at, record_counts}
use Rattle.acvp_tables.specs.State.{IsWellNumbered, AreWellNumbered, SetRecord, set_record, set_record_at, live_records}
use Rattle.acvp_tables.specs.State.{session_record}
use Rattle.acvp_tables.specs.declared.change.Change.{Change}
use Rattle.acvp_tables.specs.declared.change.Change.TheVariants as change
use Rattle.acvp_tables.specs.declared.change.OrderChange.{OrderChange}
use Rattle.acvp_tables.specs.declared.change.OrderChange.TheVariants as order_change
use Rattle.acvp_tables.specs.declared.change.KeptAnswers.{KeptAnswers}
use Rattle.acvp_tables.specs.declared.change.UsedStep.{UsedStep}
use Rattle.acvp_tables.specs.declared.rows.AccountRow.{AccountRow}
use Rattle.acvp_tables.specs.declared.rows.ReviewerRow.{ReviewerRow}
use Rattle.acvp_desk.specs.Answer.{account_found, answer, asker_of, end_of_moments, facts_in, standing_of, found_of}
use Rattle.acvp_desk.specs.Answer.{later_of, own_conditions, policy_conditions, accepted_change, change_by, change_on}
use Rattle.acvp_desk.specs.Answer.{content_after, content_effect, state_after, effect}
use Rattle.acvp_desk.specs.Bodies.{body_conditions, registration_rule, rule_of}
use Rattle.acvp_desk.specs.NewSessions.{new_session_in, newest_epoch, registration_in, session_made}
use Rattle.acvp_desk.specs.Kept.{IsKept}
use Rattle.acvp_desk.specs.Login.{login_step}
use Rattle.acvp_tables.specs.declared.rows.RequestRow.{RequestRow}
use Rattle.acvp_desk.proofs.DecidedRequest.{approved_next, rejected_next}
use Rattle.acvp_desk.specs.Orders.{approval, waiting_request, IsOrder, HasSecret, has_account}
use Rattle.acvp_desk.specs.Orders.{order_change as change_for, content_after_order, content_order_effect}
use Rattle.acvp_desk.specs.Orders.{state_after_order, order_effect}
use Rattle.acvp_desk.specs.declared.ask.Asker.{Asker}
use Rattle.acvp_desk.specs.declared.ask.Asker.TheVariants.{Login, Caller}
use Rattle.acvp_desk.specs.declared.wish.SessionWish.{SessionWish}
use Rattle.acvp_desk.specs.declared.wish.SessionWish.TheVariants.{Cancel, AddReviewer}
use Rattle.acvp_desk.specs.declared.wish.Wish.{Wish}
use Rattle.acvp_desk.specs.declared.wish.Wish.TheVariants.{Account, Session, Reviewer, Set, NewSession, CancelSet}
use Rattle.acvp_desk.specs.declared.wish.Wish.TheVariants.{Certify, Registry}
use Rattle.acvp_desk.specs.declared.wish.Registry.{Registry as RegistryOf}
use Rattle.acvp_desk.specs.declared.wish.RegistryWish.{RegistryWish}
use Rattle.acvp_desk.specs.declared.wish.RegistryWish.TheVariants as on_registry
use Rattle.acvp_desk.specs.Asked.{requested_conditions, certification_grounds, certification_change, certification_made}
use Rattle.acvp_desk.specs.Asked.{certified_in, object_in, object_grounds, object_change, request_made}
use Rattle.acvp_desk.specs.Registries.{action_on_registry, kind_of}
use Rattle.acvp_json.specs.declared.certify_body.CertifyBody.{CertifyBody}
use Rattle.acvp_policy.specs.Resource.{resource_of}
use Rattle.acvp_registry.specs.Object.{KeptObject}
use Rattle.acvp_registry.specs.declared.kind.Kind.{Kind}
use Rattle.acvp_tables.specs.declared.rows.ObjectRow.{ObjectRow}
use Rattle.acvp_desk.specs.OwnConditions.{new_session_conditions, place_conditions, registry_place_conditions}
use Rattle.acvp_desk.specs.OwnConditions.{session_place_conditions}
use Rattle.acvp_desk.specs.Place.{place_of, registry_place, session_facts, session_place, set_outcomes, subject_at}
use Rattle.acvp_desk.specs.Replies.{cancelled_set, place_change, registry_change, session_change, set_change}
use Rattle.acvp_desk.specs.Reviewers.{reviewer_at, has_room}
use Rattle.acvp_desk.specs.Sets.{results_place, set_facts, set_place, set_source, verdicts_in_session}
use Rattle.acvp_desk.specs.Wish.{action_of_wish, action_on_session, action_on_set}
use Rattle.acvp_desk.specs.declared.wish.AccountWish.TheVariants as on_account
use Rattle.acvp_desk.specs.declared.wish.SetWish.{SetWish}
use Rattle.acvp_desk.specs.declared.wish.SetWish.TheVariants as on_set
use Rattle.acvp_desk.specs.declared.ask.LoginAsk.{LoginAsk}
use Rattle.acvp_desk.specs.declared.wish.CallerAsk.{CallerAsk}
use Rattle.acvp_token.specs.declared.Claims.{Claims}
use Rattle.acvp_desk.specs.declared.found.Grounds.{Grounds}
use Rattle.acvp_desk.specs.declared.keys.Keys.{Keys}
use Rattle.acvp_desk.specs.declared.order.Order.{Order}
use Rattle.acvp_desk.specs.declared.order.Order.TheVariants as order
use Rattle.acvp_desk.specs.Request.{RequestValue}
use Rattle.acvp_desk.proofs.Allowed.{session_there, new_allowed, cancelled_there, set_there, certified_there}
use Rattle.acvp_desk.proofs.Allowed.{certification_enabled, certification_owned, registration_allowed}
use Rattle.acvp_desk.proofs.NextRequest.{few_asked, next_certification, next_registration}
use Rattle.acvp_desk.proofs.AnswerParts.{holds}
use Rattle.acvp_desk.proofs.CancelledSet.{number_fits, next_count, graded_stay}
use Rattle.acvp_desk.proofs.FirstBroken.{back_held, first_held, whole_held}
use Rattle.acvp_desk.proofs.NextSession.{next_session, number_of, sets_graded}
use Rattle.acvp_desk.proofs.NextReviewer.{next_reviewer}
use Rattle.acvp_desk.proofs.KeptAnswers.{submitted_kept}
use Rattle.acvp_desk.proofs.Wishes.{wish_asked}

-- ---- the records follow

module _ (follows : (c : Content) (it : Change) → state_of (after it c) ≡ after_state it (state_of c)) where
  changed_follows : (made : Option Change) (c : Content)
      → state_of (content_after made c) ≡ state_after made (state_of c)
  changed_follows None c = refl
  changed_follows (Some it) c = follows c it

  pub request_follows : (keys : Keys) (m : ℕ) (r : RequestValue) (c : Content)
      → state_of (content_effect keys m r c) ≡ effect keys m r (state_of c)
  request_follows keys m r c = changed_follows (accepted_change keys m r (state_of c)) c

module _ (follows : (c : Content) (it : OrderChange)
    → state_of (after_order it c) ≡ after_order_state it (state_of c)) where
  ordered_follows : (made : Option OrderChange) (c : Content)
      → state_of (content_after_order made c) ≡ state_after_order made (state_of c)
  ordered_follows None c = refl
  ordered_follows (Some it) c = follows c it

  pub order_follows : (it : Order) (c : Content) → state_of (content_order_effect it c) ≡ order_effect it (state_of c)
  order_follows it c = ordered_follows (change_for it (state_of c)) c

-- ---- requests

module _ (follows : (c : Content) (it : Change) → state_of (after it c) ≡ after_state it (state_of c))
    (numbers : (it : Change) (state : State) → IsWellNumbered state → IsNext state it
    → IsWellNumbered (after_state it state))
    (counts : (it : Change) (c : Content) → AreWellNumbered c → IsNext (state_of c) it → IsNextCount c it → IsCounted c
    → IsCounted (after it c))
    (accounts : (u n : ℕ) (state : State)
    → account_at n (own u state).accounts ≡ (if n == u then account_at n state.accounts else None))
    (sessions : (u n : ℕ) (state : State) → IsWellNumbered state
    → session_record_at n (own u state).sessions
    ≡ (if owner_of n == u then session_record_at n state.sessions else None))
    (reviews : (u s a : ℕ) (state : State)
    → is_reviewer s a (own u state).reviewers ≡ ((owner_of s == u) && is_reviewer s a state.reviewers))
    (counted : (s : ℕ) (state : State) → IsWellNumbered state
    → length (reviewers_of s state.reviewers) ≡ length (filter (λ row. row.session == s) state.reviewers))
    (once : (n : ℕ) (c : Content) → AreWellNumbered c → length (filter (is_set n) c.sets) ≤ 1)
    (live : (s : ℕ) (c : Content) → live_records s (state_of c).sets ≡ map set_record (live_sets s c.sets))
    (set_follows : (n : ℕ) (c : Content) → set_record_at n (state_of c).sets ≡ option_map set_record (set_at n c.sets))
    (session_follows : (n : ℕ) (c : Content)
    → session_record_at n (state_of c).sessions ≡ option_map session_record (session_at n c.sessions))
    (objects : (u n : ℕ) (kind : Kind) (state : State) → IsWellNumbered state
    → object_at kind n (own u state).objects ≡ (if owner_of n == u then object_at kind n state.objects else None))
    (names_object : (n : ℕ) (kind : Kind) (state : State) (row : ObjectRow) → IsWellNumbered state
    → object_at kind n state.objects ≡ Some row → row.account ≡ owner_of n)
    (names_set : (n : ℕ) (state : State) (row : SetRecord) → IsWellNumbered state
    → set_record_at n state.sets ≡ Some row → row.session ≡ n / 100)
    (differ : (k : KeptAnswers) (c : Content) → AreWellNumbered c → IsCounted c → (there : AreThere k.session k.set c)
    → k.passed + one_if (answers_passed there.set_row.graded) ≡ there.row.passed + one_if
    (is_passed k.graded.disposition) → IsNextCount c (change.KeepAnswers k)) where
  -- where the vector sets stay
  simply_kept : (seeds : List (List ℕ)) (it : Change) (c : Content) → (after it c).sets ≡ c.sets
      → IsNext (state_of c) it → IsNextCount c it
      → IsKept seeds c → IsKept seeds (after it c)
  simply_kept seeds it c same next count kept = record {
    sound = subst (λ s. IsWellNumbered s) (sym (follows c it)) (numbers it (state_of c) kept.sound next);
    counted = counts it c kept.sound next count kept.counted;
    graded = rw same kept.graded;
  }

  -- where a step is used
  step_kept : (seeds : List (List ℕ)) (used : UsedStep) (c : Content) → IsKept seeds c
      → IsKept seeds (after (change.UseStep used) c)
  unfolding after
  step_kept seeds used c kept = simply_kept seeds (change.UseStep used) c refl (tt, tt) tt kept

  login_kept : (seeds : List (List ℕ)) (c : Content) (row : AccountRow) (step : Option ℕ) → IsKept seeds c
      → IsKept seeds (content_after
      (option_map (λ step. change.UseStep (record { account = row.number; step = step })) step) c)
  login_kept seeds c row None kept = kept
  login_kept seeds c row (Some step) kept = step_kept seeds (record { account = row.number; step = step }) c kept

  found_kept : (seeds : List (List ℕ)) (m : ℕ) (login : LoginAsk) (c : Content) (account : Option AccountRow)
      → IsKept seeds c
      → IsKept seeds (content_after
      (option_and_then (λ row. option_map (λ step. change.UseStep (record { account = row.number; step = step }))
      (login_step m login row)) account) c)
  found_kept seeds m login c None kept = kept
  found_kept seeds m login c (Some row) kept = login_kept seeds c row (login_step m login row) kept

  -- where a session is cancelled
  cancelled_kept : (seeds : List (List ℕ)) (n : ℕ) (c : Content) → IsKept seeds c
      → IsKept seeds (after (change.CancelSession n) c)
  unfolding after
  cancelled_kept seeds n c kept = simply_kept seeds (change.CancelSession n) c refl (tt, tt) tt kept

  -- where an account becomes a reviewer, or no longer is one
  added_kept : (seeds : List (List ℕ)) (r : ReviewerRow) (c : Content)
      → IsNextFor (own (owner_of r.session) (state_of c)) (change.AddReviewer r) → IsKept seeds c
      → IsKept seeds (after (change.AddReviewer r) c)
  unfolding after
  added_kept seeds r c next kept = simply_kept seeds (change.AddReviewer r) c refl (tt, next) tt kept

  removed_kept : (seeds : List (List ℕ)) (r : ReviewerRow) (c : Content) → IsKept seeds c
      → IsKept seeds (after (change.RemoveReviewer r) c)
  unfolding after
  removed_kept seeds r c kept = simply_kept seeds (change.RemoveReviewer r) c refl (tt, tt) tt kept

  session_kept : (seeds : List (List ℕ)) (n : ℕ) (body : List ℕ) (f : Facts) (it : SessionWish) (c : Content)
      → session_found f.subject ≡ session_facts seeds (state_of c) n
      → first_broken (policy (action_on_session it) f) ≡ None
      → first_broken (session_place_conditions body (session_place seeds n (state_of c) it)) ≡ None
      → IsKept seeds c → IsKept seeds (content_after (session_change n body (session_place seeds n (state_of c) it)) c)
  session_kept seeds n body f Cancel c names allowed held kept = cancelled_kept seeds n c kept
  session_kept seeds n body f AddReviewer c names allowed held kept = go (reviewer_at body) refl
    where
      reviewing : List ℕ
      reviewing = reviewers_of n (state_of c).reviewers

      room : has_room reviewing (reviewer_at body) ≡ true
      room = first_held (has_room reviewing (reviewer_at body)) rule.ReviewersFull []
          (back_held (body_conditions rule_of reviewer_body_conditions body)
          ((has_room reviewing (reviewer_at body), rule.ReviewersFull) ∷ []) held)

      go : (account : Option ℕ) → reviewer_at body ≡ account
          → IsKept seeds (content_after
          (option_map (λ a. change.AddReviewer (record { session = n; account = a })) account) c)
      go None e = kept
      go (Some a) e = added_kept seeds (record { session = n; account = a }) c
          (next_reviewer sessions reviews counted seeds (state_of c) n a body kept.sound
          (rw (← names) (session_there AddReviewer f allowed)) e (rw e at room)) kept
  session_kept seeds n body f _ c names allowed held kept = kept

  -- where a session is registered
  new_kept : (seeds : List (List ℕ)) (m u : ℕ) (body : List ℕ) (c : Content)
      → is_some (account_at u (state_of c).accounts) ≡ true → nat_lt m end_of_moments ≡ true
      → first_broken (new_session_conditions body (record_counts u (state_of c)).sessions) ≡ None
      → IsKept seeds c → IsKept seeds
      (content_after (option_map change.NewSession
      (new_session_in seeds m u (record_counts u (state_of c)).sessions body)) c)
  unfolding after
  new_kept seeds m u body c there served held kept = go (newest_epoch seeds) refl (registration_in body) refl
    where
      bodied : first_broken (body_conditions registration_rule registration_conditions body) ≡ None
      bodied = whole_held (body_conditions registration_rule registration_conditions body)
          ((nat_lt (record_counts u (state_of c)).sessions 999999, rule.AccountFull) ∷ []) held

      few : nat_lt (record_counts u (state_of c)).sessions 999999 ≡ true
      few = first_held (nat_lt (record_counts u (state_of c)).sessions 999999) rule.AccountFull []
          (back_held (body_conditions registration_rule registration_conditions body)
          ((nat_lt (record_counts u (state_of c)).sessions 999999, rule.AccountFull) ∷ []) held)

      go : (epoch : Option ℕ) → newest_epoch seeds ≡ epoch → (registration : Option RegistrationValue)
          → registration_in body ≡ registration
          → IsKept seeds (content_after
          (option_map change.NewSession
          (option_and_then (λ epoch.
          option_map (session_made m u (record_counts u (state_of c)).sessions epoch) registration) epoch)) c)
      go None e registration is = kept
      go (Some epoch) e None is = kept
      go (Some epoch) e (Some registration) is =
          let made = session_made m u (record_counts u (state_of c)).sessions epoch registration in
          let next = next_session accounts (state_of c) m u epoch registration body there served few bodied is in
          let fits = number_of u (record_counts u (state_of c)).sessions few in
          record {
            sound = subst (λ s. IsWellNumbered s) (sym (follows c (change.NewSession made)))
                (numbers (change.NewSession made) (state_of c) kept.sound (fits, next));
            counted = counts (change.NewSession made) c kept.sound (fits, next) tt kept.counted;
            graded = sets_graded seeds epoch made.number registration.capabilities c.sets e kept.graded;
          }

  -- where a vector set is cancelled
  left_kept : (seeds : List (List ℕ)) (session n : ℕ) (c : Content) → (n / 100) ≡ session → IsKept seeds c
      → IsKept seeds (after (change.CancelSet (cancelled_set session n (set_outcomes seeds session (state_of c)))) c)
  unfolding after
  left_kept seeds session n c fits kept =
      let it = change.CancelSet (cancelled_set session n (set_outcomes seeds session (state_of c))) in
      record {
        sound = subst (λ s. IsWellNumbered s) (sym (follows c it)) (numbers it (state_of c) kept.sound (fits, tt));
        counted = counts it c kept.sound (fits, tt) (next_count live seeds session n c kept) kept.counted;
        graded = graded_stay seeds n c.sets kept.graded;
      }

  set_kept : (seeds : List (List ℕ)) (session n : ℕ) (body : List ℕ) (f : Facts) (it : SetWish) (c : Content)
      → set_found f.subject ≡ set_facts (session_facts seeds (state_of c) session) session n (state_of c).sets
      → first_broken (policy (action_on_set it) f) ≡ None → IsKept seeds c
      → IsKept seeds (content_after
      (set_change seeds session n body (set_place seeds session n (state_of c).sets it)) c)
  set_kept seeds session n body f on_set.Read c names allowed kept = kept
  set_kept seeds session n body f on_set.Expected c names allowed kept = kept
  set_kept seeds session n body f on_set.Results c names allowed kept =
      go (verdicts_in_session seeds session n (state_of c).sets)
    where
      go : (verdicts : Option (List Verdict))
          → IsKept seeds (content_after
          (set_change seeds session n body (results_place verdicts (set_source session n (state_of c).sets))) c)
      go None = kept
      go (Some verdicts) = kept
  set_kept seeds session n body f on_set.Submit c names allowed kept =
      submitted_kept once live set_follows session_follows names_set follows numbers counts differ seeds session n c
      kept body (rw (← names) (set_there on_set.Submit f allowed))
  set_kept seeds session n body f on_set.Resubmit c names allowed kept =
      submitted_kept once live set_follows session_follows names_set follows numbers counts differ seeds session n c
      kept body (rw (← names) (set_there on_set.Resubmit f allowed))

  -- where an object is asked to be registered
  registration_kept : (seeds : List (List ℕ)) (of : RegistryOf) (u : ℕ) (bytes : List ℕ) (c : Content)
      → is_some (account_at u (state_of c).accounts) ≡ true
      → first_broken (requested_conditions (object_in (kind_of of) bytes)
      (object_grounds u (object_in (kind_of of) bytes) (state_of c))) ≡ None
      → IsKept seeds c → IsKept seeds
      (content_after (object_change u (object_in (kind_of of) bytes)
      (object_grounds u (object_in (kind_of of) bytes) (state_of c))) c)
  unfolding after
  registration_kept seeds of u bytes c there held kept = go (object_in (kind_of of) bytes) refl held
    where
      asked : Grounds
      asked = object_grounds u (object_in (kind_of of) bytes) (state_of c)

      go : (object : Result KeptObject Rule) → object_in (kind_of of) bytes ≡ object
          → first_broken (requested_conditions object asked) ≡ None
          → IsKept seeds (content_after (object_change u object asked) c)
      go (Err broken) e fit = kept
      go (Ok object) e fit =
          simply_kept seeds (change.NewRequest (request_made u asked object)) c refl (
            number_of u asked.requests (few_asked asked fit),
            next_registration accounts objects names_object (state_of c) kept.sound u
                (kind_of of) bytes object there e fit,
          ) tt kept

  -- where a session is asked to be certified
  certification_kept : (seeds : List (List ℕ)) (u n : ℕ) (bytes : List ℕ) (c : Content)
      → is_some (account_at u (state_of c).accounts) ≡ true → owner_of n ≡ u
      → is_some (session_facts seeds (state_of c) n) ≡ true
      → first_broken (requested_conditions (certified_in bytes)
      (certification_grounds u (certified_in bytes) (state_of c))) ≡ None
      → IsKept seeds c → IsKept seeds
      (content_after (certification_change u n (certified_in bytes)
      (certification_grounds u (certified_in bytes) (state_of c))) c)
  unfolding after
  certification_kept seeds u n bytes c there owned found held kept = go (certified_in bytes) refl held
    where
      asked : Grounds
      asked = certification_grounds u (certified_in bytes) (state_of c)

      go : (parts : Result CertifyBody Rule) → certified_in bytes ≡ parts
          → first_broken (requested_conditions parts asked) ≡ None
          → IsKept seeds (content_after (certification_change u n parts asked) c)
      go (Err broken) e fit = kept
      go (Ok parts) e fit =
          let next = next_certification accounts objects names_object
          (state_of c) kept.sound u sessions seeds bytes n parts there owned found e fit in
          simply_kept seeds (change.Certify (certification_made u n asked parts)) c refl
          ((sym owned, number_of u asked.requests (few_asked asked fit)), rw owned next) tt kept

  registry_kept : (seeds : List (List ℕ)) (u : ℕ) (body : List ℕ) (f : Facts) (it : RegistryWish) (c : Content)
      → (is_enabled f.standing ≡ true → is_some (account_at u (state_of c).accounts) ≡ true)
      → first_broken (policy (action_on_registry it) f) ≡ None
      → first_broken (registry_place_conditions (registry_place u body (state_of c) it)) ≡ None
      → IsKept seeds c → IsKept seeds (content_after (registry_change u (registry_place u body (state_of c) it)) c)
  registry_kept seeds u body f (on_registry.New of) c acts allowed held kept =
      registration_kept seeds of u body c (acts (registration_allowed of f allowed).1) held kept
  registry_kept seeds u body f _ c acts allowed held kept = kept

  wish_kept : (keys : Keys) (m u : ℕ) (body : List ℕ) (f : Facts) (it : Wish) (c : Content)
      → f.subject ≡ subject_at (place_of keys.seed u body (state_of c) it) → u ≡ account_of_claims (claims_of f.token)
      → (is_enabled f.standing ≡ true → is_some (account_at u (state_of c).accounts) ≡ true)
      → nat_lt m end_of_moments ≡ true
      → first_broken (policy (action_of_wish it) f) ≡ None
      → first_broken (place_conditions keys.seed body (place_of keys.seed u body (state_of c) it)) ≡ None
      → IsKept keys.seed c → IsKept keys.seed
      (content_after (place_change keys.seed m u body (place_of keys.seed u body (state_of c) it)) c)
  wish_kept keys m u body f (Account on_account.Read) c names own acts served allowed held kept = kept
  wish_kept keys m u body f (Session n it) c names own acts served allowed held kept =
      session_kept keys.seed n body f it c (ap session_found names) allowed held kept
  wish_kept keys m u body f (Reviewer n a) c names own acts served allowed held kept =
      removed_kept keys.seed (record { session = n; account = a }) c kept
  wish_kept keys m u body f (Set session n it) c names own acts served allowed held kept =
      set_kept keys.seed session n body f it c (ap set_found names) allowed kept
  wish_kept keys m u body f NewSession c names own acts served allowed held kept =
      new_kept keys.seed m u body c (acts (new_allowed f allowed).1) served held kept
  wish_kept keys m u body f (CancelSet session n) c names own acts served allowed held kept =
      left_kept keys.seed session n c
      (number_fits names_set (session_facts keys.seed (state_of c) session) session n (state_of c) kept.sound
      (rw names at (cancelled_there f allowed))) kept
  wish_kept keys m u body f (Certify n) c names own acts served allowed held kept =
      certification_kept keys.seed u n body c (acts (certification_enabled f allowed))
      (certification_owned f n (ap resource_of names) allowed ∙ sym own)
      (rw (names) at (certified_there f allowed)) held kept
  wish_kept keys m u body f (Registry it) c names own acts served allowed held kept =
      registry_kept keys.seed u body f it c acts allowed held kept
  wish_kept keys m u body f _ c names own acts served allowed held kept = kept

  -- an account that is enabled is there
  acts_there : (caller : CallerAsk) (state : State) → is_enabled (standing_of (account_found (Caller caller) state))
      ≡ true
      → is_some (account_at (account_of_claims (claims_of caller.token)) state.accounts) ≡ true
  acts_there caller state = go (claims_of caller.token)
    where
      at : (account : Option AccountRow) → is_enabled (standing_of account) ≡ true → is_some account ≡ true
      at None e = absurd (cc)
      at (Some row) e = refl

      go : (claims : Option Claims)
          → is_enabled (standing_of
          (option_and_then (λ n. account_at n state.accounts) (option_map (λ claims. claims.account) claims))) ≡ true
          → is_some (account_at (account_of_claims claims) state.accounts) ≡ true
      go None e = absurd (cc)
      go (Some claims) e = at (account_at claims.account state.accounts) e

  -- whatever is answered
  by_answer : (keys : Keys) (m : ℕ) (r : RequestValue) (c : Content) (a : Result (Option Data) Rule) (it : Option Asker)
      → OnOk a ((nat_lt m end_of_moments ≡ true) × (first_broken (later_of keys.seed m r it (state_of c)) ≡ None))
      → IsKept keys.seed c
      → IsKept keys.seed (content_after (change_on a (change_by keys m r it (state_of c))) c)
  unfolding found_of policy_conditions
  by_answer keys m r c (Err rule) it held kept = kept
  by_answer keys m r c (Ok reply) None held kept = kept
  by_answer keys m r c (Ok reply) (Some (Caller caller)) held kept =
      let u = account_of_claims (claims_of caller.token) in
      let found = found_of keys.seed r.body (Caller caller) (state_of c) in
      let front = policy_conditions m found in
      let rest = own_conditions keys.seed r.body found in
      wish_kept keys m u r.body (facts_in m found) caller.wish c refl refl (acts_there caller (state_of c)) (held.0)
      (rw (wish_asked keys.seed u r.body (state_of c) caller.wish) at (whole_held front rest held.1))
      (back_held front rest held.1) kept
  by_answer keys m r c (Ok reply) (Some (Login login)) held kept =
      found_kept keys.seed m login c (option_and_then (λ n. account_at n (state_of c).accounts) login.user) kept

  pub request_kept : (keys : Keys) (m : ℕ) (r : RequestValue) (c : Content) → IsKept keys.seed c
      → IsKept keys.seed (content_effect keys m r c)
  unfolding accepted_change
  request_kept keys m r c kept =
      by_answer keys m r c (answer keys m r (state_of c)) (asker_of keys m r) (holds keys m r (state_of c)) kept

-- ---- orders

none_kept : (n : ℕ) (rows : List AccountRow) → is_some (account_at n rows) ≡ false
    → filter (λ row. row.number == n) rows ≡ []
none_kept n [] none = refl
none_kept n (r ∷ rows) none = grind (arith, nat_tests, none, none_kept n rows)

module _ (follows : (c : Content) (it : OrderChange) → state_of (after_order it c) ≡ after_order_state it (state_of c))
    (numbers : (it : OrderChange) (state : State) → IsWellNumbered state → IsNextOrder state it
    → IsWellNumbered (after_order_state it state))
    (counts : (it : OrderChange) (c : Content) → IsCounted c → IsCounted (after_order it c))
    (requests : (u n : ℕ) (state : State) → IsWellNumbered state
    → request_at n (own u state).requests ≡ (if owner_of n == u then request_at n state.requests else None))
    (names : (n : ℕ) (state : State) (row : RequestRow) → IsWellNumbered state → request_at n state.requests ≡ Some row
    → row.account ≡ owner_of n)
    (objects : (u : ℕ) (kind : Kind) (state : State)
    → objects_in kind (own u state).objects ≡ objects_of kind u state.objects) where
  changed_kept : (seeds : List (List ℕ)) (it : OrderChange) (c : Content) → IsKept seeds c → IsNextOrder (state_of c) it
      → IsKept seeds (after_order it c)
  unfolding after_order
  changed_kept seeds it c kept next = record {
    sound = subst (λ s. IsWellNumbered s) (sym (follows c it)) (numbers it (state_of c) kept.sound next);
    counted = counts it c kept.counted;
    graded = kept.graded;
  }

  pub order_kept : (seeds : List (List ℕ)) (it : Order) (c : Content) → IsOrder it → HasSecret it → IsKept seeds c
      → IsKept seeds (content_order_effect it c)
  unfolding change_for own
  order_kept seeds (order.AddAccount a secret) c is has kept = go (has_account a (state_of c)) refl
    where
      go : (b : Bool) → has_account a (state_of c) ≡ b
          → IsKept seeds (content_after_order
          (if b then None else Some (order_change.AddAccount (record { account = a; secret = secret }))) c)
      go true e = kept
      go false e = changed_kept seeds (order_change.AddAccount (record { account = a; secret = secret })) c kept
          (none_kept a (state_of c).accounts e, rw is (grind (arith, nat_tests, has)))
  order_kept seeds (order.DisableAccount a) c is has kept = go (has_account a (state_of c))
    where
      go : (b : Bool) → IsKept seeds (content_after_order (if b then Some (order_change.DisableAccount a) else None) c)
      go true = changed_kept seeds (order_change.DisableAccount a) c kept tt
      go false = kept
  order_kept seeds (order.ApproveRequest n) c is has kept = go (waiting_request n (state_of c)) refl
    where
      go : (found : Option RequestRow) → waiting_request n (state_of c) ≡ found
          → IsKept seeds (content_after_order (option_map (approval (state_of c) n) found) c)
      go None e = kept
      go (Some row) e = changed_kept seeds (approval (state_of c) n row) c kept
          (approved_next requests names objects (state_of c) kept.sound n row e)
  order_kept seeds (order.RejectRequest n) c is has kept = go (waiting_request n (state_of c)) refl
    where
      go : (found : Option RequestRow) → waiting_request n (state_of c) ≡ found
          → IsKept seeds (content_after_order (option_map (λ row. order_change.Reject n) found) c)
      go None e = kept
      go (Some row) e = changed_kept seeds (order_change.Reject n) c kept
          (rejected_next requests names objects (state_of c) kept.sound n row e)
