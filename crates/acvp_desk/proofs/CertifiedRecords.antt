-- What every run leaves of certifications is so after a request and after an order.
use Rattle.std.proofs.Common.{◌≡◌, ℕ, List, [], ◌∷◌, Bool, true, false, Option, None, Some, Result, Ok, Err, OnOk, refl}
use Rattle.std.proofs.Common.{ap, arith, length, map, subst, sym, ◌+◌, ◌∙◌}
use Rattle.std.specs.Prelude.{◌==◌, ◌&&◌, is_some, not, option_map, option_and_then, nat_lt, if◌then◌else◌}
use Rattle.std.proofs.lemmas.Bool.Decides.{nat_tests}
use Rattle.acvp_answers.specs.declared.verdict.Verdict.{Verdict}
use Rattle.acvp_gen.specs.Prompt.{PromptsValue}
use Rattle.acvp_json.specs.Data.{Data}
use Rattle.acvp_json.specs.declared.certify_body.CertifyBody.{CertifyBody}
use Rattle.acvp_mac.specs.Conditions.{first_broken}
use Rattle.acvp_policy.specs.Conditions.{has_passed, is_frozen, is_no_sample, is_some_and, session_lasts, session_live}
use Rattle.acvp_policy.specs.Conditions.{session_of, session_of_set, session_thawed}
use Rattle.acvp_policy.specs.Conditions.{claims_of, session_there, set_live, set_lasts, set_there, is_answered}
use Rattle.acvp_policy.specs.Conditions.{is_unanswered}
use Rattle.acvp_policy.specs.Decision.{account_of_claims}
use Rattle.acvp_policy.specs.Policy.{policy}
use Rattle.acvp_policy.specs.Resource.{resource_of}
use Rattle.acvp_policy.specs.declared.action.Action.TheVariants as action
use Rattle.acvp_policy.specs.declared.facts.Facts.{Facts}
use Rattle.acvp_policy.specs.declared.facts.SessionFacts.{SessionFacts}
use Rattle.acvp_policy.specs.declared.rule.Rule.{Rule}
use Rattle.acvp_policy.specs.declared.rule.Rule.TheVariants as rule
use Rattle.acvp_registry.specs.Object.{KeptObject}
use Rattle.acvp_registry.specs.declared.kind.Kind.TheVariants.{Module, Environment}
use Rattle.acvp_tables.specs.Changes.{after, after_order, cancelled_session, changed, is_request, is_session}
use Rattle.acvp_tables.specs.Changes.{new_request, new_session, with_counts, with_passed, with_status}
use Rattle.acvp_tables.specs.Content.{Content, account_at, live_sets, object_at, request_at, requests_of, session_at}
use Rattle.acvp_tables.specs.Graded.{GradedValue}
use Rattle.acvp_tables.specs.State.{State, SetRecord, live_records, session_record, session_record_at, set_record}
use Rattle.acvp_tables.specs.State.{AreWellNumbered, IsWellNumbered, first_of_account, is_sound_body, own, owner_of}
use Rattle.acvp_tables.specs.State.{record_counts, state_of}
use Rattle.acvp_tables.specs.declared.change.Change.TheVariants as change
use Rattle.acvp_tables.specs.declared.change.NewSession.{NewSession as NewSessionValue}
use Rattle.acvp_tables.specs.declared.change.OrderChange.TheVariants as order_change
use Rattle.acvp_tables.specs.declared.rows.AccountRow.{AccountRow}
use Rattle.acvp_tables.specs.declared.rows.RequestBody.{RequestBody}
use Rattle.acvp_tables.specs.declared.rows.RequestBody.TheVariants as body
use Rattle.acvp_tables.specs.declared.rows.RequestRow.{RequestRow}
use Rattle.acvp_tables.specs.declared.rows.RequestStatus.{RequestStatus}
use Rattle.acvp_tables.specs.declared.rows.RequestStatus.TheVariants as status
use Rattle.acvp_tables.specs.declared.rows.SessionRow.{SessionRow}
use Rattle.acvp_desk.specs.Answer.{accepted_change, answer, asker_of, change_by, change_on, content_after}
use Rattle.acvp_desk.specs.Answer.{content_effect, end_of_moments, facts_in, found_of, later_of, own_conditions}
use Rattle.acvp_desk.specs.Answer.{policy_conditions}
use Rattle.acvp_desk.specs.Asked.{certification_change, certified_in, certification_grounds, object_change, object_in}
use Rattle.acvp_desk.specs.Asked.{certification_made, next_request, object_grounds, request_made}
use Rattle.acvp_desk.specs.Certifications.{AreCertified, certified_session, is_rejected, may_be_certified}
use Rattle.acvp_desk.specs.Kept.{IsKept}
use Rattle.acvp_desk.specs.Login.{login_step}
use Rattle.acvp_desk.specs.NewSessions.{new_session_in}
use Rattle.acvp_desk.specs.Orders.{approval, content_after_order, content_order_effect, has_account}
use Rattle.acvp_desk.specs.Orders.{approved_number, is_initial, order_change as change_for, waiting_request}
use Rattle.acvp_desk.specs.Place.{certification_of, facts_of_session, place_of, session_facts, session_passes}
use Rattle.acvp_desk.specs.Place.{registry_place, session_place, set_outcomes, subject_at}
use Rattle.acvp_desk.specs.Registries.{kind_of}
use Rattle.acvp_desk.specs.Replies.{answers_change, cancelled_set, place_change, prompts_from, registry_change}
use Rattle.acvp_desk.specs.Replies.{session_change, set_change, submission_change}
use Rattle.acvp_desk.specs.Request.{RequestValue}
use Rattle.acvp_desk.specs.Reviewers.{reviewer_at}
use Rattle.acvp_desk.specs.Sets.{facts_of_set, results_place, set_facts, set_in_session, set_place, set_source}
use Rattle.acvp_desk.specs.Sets.{submission_for, verdicts_in_session}
use Rattle.acvp_desk.specs.Submissions.{graded_at, kept_answers}
use Rattle.acvp_desk.specs.Wish.{action_of_wish, action_on_session, action_on_set}
use Rattle.acvp_desk.specs.declared.ask.Asker.{Asker}
use Rattle.acvp_desk.specs.declared.ask.Asker.TheVariants.{Login, Caller}
use Rattle.acvp_desk.specs.declared.found.Grounds.{Grounds}
use Rattle.acvp_desk.specs.declared.found.Submission.{Submission}
use Rattle.acvp_desk.specs.declared.keys.Keys.{Keys}
use Rattle.acvp_desk.specs.declared.order.Order.{Order}
use Rattle.acvp_desk.specs.declared.order.Order.TheVariants as order
use Rattle.acvp_desk.specs.declared.wish.AccountWish.TheVariants as on_account
use Rattle.acvp_desk.specs.declared.wish.RegistryWish.{RegistryWish}
use Rattle.acvp_desk.specs.declared.wish.RegistryWish.TheVariants as on_registry
use Rattle.acvp_desk.specs.declared.wish.SessionWish.{SessionWish}
use Rattle.acvp_desk.specs.declared.wish.SessionWish.TheVariants as on_session
use Rattle.acvp_desk.specs.declared.wish.SetWish.{SetWish}
use Rattle.acvp_desk.specs.declared.wish.SetWish.TheVariants as on_set
use Rattle.acvp_desk.specs.declared.wish.Wish.{Wish}
use Rattle.acvp_desk.specs.declared.wish.Wish.TheVariants as wish
use Rattle.acvp_desk.proofs.Allowed.{certification_owned, on_resource}
use Rattle.acvp_desk.proofs.AnswerParts.{holds}
use Rattle.acvp_desk.proofs.CertifiedRows.{AreBefore, IsThawed, Stands, certifiable_once_asked}
use Rattle.acvp_desk.proofs.CertifiedRows.{certifiable_once_decided, certifiable_stays, certifiable_with_request}
use Rattle.acvp_desk.proofs.CertifiedRows.{certifiable_with_session, last_once_asked, last_once_decided, last_stays}
use Rattle.acvp_desk.proofs.CertifiedRows.{last_with_request, last_with_session}
use Rattle.acvp_desk.proofs.DecidedRequest.{own_request, sound_request}
use Rattle.acvp_desk.proofs.EpochRows.{below_next}
use Rattle.acvp_desk.proofs.FirstBroken.{back_held, first_held, whole_held}
use Rattle.acvp_desk.proofs.NextSession.{right_true}
use Rattle.acvp_desk.proofs.PassedSession.{counters_tell}
use Rattle.acvp_desk.proofs.Wishes.{wish_asked}

-- ---- what the policy asks of the session

abbrev Thawed : Option SessionFacts → Type 0
Thawed facts = is_some_and facts (λ x. not (is_frozen x.certification)) ≡ true

cancel_thawed : (f : Facts) → first_broken (policy action.CancelSession f) ≡ None → Thawed (session_of f.subject)
cancel_thawed f held = first_held (session_thawed f).0 rule.SessionFrozen []
    (back_held (session_there f ∷ session_live f ∷ []) (session_thawed f ∷ []) (on_resource action.CancelSession f held))

set_cancel_thawed : (f : Facts) → first_broken (policy action.CancelSet f) ≡ None → Thawed (session_of f.subject)
set_cancel_thawed f held = first_held (session_thawed f).0 rule.SessionFrozen (set_live f ∷ [])
    (back_held (set_there f ∷ session_live f ∷ []) (session_thawed f ∷ set_live f ∷ [])
    (on_resource action.CancelSet f held))

submit_thawed : (f : Facts) → first_broken (policy action.Submit f) ≡ None → Thawed (session_of f.subject)
submit_thawed f held =
    first_held (session_thawed f).0 rule.SessionFrozen (set_live f ∷ set_lasts f ∷ is_unanswered f ∷ [])
    (back_held (set_there f ∷ session_live f ∷ session_lasts f ∷ [])
    (session_thawed f ∷ set_live f ∷ set_lasts f ∷ is_unanswered f ∷ []) (on_resource action.Submit f held))

resubmit_thawed : (f : Facts) → first_broken (policy action.Resubmit f) ≡ None → Thawed (session_of f.subject)
resubmit_thawed f held =
    first_held (session_thawed f).0 rule.SessionFrozen (set_live f ∷ set_lasts f ∷ is_answered f ∷ [])
    (back_held (set_there f ∷ session_live f ∷ session_lasts f ∷ [])
    (session_thawed f ∷ set_live f ∷ set_lasts f ∷ is_answered f ∷ []) (on_resource action.Resubmit f held))

record IsAskable (facts : Option SessionFacts) : Type 0 where
  live : is_some_and facts (λ x. not x.cancelled) ≡ true
  thawed : Thawed facts
  real : is_some_and facts (λ x. not x.sample) ≡ true
  passed : is_some_and facts (λ x. x.passed) ≡ true

askable : (f : Facts) → first_broken (policy action.Certify f) ≡ None → IsAskable (session_of f.subject)
askable f held =
    let all = on_resource action.Certify f held in
    let rest = session_thawed f ∷ is_no_sample f ∷ has_passed f ∷ [] in
    let later = back_held (session_there f ∷ session_live f ∷ session_lasts f ∷ []) rest all in
    record {
      live = first_held (session_live f).0 rule.SessionCancelled (session_lasts f ∷ rest)
          (back_held (session_there f ∷ []) (session_live f ∷ session_lasts f ∷ rest) all);
      thawed = first_held (session_thawed f).0 rule.SessionFrozen (is_no_sample f ∷ has_passed f ∷ []) later;
      real = first_held (is_no_sample f).0 rule.SampleNotCertifiable (has_passed f ∷ [])
          (back_held (session_thawed f ∷ []) (is_no_sample f ∷ has_passed f ∷ []) later);
      passed = first_held (has_passed f).0 rule.NotPassed []
          (back_held (session_thawed f ∷ is_no_sample f ∷ []) (has_passed f ∷ []) later);
    }

-- the session of a set that is found
of_set : (facts : Option SessionFacts) (session n : ℕ) (sets : List SetRecord)
    → Thawed (session_of_set (set_facts facts session n sets)) → Thawed facts
unfolding set_facts
of_set None session n sets is = is
of_set (Some x) session n sets is = go (set_in_session session n sets) is
  where
    go : (found : Option SetRecord) → Thawed (session_of_set (option_map (facts_of_set x) found)) → Thawed (Some x)
    go None is = absurd (cc)
    go (Some row) is = is

opened : (b : Bool) → not b ≡ true → b ≡ false
opened true is = absurd (cc)
opened false is = refl

-- ---- the requests for certifications of a session

-- the session that a sound one names is there
named_there : (mine : State) (n : ℕ) (b : RequestBody) → certified_session b ≡ Some n → is_sound_body mine b ≡ true
    → is_some (session_record_at n mine.sessions) ≡ true
named_there mine n (body.Registration object) asks sound = absurd (cc)
named_there mine n (body.Certification it) asks sound =
    let same : it.session ≡ n = cc in
    rw same at (right_true (is_some (object_at Module it.«module» mine.objects)
    && is_some (object_at Environment it.environment mine.objects))
    (is_some (session_record_at it.session mine.sessions)) sound)

module _ (session_told : (u n : ℕ) (state : State) → IsWellNumbered state → session_record_at n (own u state).sessions
    ≡ (if owner_of n == u then session_record_at n state.sessions else None))
    (request_told : (u n : ℕ) (state : State) → IsWellNumbered state → request_at n (own u state).requests
    ≡ (if owner_of n == u then request_at n state.requests else None)) where
  -- they are before the next request of the account that the session is of
  all_before : (state : State) → IsWellNumbered state → (u n : ℕ) → owner_of n ≡ u
      → AreBefore (first_of_account u + length (requests_of u state.requests)) n state.requests
  unfolding IsWellNumbered own
  all_before state well u n owned r found asks =
      below_next (λ (row : RequestRow). row.number) r.number (first_of_account u) (own u state).requests
      (well u).requests (rw owner at there)
    where
      sound : is_some (session_record_at n (own (owner_of r.number) state).sessions) ≡ true
      sound = named_there (own (owner_of r.number) state) n r.body asks
          (sound_request request_told state well r.number r found)

      of : (b : Bool) → (owner_of n == owner_of r.number) ≡ b
          → is_some (if b then session_record_at n state.sessions else None) ≡ true → owner_of r.number ≡ u
      of true same is = grind (arith, nat_tests, same, owned)
      of false same is = absurd (cc)

      owner : owner_of r.number ≡ u
      owner = of (owner_of n == owner_of r.number) refl (rw (session_told (owner_of r.number) n state well) at sound)

      there : is_some (request_at r.number (own (owner_of r.number) state).requests) ≡ true
      there = rw (own_request request_told state well r.number r found) refl

-- ---- requests

module _ (session_follows : (n : ℕ) (c : Content)
    → session_record_at n (state_of c).sessions ≡ option_map session_record (session_at n c.sessions))
    (live : (s : ℕ) (c : Content) → live_records s (state_of c).sets ≡ map set_record (live_sets s c.sets))
    (session_told : (u n : ℕ) (state : State) → IsWellNumbered state → session_record_at n (own u state).sessions
    ≡ (if owner_of n == u then session_record_at n state.sessions else None))
    (request_told : (u n : ℕ) (state : State) → IsWellNumbered state → request_at n (own u state).requests
    ≡ (if owner_of n == u then request_at n state.requests else None)) where
  -- what the facts say of a session's row
  thawed_row : (seeds : List (List ℕ)) (n : ℕ) (c : Content) → Thawed (session_facts seeds (state_of c) n)
      → IsThawed n c.sessions c.requests
  unfolding session_facts state_of
  thawed_row seeds n c is row found =
      opened (is_frozen (certification_of row.last_request c.requests))
      (rw (session_follows n c, found) at is)

  askable_row : (seeds : List (List ℕ)) (n : ℕ) (c : Content) → IsKept seeds c
      → IsAskable (session_facts seeds (state_of c) n)
      → (row : SessionRow) → session_at n c.sessions ≡ Some row → may_be_certified row ≡ true
  unfolding session_facts
  askable_row seeds n c kept is row found =
      let real : not row.sample ≡ true = rw (session_follows n c, found) at is.real in
      let alive : not row.cancelled ≡ true = rw (session_follows n c, found) at is.live in
      let passed : session_passes seeds row.number (state_of c).sets ≡ true =
      rw (session_follows n c, found) at is.passed in
      rw (real, alive) (counters_tell live seeds c n row kept found ∙ passed)

  askable_there : (seeds : List (List ℕ)) (n : ℕ) (c : Content)
      → Thawed (session_facts seeds (state_of c) n) → is_some (session_at n c.sessions) ≡ true
  unfolding session_facts
  askable_there seeds n c is = go (session_at n c.sessions) refl (rw (session_follows n c) at is)
    where
      go : (found : Option SessionRow) → session_at n c.sessions ≡ found
          → Thawed (option_map (facts_of_session seeds (state_of c)) (option_map session_record found))
          → is_some found ≡ true
      go None found is = absurd (cc)
      go (Some row) found is = refl

  -- where a session's counters change, or it is cancelled
  changed_certified : (c : Content) (n : ℕ) (f : SessionRow → SessionRow)
      → ((row : SessionRow) → (f row).number ≡ row.number)
      → ((row : SessionRow) → (f row).last_request ≡ row.last_request) → IsThawed n c.sessions c.requests
      → (d : Content) → d.sessions ≡ changed (is_session n) f c.sessions → d.requests ≡ c.requests
      → AreCertified c → AreCertified d
  changed_certified c n f same keeps thawed d sessions requests certified = record {
    last = rw (sessions, requests) (last_stays n f same keeps c.sessions c.requests certified.last);
    certifiable = rw (sessions, requests)
        (certifiable_stays n f same keeps c.sessions c.requests thawed certified.certifiable);
  }

  -- where neither sessions nor requests change
  same_certified : (c d : Content) → d.sessions ≡ c.sessions → d.requests ≡ c.requests → AreCertified c
      → AreCertified d
  same_certified c d sessions requests certified = record {
    last = rw (sessions, requests) certified.last;
    certifiable = rw (sessions, requests) certified.certifiable;
  }

  session_certified : (seeds : List (List ℕ)) (n : ℕ) (body : List ℕ) (f : Facts) (it : SessionWish) (c : Content)
      → session_of f.subject ≡ session_facts seeds (state_of c) n
      → first_broken (policy (action_on_session it) f) ≡ None → AreCertified c
      → AreCertified (content_after (session_change n body (session_place seeds n (state_of c) it)) c)
  unfolding after
  session_certified seeds n body f on_session.Cancel c names allowed certified =
      changed_certified c n cancelled_session (λ row. refl) (λ row. refl)
      (thawed_row seeds n c (rw names at (cancel_thawed f allowed))) (after (change.CancelSession n) c) refl refl
      certified
  session_certified seeds n body f on_session.AddReviewer c names allowed certified = go (reviewer_at body)
    where
      go : (account : Option ℕ) → AreCertified (content_after
          (option_map (λ a. change.AddReviewer (record { session = n; account = a })) account) c)
      go None = certified
      go (Some a) = same_certified c (after (change.AddReviewer (record { session = n; account = a })) c) refl refl
          certified
  session_certified seeds n body f _ c names allowed certified = certified

  -- where answers are kept
  kept_certified : (seeds : List (List ℕ)) (session n : ℕ) (body : List ℕ) (c : Content)
      → Thawed (session_facts seeds (state_of c) session) → AreCertified c → (place : Option Submission)
      → AreCertified (content_after (option_and_then (submission_change seeds session n body) place) c)
  unfolding after
  kept_certified seeds session n body c thawed certified None = certified
  kept_certified seeds session n body c thawed certified (Some s) = under (prompts_from seeds n s.source)
    where
      given : (graded : Option GradedValue)
          → AreCertified (content_after
          (option_map (λ graded. change.KeepAnswers (kept_answers session n s.others graded)) graded) c)
      given None = certified
      given (Some graded) =
          let it = kept_answers session n s.others graded in
          changed_certified c session (with_passed it.passed) (λ row. refl) (λ row. refl)
          (thawed_row seeds session c thawed) (after (change.KeepAnswers it) c) refl refl certified

      under : (prompts : Option PromptsValue)
          → AreCertified (content_after (option_and_then (answers_change session n body s.others) prompts) c)
      under None = certified
      under (Some prompts) = given (graded_at body prompts)

  set_certified : (seeds : List (List ℕ)) (session n : ℕ) (body : List ℕ) (f : Facts) (it : SetWish) (c : Content)
      → session_of f.subject
      ≡ session_of_set (set_facts (session_facts seeds (state_of c) session) session n (state_of c).sets)
      → first_broken (policy (action_on_set it) f) ≡ None → AreCertified c
      → AreCertified (content_after (set_change seeds session n body (set_place seeds session n (state_of c).sets it)) c)
  set_certified seeds session n body f on_set.Read c names allowed certified = certified
  set_certified seeds session n body f on_set.Expected c names allowed certified = certified
  set_certified seeds session n body f on_set.Results c names allowed certified =
      go (verdicts_in_session seeds session n (state_of c).sets)
    where
      go : (verdicts : Option (List Verdict))
          → AreCertified (content_after
          (set_change seeds session n body (results_place verdicts (set_source session n (state_of c).sets))) c)
      go None = certified
      go (Some verdicts) = certified
  set_certified seeds session n body f on_set.Submit c names allowed certified =
      kept_certified seeds session n body c
      (of_set (session_facts seeds (state_of c) session) session n (state_of c).sets
      (rw names at (submit_thawed f allowed))) certified (submission_for seeds session n (state_of c).sets)
  set_certified seeds session n body f on_set.Resubmit c names allowed certified =
      kept_certified seeds session n body c
      (of_set (session_facts seeds (state_of c) session) session n (state_of c).sets
      (rw names at (resubmit_thawed f allowed))) certified (submission_for seeds session n (state_of c).sets)

  -- where a vector set is cancelled
  left_certified : (seeds : List (List ℕ)) (session n : ℕ) (c : Content)
      → Thawed (session_facts seeds (state_of c) session) → AreCertified c
      → AreCertified (after (change.CancelSet (cancelled_set session n (set_outcomes seeds session (state_of c)))) c)
  unfolding after
  left_certified seeds session n c thawed certified =
      let it = cancelled_set session n (set_outcomes seeds session (state_of c)) in
      changed_certified c session (with_counts it.live it.passed) (λ row. refl) (λ row. refl)
      (thawed_row seeds session c thawed) (after (change.CancelSet it) c) refl refl certified

  -- where a session is registered
  new_certified : (made : Option NewSessionValue) (c : Content) → AreCertified c
      → AreCertified (content_after (option_map change.NewSession made) c)
  unfolding after
  new_certified None c certified = certified
  new_certified (Some s) c certified = record {
    last = last_with_session c.sessions (new_session s) c.requests certified.last;
    certifiable = certifiable_with_session c.sessions (new_session s) c.requests refl certified.certifiable;
  }

  -- where an object is asked to be registered
  registration_certified : (u : ℕ) (object : Result KeptObject Rule) (asked : Grounds) (c : Content) → AreCertified c
      → AreCertified (content_after (object_change u object asked) c)
  unfolding after
  registration_certified u (Err broken) asked c certified = certified
  registration_certified u (Ok object) asked c certified =
      let new = new_request (request_made u asked object) in
      record {
        last = last_with_request c.sessions c.requests new refl certified.last;
        certifiable = certifiable_with_request c.sessions c.requests (new ∷ []) certified.certifiable;
      }

  -- the requests for certifications of an account's session are before the account's next
  before_next : (u n : ℕ) (asked : Grounds) (c : Content) → AreWellNumbered c → owner_of n ≡ u
      → asked.requests ≡ length (requests_of u (state_of c).requests)
      → AreBefore (next_request u asked) n c.requests
  unfolding state_of
  before_next u n asked c sound owned many r found asks =
      rw many (all_before session_told request_told (state_of c) sound u n owned r found asks)

  -- where a session is asked to be certified
  asked_certified : (seeds : List (List ℕ)) (u n : ℕ) (parts : Result CertifyBody Rule) (asked : Grounds) (c : Content)
      → IsKept seeds c → owner_of n ≡ u → asked.requests ≡ length (requests_of u (state_of c).requests)
      → IsAskable (session_facts seeds (state_of c) n) → AreCertified c
      → AreCertified (content_after (certification_change u n parts asked) c)
  unfolding after
  asked_certified seeds u n (Err broken) asked c kept owned many is certified = certified
  asked_certified seeds u n (Ok parts) asked c kept owned many is certified =
      let it = certification_made u n asked parts in
      record {
        last = last_once_asked it c.sessions c.requests (thawed_row seeds n c is.thawed)
            (askable_there seeds n c is.thawed) (before_next u n asked c kept.sound owned many) certified.last;
        certifiable = certifiable_once_asked it c.sessions c.requests (askable_row seeds n c kept is)
            certified.certifiable;
      }

  registry_certified : (u : ℕ) (body : List ℕ) (it : RegistryWish) (c : Content) → AreCertified c
      → AreCertified (content_after (registry_change u (registry_place u body (state_of c) it)) c)
  registry_certified u body (on_registry.New of) c certified =
      registration_certified u (object_in (kind_of of) body)
      (object_grounds u (object_in (kind_of of) body) (state_of c)) c certified
  registry_certified u body _ c certified = certified

  wish_certified : (keys : Keys) (m u : ℕ) (body : List ℕ) (f : Facts) (it : Wish) (c : Content)
      → f.subject ≡ subject_at (place_of keys.seed u body (state_of c) it) → u ≡ account_of_claims (claims_of f.token)
      → first_broken (policy (action_of_wish it) f) ≡ None → IsKept keys.seed c → AreCertified c
      → AreCertified (content_after (place_change keys.seed m u body (place_of keys.seed u body (state_of c) it)) c)
  unfolding after
  wish_certified keys m u body f (wish.Account on_account.Read) c names acts allowed kept certified = certified
  wish_certified keys m u body f (wish.Session n it) c names acts allowed kept certified =
      session_certified keys.seed n body f it c (ap session_of names) allowed certified
  wish_certified keys m u body f (wish.Reviewer n a) c names acts allowed kept certified =
      same_certified c (after (change.RemoveReviewer (record { session = n; account = a })) c) refl refl certified
  wish_certified keys m u body f (wish.Set session n it) c names acts allowed kept certified =
      set_certified keys.seed session n body f it c (ap session_of names) allowed certified
  wish_certified keys m u body f wish.NewSession c names acts allowed kept certified =
      new_certified (new_session_in keys.seed m u (record_counts u (state_of c)).sessions body) c certified
  wish_certified keys m u body f (wish.CancelSet session n) c names acts allowed kept certified =
      left_certified keys.seed session n c
      (of_set (session_facts keys.seed (state_of c) session) session n (state_of c).sets
      (rw (ap session_of names) at (set_cancel_thawed f allowed))) certified
  wish_certified keys m u body f (wish.Certify n) c names acts allowed kept certified =
      asked_certified keys.seed u n (certified_in body)
      (certification_grounds u (certified_in body) (state_of c)) c kept
      (certification_owned f n (ap resource_of names) allowed ∙ sym acts) refl
      (subst IsAskable (ap session_of names) (askable f allowed)) certified
  wish_certified keys m u body f (wish.Registry it) c names acts allowed kept certified =
      registry_certified u body it c certified
  wish_certified keys m u body f _ c names acts allowed kept certified = certified

  -- whatever is answered
  by_answer : (keys : Keys) (m : ℕ) (r : RequestValue) (c : Content) (a : Result (Option Data) Rule) (it : Option Asker)
      → OnOk a ((nat_lt m end_of_moments ≡ true) × (first_broken (later_of keys.seed m r it (state_of c)) ≡ None))
      → IsKept keys.seed c → AreCertified c
      → AreCertified (content_after (change_on a (change_by keys m r it (state_of c))) c)
  unfolding found_of policy_conditions after
  by_answer keys m r c (Err rule) it held kept certified = certified
  by_answer keys m r c (Ok reply) None held kept certified = certified
  by_answer keys m r c (Ok reply) (Some (Caller caller)) held kept certified =
      let u = account_of_claims (claims_of caller.token) in
      let found = found_of keys.seed r.body (Caller caller) (state_of c) in
      let front = policy_conditions m found in
      let rest = own_conditions keys.seed r.body found in
      wish_certified keys m u r.body (facts_in m found) caller.wish c refl refl
      (rw (wish_asked keys.seed u r.body (state_of c) caller.wish) at (whole_held front rest held.1)) kept certified
  by_answer keys m r c (Ok reply) (Some (Login login)) held kept certified =
      used (option_and_then (λ n. account_at n (state_of c).accounts) login.user)
    where
      stepped : (row : AccountRow) (step : Option ℕ)
          → AreCertified (content_after
          (option_map (λ step. change.UseStep (record { account = row.number; step = step })) step) c)
      stepped row None = certified
      stepped row (Some step) =
          same_certified c (after (change.UseStep (record { account = row.number; step = step })) c) refl refl certified

      used : (account : Option AccountRow)
          → AreCertified (content_after
          (option_and_then (λ row. option_map (λ step. change.UseStep (record { account = row.number; step = step }))
          (login_step m login row)) account) c)
      used None = certified
      used (Some row) = stepped row (login_step m login row)

  pub request_certified : (keys : Keys) (m : ℕ) (r : RequestValue) (c : Content) → IsKept keys.seed c → AreCertified c
      → AreCertified (content_effect keys m r c)
  unfolding accepted_change
  request_certified keys m r c kept certified =
      by_answer keys m r c (answer keys m r (state_of c)) (asker_of keys m r) (holds keys m r (state_of c)) kept
      certified

-- ---- orders

waiting_is_open : (n : ℕ) (state : State) (row : RequestRow) → waiting_request n state ≡ Some row
    → (r : RequestRow) → request_at n state.requests ≡ Some r → is_rejected r.status ≡ false
waiting_is_open n state row waits r found = by r.status (rw found at waits)
  where
    by : (s : RequestStatus) → (if is_initial s then Some r else None) ≡ Some row → is_rejected s ≡ false
    by status.Initial waits = refl
    by (status.Approved k) waits = refl
    by status.Rejected waits = absurd (cc)

decided_certified : (n : ℕ) (decided : RequestStatus) (c d : Content) → d.sessions ≡ c.sessions
    → d.requests ≡ changed (is_request n) (with_status decided) c.requests
    → Stands n c.requests → AreCertified c → AreCertified d
decided_certified n decided c d sessions requests stands certified = record {
  last = rw (sessions, requests) (last_once_decided n decided c.sessions c.requests stands certified.last);
  certifiable = rw (sessions, requests)
      (certifiable_once_decided n decided c.sessions c.requests stands certified.certifiable);
}

pub order_certified : (it : Order) (c : Content) → AreCertified c → AreCertified (content_order_effect it c)
unfolding change_for after_order state_of
order_certified (order.AddAccount a secret) c certified = go (has_account a (state_of c))
  where
    go : (b : Bool) → AreCertified (content_after_order
        (if b then None else Some (order_change.AddAccount (record { account = a; secret = secret }))) c)
    go true = certified
    go false = record { last = certified.last; certifiable = certified.certifiable }
order_certified (order.DisableAccount a) c certified = go (has_account a (state_of c))
  where
    go : (b : Bool)
        → AreCertified (content_after_order (if b then Some (order_change.DisableAccount a) else None) c)
    go true = record { last = certified.last; certifiable = certified.certifiable }
    go false = certified
order_certified (order.ApproveRequest n) c certified = go (waiting_request n (state_of c)) refl
  where
    go : (found : Option RequestRow) → waiting_request n (state_of c) ≡ found
        → AreCertified (content_after_order (option_map (approval (state_of c) n) found) c)
    go None e = certified
    go (Some row) e =
        decided_certified n (status.Approved (approved_number (state_of c) row)) c
        (after_order (approval (state_of c) n row) c) refl refl (waiting_is_open n (state_of c) row e) certified
order_certified (order.RejectRequest n) c certified = go (waiting_request n (state_of c)) refl
  where
    go : (found : Option RequestRow) → waiting_request n (state_of c) ≡ found
        → AreCertified (content_after_order (option_map (λ row. order_change.Reject n) found) c)
    go None e = certified
    go (Some row) e = decided_certified n status.Rejected c (after_order (order_change.Reject n) c) refl refl
        (waiting_is_open n (state_of c) row e) certified
