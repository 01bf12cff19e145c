-- A request that is accepted has an object.
use Rattle.std.proofs.Common.{◌≡◌, ℕ, ◌≤◌, List, [], ◌∷◌, map, Bool, true, false, ◌&&◌, ◌==◌, Option, None, Some, refl}
use Rattle.std.proofs.Common.{sym, ◌∙◌, arith}
use Rattle.std.specs.Prelude.{is_some, length, not, nat_le, nat_lt, option_map, option_and_then, slice_get}
use Rattle.std.specs.Prelude.{if◌then◌else◌, IfOk}
use Rattle.acvp_answers.specs.declared.verdict.Verdict.{Verdict}
use Rattle.acvp_caps.specs.Registered.{registration_conditions}
use Rattle.acvp_gen.specs.Prompts.{prompts_of}
use Rattle.acvp_json.specs.Data.{Data}
use Rattle.acvp_json.specs.Envelope.{envelope_conditions, object_of}
use Rattle.acvp_json.specs.LoginBody.{login_body_conditions, login_body_of}
use Rattle.acvp_json.specs.ReviewerBody.{reviewer_body_conditions, reviewer_body_of}
use Rattle.acvp_mac.specs.Conditions.{Condition, first_broken, unless, with_fault}
use Rattle.acvp_policy.specs.Conditions.{claims_of, is_answered, is_some_and, is_unanswered, session_lasts}
use Rattle.acvp_policy.specs.Conditions.{session_live, session_thawed, set_found, set_lasts, set_live, set_there}
use Rattle.acvp_policy.specs.Decision.{account_of_claims}
use Rattle.acvp_policy.specs.Policy.{policy}
use Rattle.acvp_policy.specs.declared.action.Action.TheVariants as action
use Rattle.acvp_policy.specs.declared.facts.Facts.{Facts}
use Rattle.acvp_policy.specs.declared.facts.SessionFacts.{SessionFacts}
use Rattle.acvp_policy.specs.declared.facts.SetFacts.{SetFacts}
use Rattle.acvp_policy.specs.declared.rule.Rule.{Rule}
use Rattle.acvp_policy.specs.declared.rule.Rule.TheVariants as rule
use Rattle.acvp_registry.specs.declared.kind.Kind.TheVariants.{Vendor, Module, Environment}
use Rattle.acvp_tables.specs.Content.{Content, request_summary, reviewers_of, set_at}
use Rattle.acvp_tables.specs.State.{State, SetRecord, record_counts, set_record, set_record_at, state_of}
use Rattle.acvp_tables.specs.declared.rows.SetRow.{SetRow}
use Rattle.acvp_desk.specs.Answer.{account_found, answer, asker_of, asker_on, conditions, facts_on_caller}
use Rattle.acvp_desk.specs.Answer.{first_conditions, first_conditions_on, found_of, later_of, policy_conditions}
use Rattle.acvp_desk.specs.Answer.{reply_to, is_reviewing}
use Rattle.acvp_desk.specs.Bodies.{body_conditions, object_conditions, registration_rule, rule_of}
use Rattle.acvp_desk.specs.Kept.{IsGraded, IsGradedSet, IsKept}
use Rattle.acvp_desk.specs.Login.{login_at}
use Rattle.acvp_desk.specs.NewSessions.{new_session_in, registration_in}
use Rattle.acvp_desk.specs.OwnConditions.{page_conditions, place_conditions, registry_place_conditions}
use Rattle.acvp_desk.specs.OwnConditions.{session_place_conditions}
use Rattle.acvp_desk.specs.Place.{action_at, place_of, registry_place, session_facts, session_place, sessions_page}
use Rattle.acvp_desk.specs.Place.{subject_at}
use Rattle.acvp_desk.specs.Registries.{action_on_registry, kind_of, objects_page, own_object, own_request}
use Rattle.acvp_desk.specs.Registries.{requests_page}
use Rattle.acvp_desk.specs.Replies.{algorithm_at, place_reply, prompts_from, prompts_reply, received_reply}
use Rattle.acvp_desk.specs.Replies.{session_reply, set_reply}
use Rattle.acvp_desk.specs.Request.{RequestValue}
use Rattle.acvp_desk.specs.Reviewers.{has_room, reviewer_at}
use Rattle.acvp_desk.specs.Sets.{facts_of_set, if_in_session, results_place, set_facts, source_of, submission_for}
use Rattle.acvp_desk.specs.Sets.{verdicts_on_set}
use Rattle.acvp_desk.specs.Wish.{action_of_wish, action_on_session, action_on_set}
use Rattle.acvp_desk.specs.declared.ask.Asker.{Asker}
use Rattle.acvp_desk.specs.declared.ask.Asker.TheVariants.{Login, Caller}
use Rattle.acvp_desk.specs.declared.ask.LoginAsk.{LoginAsk}
use Rattle.acvp_desk.specs.declared.found.ByPrompts.{ByPrompts}
use Rattle.acvp_desk.specs.declared.found.ByPrompts.TheVariants as by_prompts
use Rattle.acvp_desk.specs.declared.found.Found.TheVariants as found
use Rattle.acvp_desk.specs.declared.found.Place.{Place}
use Rattle.acvp_desk.specs.declared.found.SetPlace.TheVariants as in_set
use Rattle.acvp_desk.specs.declared.keys.Keys.{Keys}
use Rattle.acvp_desk.specs.declared.request.Ask.{Ask}
use Rattle.acvp_desk.specs.declared.request.Ask.TheVariants as request
use Rattle.acvp_desk.specs.declared.wish.AccountWish.TheVariants as on_account
use Rattle.acvp_desk.specs.declared.wish.CallerAsk.{CallerAsk}
use Rattle.acvp_desk.specs.declared.wish.Registry.TheVariants as registry
use Rattle.acvp_desk.specs.declared.wish.RegistryWish.{RegistryWish}
use Rattle.acvp_desk.specs.declared.wish.RegistryWish.TheVariants as on_registry
use Rattle.acvp_desk.specs.declared.wish.SessionWish.{SessionWish}
use Rattle.acvp_desk.specs.declared.wish.SessionWish.TheVariants as on_session
use Rattle.acvp_desk.specs.declared.wish.SetWish.{SetWish}
use Rattle.acvp_desk.specs.declared.wish.SetWish.TheVariants as on_set
use Rattle.acvp_desk.specs.declared.wish.Wish.{Wish}
use Rattle.acvp_desk.specs.declared.wish.Wish.TheVariants as wish
use Rattle.acvp_desk.proofs.Allowed.{each_algorithm, on_resource, session_there, set_there as set_is_there}
use Rattle.acvp_desk.proofs.FirstBroken.{back_held, first_held, whole_held}
use Rattle.acvp_desk.proofs.LoginLemmas.{needs_account}
use Rattle.acvp_desk.proofs.KeptAnswers.{found_has}
use Rattle.acvp_desk.proofs.Wishes.{wish_asked}

is_there : {X : Type 0} (x : Option X) → (x ≡ None → ⊥) → is_some x ≡ true
is_there None none = absurd (none refl)
is_there (Some x) none = refl

mapped : {X Y : Type 0} (f : X → Y) (x : Option X) → is_some x ≡ true → is_some (option_map f x) ≡ true
mapped f None there = absurd (cc)
mapped f (Some x) there = refl

-- ---- what a body gives, whose conditions hold

module _ {F : Type 0} (told : F → Rule) (asked : Data → List (Condition F)) (body : List ℕ)
    (holds : first_broken (body_conditions told asked body) ≡ None) where
  object_there : is_some (object_of body) ≡ true
  object_there =
      first_held (is_some (object_of body)) rule.BodyEnvelope
      (map (with_fault told) (object_conditions asked (object_of body)))
      (back_held (_ ∷ []) ((is_some (object_of body), rule.BodyEnvelope)
      ∷ map (with_fault told) (object_conditions asked (object_of body))) holds)

  object_read : {X : Type 0} (read : Data → Option X)
      → ((d : Data) → first_broken (map (with_fault told) (asked d)) ≡ None → is_some (read d) ≡ true)
      → is_some (option_and_then read (object_of body)) ≡ true
  object_read {X = X} read each =
      go (object_of body) object_there
      (back_held (map (with_fault rule_of) (envelope_conditions body))
      (map (with_fault told) (object_conditions asked (object_of body))) holds)
    where
      go : (d : Option Data) → is_some d ≡ true → first_broken (map (with_fault told) (object_conditions asked d))
          ≡ None → is_some (option_and_then read d) ≡ true
      go None there rest = absurd (cc)
      go (Some d) there rest = each d rest

login_said : (body : List ℕ) → first_broken (body_conditions rule_of login_body_conditions body) ≡ None
    → is_some (login_at body) ≡ true
login_said body holds = object_read rule_of login_body_conditions body holds login_body_of
    (λ d rest. first_held (is_some (login_body_of d)) rule.BodyField [] rest)

reviewer_said : (body : List ℕ) → first_broken (body_conditions rule_of reviewer_body_conditions body) ≡ None
    → is_some (reviewer_at body) ≡ true
reviewer_said body holds =
    object_read rule_of reviewer_body_conditions body holds reviewer_body_of
    (λ d rest. first_held (is_some (reviewer_body_of d)) rule.BodyField [] rest)

registration_said : (body : List ℕ) → first_broken (body_conditions registration_rule registration_conditions body)
    ≡ None → is_some (registration_in body) ≡ true
unfolding registration_in
registration_said body holds =
    mapped _ (object_of body) (object_there registration_rule registration_conditions body holds)

-- ---- something is asked

pub asked_on : (a : Ask) (keys : Keys) (moment : ℕ) (r : RequestValue) → first_broken (first_conditions_on a r) ≡ None
    → is_some (asker_on a keys moment r) ≡ true
asked_on request.Login keys moment r holds = mapped Login _ (mapped _ (login_at r.body) (login_said r.body holds))
asked_on (request.Caller it) keys moment r holds = refl

-- ---- what is made of what is there

given : {X Y : Type 0} (f : X → Option Y) (x : Option X) → is_some x ≡ true → ((x : X) → is_some (f x) ≡ true)
    → is_some (option_and_then f x) ≡ true
given f None there each = absurd (cc)
given f (Some x) there each = each x

-- ---- a vector set

-- where it is found, so is its row, which is of the session
set_row : (facts : Option SessionFacts) (session n : ℕ) (sets : List SetRecord)
    → is_some (set_facts facts session n sets) ≡ true
    → (x : SessionFacts) × (row : SetRecord) × (set_record_at n sets ≡ Some row) × ((row.session == session) ≡ true)
    × (set_facts facts session n sets ≡ Some (facts_of_set x row))
unfolding set_facts
set_row None session n sets there = absurd (cc)
set_row (Some of) session n sets there = go (set_record_at n sets) refl there
  where
    at : (row : SetRecord) (b : Bool) → (row.session == session) ≡ b → set_record_at n sets ≡ Some row
        → is_some (option_map (facts_of_set of) (if b then Some row else None)) ≡ true
        → (x : SessionFacts) × (row : SetRecord) × (set_record_at n sets ≡ Some row) × ((row.session == session) ≡ true)
        × (set_facts (Some of) session n sets ≡ Some (facts_of_set x row))
    at row true same found is = (of, row, found, same, rw (found, same) refl)
    at row false same found is = absurd (cc)

    go : (found : Option SetRecord) → set_record_at n sets ≡ found
        → is_some (option_map (facts_of_set of) (option_and_then (if_in_session session) found)) ≡ true
        → (x : SessionFacts) × (row : SetRecord) × (set_record_at n sets ≡ Some row) × ((row.session == session) ≡ true)
        × (set_facts (Some of) session n sets ≡ Some (facts_of_set x row))
    go None found is = absurd (cc)
    go (Some row) found is = at row (row.session == session) refl found is

module _ (follows : (n : ℕ) (c : Content)
    → set_record_at n (state_of c).sets ≡ option_map set_record (set_at n c.sets)) where
  -- the seed of its epoch is there
  has_seed : (seeds : List (List ℕ)) (c : Content) (n : ℕ) (row : SetRecord) → IsGraded seeds c
      → set_record_at n (state_of c).sets ≡ Some row → is_some (slice_get seeds row.epoch) ≡ true
  unfolding IsGradedSet
  has_seed seeds c n row graded found = go (set_at n c.sets) refl (sym (follows n c) ∙ found)
    where
      go : (kept : Option SetRow) → set_at n c.sets ≡ kept → option_map set_record kept ≡ Some row
          → is_some (slice_get seeds row.epoch) ≡ true
      go None at is = absurd (cc)
      go (Some set) at is =
          let right : IsGradedSet seeds set = found_has (IsGradedSet seeds) (λ r. r.number == n) c.sets set at graded in
          let same : set_record set ≡ row = cc in
          rw (← same, right.1) refl

-- what is shown by its prompts
source_shown : (seeds : List (List ℕ)) (moment n : ℕ) (facts : SetFacts) (row : SetRecord) (shown : ByPrompts)
    → is_some (slice_get seeds row.epoch) ≡ true
    → is_some (set_reply seeds moment n (in_set.Made shown (Some (source_of row))) facts) ≡ true
source_shown seeds moment n facts row shown there =
    mapped (prompts_reply moment n facts shown) (prompts_from seeds n (source_of row))
    (mapped (λ seed. prompts_of seed n row.capability) (slice_get seeds row.epoch) there)

-- its results are shown by the verdicts, or by its prompts
set_results_shown : (seeds : List (List ℕ)) (moment n : ℕ) (facts : SetFacts) (row : SetRecord)
    (verdicts : Option (List Verdict)) → is_some (slice_get seeds row.epoch) ≡ true
    → is_some (set_reply seeds moment n (results_place verdicts (Some (source_of row))) facts) ≡ true
set_results_shown seeds moment n facts row None there = source_shown seeds moment n facts row by_prompts.Results there
set_results_shown seeds moment n facts row (Some verdicts) there = refl

-- answers to it are kept, where it isn't cancelled
submission_shown : (seeds : List (List ℕ)) (session n : ℕ) (sets : List SetRecord) (row : SetRecord)
    → set_record_at n sets ≡ Some row
    → (row.session == session) ≡ true → row.cancelled ≡ false
    → is_some (option_map (λ _. received_reply n) (submission_for seeds session n sets)) ≡ true
unfolding submission_for
submission_shown seeds session n sets row found of live = rw (found, of, live) refl

not_cancelled : (facts : Option SetFacts) (of : SessionFacts) (row : SetRecord) → facts ≡ Some (facts_of_set of row)
    → is_some_and facts (λ x. not x.cancelled) ≡ true → row.cancelled ≡ false
not_cancelled facts of row is live = go row.cancelled refl (rw is at live)
  where
    go : (b : Bool) → row.cancelled ≡ b → not row.cancelled ≡ true → row.cancelled ≡ false
    go true e not = absurd (cc)
    go false e not = e

live_to_submit : (f : Facts) → first_broken (policy action.Submit f) ≡ None
    → is_some_and (set_found f.subject) (λ x. not x.cancelled) ≡ true
live_to_submit f holds =
    first_held (is_some_and (set_found f.subject) (λ x. not x.cancelled)) rule.SetCancelled
    (set_lasts f ∷ is_unanswered f ∷ [])
    (back_held (set_there f ∷ session_live f ∷ session_lasts f ∷ session_thawed f ∷ [])
    (set_live f ∷ set_lasts f ∷ is_unanswered f ∷ []) (on_resource action.Submit f holds))

live_to_resubmit : (f : Facts) → first_broken (policy action.Resubmit f) ≡ None
    → is_some_and (set_found f.subject) (λ x. not x.cancelled) ≡ true
live_to_resubmit f holds =
    first_held (is_some_and (set_found f.subject) (λ x. not x.cancelled)) rule.SetCancelled
    (set_lasts f ∷ is_answered f ∷ [])
    (back_held (set_there f ∷ session_live f ∷ session_lasts f ∷ session_thawed f ∷ [])
    (set_live f ∷ set_lasts f ∷ is_answered f ∷ []) (on_resource action.Resubmit f holds))

page_there : {X : Type 0} (found : Option X) → first_broken (page_conditions found) ≡ None → is_some found ≡ true
page_there found holds = first_held (is_some found) rule.BadPage [] holds

-- ---- each wish

module _ (follows : (n : ℕ) (c : Content) → set_record_at n (state_of c).sets ≡ option_map set_record (set_at n c.sets))
    (keys : Keys) (moment : ℕ) (r : RequestValue) (c : Content) (kept : IsKept keys.seed c)
    (seeded : 1 ≤ length keys.seed) (caller : CallerAsk) where
  abbrev u : ℕ
  u = account_of_claims (claims_of caller.token)

  abbrev state : State
  state = state_of c

  -- what is found of a wish, and what is asked of it
  abbrev place_on : Wish → Place
  place_on it = place_of keys.seed u r.body state it

  abbrev facts_on : Wish → Facts
  facts_on it = facts_on_caller moment caller.token (account_found (Caller caller) state)
      (is_reviewing (Caller caller) state) (subject_at (place_on it))

  -- its object
  abbrev shown : Wish → Option Data
  shown it = place_reply keys moment u r.body (place_on it)

  set_shown : (session n : ℕ) (it : SetWish)
      → first_broken (policy (action_on_set it) (facts_on (wish.Set session n it))) ≡ None
      → is_some (shown (wish.Set session n it)) ≡ true
  set_shown session n it holds = go it holds
    where
      there : (it : SetWish) → first_broken (policy (action_on_set it) (facts_on (wish.Set session n it))) ≡ None
          → (of : SessionFacts) × (row : SetRecord) × (set_record_at n state.sets ≡ Some row)
          × ((row.session == session) ≡ true)
          × (set_facts (session_facts keys.seed state session) session n state.sets ≡ Some (facts_of_set of row))
      there it holds = set_row (session_facts keys.seed state session) session n state.sets
          (set_is_there it (facts_on (wish.Set session n it)) holds)

      go : (it : SetWish) → first_broken (policy (action_on_set it) (facts_on (wish.Set session n it))) ≡ None
          → is_some (shown (wish.Set session n it)) ≡ true
      go on_set.Read holds =
          let (of, row, found, same, is) = there on_set.Read holds in
          rw (is, found, same) (source_shown keys.seed moment n (facts_of_set of row) row by_prompts.Prompts
          (has_seed follows keys.seed c n row kept.graded found))
      go on_set.Expected holds =
          let (of, row, found, same, is) = there on_set.Expected holds in
          rw (is, found, same) (source_shown keys.seed moment n (facts_of_set of row) row by_prompts.Expected
          (has_seed follows keys.seed c n row kept.graded found))
      go on_set.Results holds =
          let (of, row, found, same, is) = there on_set.Results holds in
          rw (is, found, same) (set_results_shown keys.seed moment n (facts_of_set of row) row
          (verdicts_on_set keys.seed row) (has_seed follows keys.seed c n row kept.graded found))
      go on_set.Submit holds =
          let (of, row, found, same, is) = there on_set.Submit holds in
          rw is (submission_shown keys.seed session n state.sets row found same
          (not_cancelled (set_facts (session_facts keys.seed state session) session n state.sets) of row is
          (live_to_submit (facts_on (wish.Set session n on_set.Submit)) holds)))
      go on_set.Resubmit holds =
          let (of, row, found, same, is) = there on_set.Resubmit holds in
          rw is (submission_shown keys.seed session n state.sets row found same
          (not_cancelled (set_facts (session_facts keys.seed state session) session n state.sets) of row is
          (live_to_resubmit (facts_on (wish.Set session n on_set.Resubmit)) holds)))

  session_shown_on : (n : ℕ) (it : SessionWish)
      → first_broken (policy (action_on_session it) (facts_on (wish.Session n it))) ≡ None
      → first_broken (session_place_conditions r.body (session_place keys.seed n state it)) ≡ None
      → is_some (shown (wish.Session n it)) ≡ true
  session_shown_on n it holds own =
      given _ (session_facts keys.seed state n) (session_there it (facts_on (wish.Session n it)) holds) (go it own)
    where
      go : (it : SessionWish) → first_broken (session_place_conditions r.body (session_place keys.seed n state it))
          ≡ None
          → (facts : SessionFacts) → is_some (session_reply moment n r.body (session_place keys.seed n state it) facts)
          ≡ true
      go on_session.AddReviewer own facts =
          mapped _ (reviewer_at r.body)
          (reviewer_said r.body (whole_held (body_conditions rule_of reviewer_body_conditions r.body)
          ((has_room (reviewers_of n state.reviewers) (reviewer_at r.body), rule.ReviewersFull) ∷ []) own))
      go _ own facts = refl

  new_shown : (seeds : List (List ℕ)) → 1 ≤ length seeds → is_some (registration_in r.body) ≡ true → (sessions : ℕ)
      → is_some (new_session_in seeds moment u sessions r.body) ≡ true
  new_shown [] seeded said sessions = absurd (grind (arith, seeded))
  new_shown (seed ∷ seeds) seeded said sessions = mapped _ (registration_in r.body) said

  registry_shown : (it : RegistryWish) → first_broken (policy (action_on_registry it) (facts_on (wish.Registry it)))
      ≡ None
      → first_broken (registry_place_conditions (registry_place u r.body state it)) ≡ None
      → is_some (shown (wish.Registry it)) ≡ true
  registry_shown (on_registry.Read registry.Vendors n) holds own =
      mapped _ (own_object Vendor u n state.objects)
      (first_held (is_some (own_object Vendor u n state.objects)) rule.NoResource []
      (on_resource action.ReadVendor (facts_on (wish.Registry (on_registry.Read registry.Vendors n))) holds))
  registry_shown (on_registry.Read registry.Modules n) holds own =
      mapped _ (own_object Module u n state.objects)
      (first_held (is_some (own_object Module u n state.objects)) rule.NoResource []
      (on_resource action.ReadModule (facts_on (wish.Registry (on_registry.Read registry.Modules n))) holds))
  registry_shown (on_registry.Read registry.Environments n) holds own =
      mapped _ (own_object Environment u n state.objects)
      (first_held (is_some (own_object Environment u n state.objects)) rule.NoResource []
      (on_resource action.ReadEnvironment
      (facts_on (wish.Registry (on_registry.Read registry.Environments n))) holds))
  registry_shown (on_registry.New of) holds own = refl
  registry_shown (on_registry.List of at) holds own =
      mapped _ (option_map (objects_page (kind_of of) u state.objects) at)
      (page_there (option_map (objects_page (kind_of of) u state.objects) at) own)
  registry_shown (on_registry.ReadRequest n) holds own =
      let row = option_map request_summary (own_request u n state.requests) in
      mapped _ row (first_held (is_some row) rule.NoResource []
      (on_resource action.ReadRequest (facts_on (wish.Registry (on_registry.ReadRequest n))) holds))
  registry_shown (on_registry.ListRequests at) holds own =
      mapped _ (option_map (requests_page u state.requests) at)
      (page_there (option_map (requests_page u state.requests) at) own)

  wish_shown : (it : Wish) → first_broken (policy (action_of_wish it) (facts_on it)) ≡ None
      → first_broken (place_conditions keys.seed r.body (place_on it)) ≡ None → is_some (shown it) ≡ true
  wish_shown (wish.Account on_account.Read) holds own = refl
  wish_shown (wish.Algorithm n) holds own =
      mapped _ (algorithm_at n)
      (is_there (algorithm_at n)
      (each_algorithm n (first_held (nat_le 1 n && nat_le n 12) rule.NoResource []
      (on_resource action.ReadAlgorithm (facts_on (wish.Algorithm n)) holds))))
  wish_shown (wish.Session n it) holds own = session_shown_on n it holds own
  wish_shown (wish.Set session n it) holds own = set_shown session n it holds
  wish_shown wish.NewSession holds own =
      let sessions = (record_counts u state).sessions in
      mapped _ (new_session_in keys.seed moment u sessions r.body)
      (new_shown keys.seed seeded
      (registration_said r.body
      (whole_held (body_conditions registration_rule registration_conditions r.body)
      ((nat_lt sessions 999999, rule.AccountFull) ∷ []) own)) sessions)
  wish_shown (wish.ListSessions at) holds own =
      mapped _ (option_map (sessions_page u state) at) (page_there (option_map (sessions_page u state) at) own)
  wish_shown (wish.Registry it) holds own = registry_shown it holds own
  wish_shown _ holds own = refl

  caller_shown : first_broken (later_of keys.seed moment r (Some (Caller caller)) state) ≡ None
      → is_some (reply_to keys moment r (Some (Caller caller)) state) ≡ true
  unfolding found_of policy_conditions
  caller_shown holds =
      let front = policy (action_at (place_on caller.wish)) (facts_on caller.wish) in
      let back = place_conditions keys.seed r.body (place_on caller.wish) in
      wish_shown caller.wish (rw (wish_asked keys.seed u r.body state caller.wish) at (whole_held front back holds))
      (back_held front back holds)

-- ---- every request

module _ (follows : (n : ℕ) (c : Content) → set_record_at n (state_of c).sets ≡ option_map set_record (set_at n c.sets))
    (keys : Keys) (moment : ℕ) (r : RequestValue) (c : Content) (kept : IsKept keys.seed c)
    (seeded : 1 ≤ length keys.seed) where
  login_shown : (login : LoginAsk) → first_broken (later_of keys.seed moment r (Some (Login login)) (state_of c)) ≡ None
      → is_some (reply_to keys moment r (Some (Login login)) (state_of c)) ≡ true
  unfolding found_of
  login_shown login holds =
      let account = account_found (Login login) (state_of c) in
      mapped _ account (is_there account
      (needs_account moment login account
      (whole_held (policy_conditions moment (found.Login login account)) [] holds)))

  pub accepted_is_told : IfOk (answer keys moment r (state_of c)) (λ object. is_some object ≡ true)
  unfolding answer
  accepted_is_told = go (first_broken (conditions keys moment r (state_of c))) refl
    where
      front : List (Condition Rule)
      front = first_conditions moment r

      later : first_broken (conditions keys moment r (state_of c)) ≡ None
          → first_broken (later_of keys.seed moment r (asker_of keys moment r) (state_of c)) ≡ None
      later none = back_held front (later_of keys.seed moment r (asker_of keys moment r) (state_of c)) none

      told : (asked : Option Asker) → asker_of keys moment r ≡ asked → is_some asked ≡ true
          → first_broken (conditions keys moment r (state_of c)) ≡ None
          → is_some (reply_to keys moment r (asker_of keys moment r) (state_of c)) ≡ true
      told None is there none = absurd (cc)
      told (Some (Login login)) is there none =
          rw is (login_shown login (rw is at (later none)))
      told (Some (Caller caller)) is there none =
          rw is (caller_shown follows keys moment r c kept seeded caller (rw is at (later none)))

      asked : first_broken (conditions keys moment r (state_of c)) ≡ None → is_some (asker_of keys moment r) ≡ true
      asked none =
          asked_on r.ask keys moment r
          (back_held (_ ∷ []) (first_conditions_on r.ask r)
          (whole_held front (later_of keys.seed moment r (asker_of keys moment r) (state_of c)) none))

      go : (b : Option Rule) → first_broken (conditions keys moment r (state_of c)) ≡ b
          → IfOk (unless b (reply_to keys moment r (asker_of keys moment r) (state_of c)))
          (λ object. is_some object ≡ true)
      go None none = told (asker_of keys moment r) refl (asked none) none
      go (Some refusal) broken = tt
