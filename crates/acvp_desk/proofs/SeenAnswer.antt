-- An account is answered alike in all records in which it sees the same.
use Rattle.std.proofs.Common.{◌≡◌, ◌⊎◌, inl, inr, ℕ, ◌/◌, List, [], ◌∷◌, ◌++◌, map, Bool, true, false, ◌==◌, Option}
use Rattle.std.proofs.Common.{None, Some, Result, Err, refl, sym, ap, ◌∙◌, arith}
use Rattle.std.specs.Prelude.{◌||◌, ◌&&◌, not, is_none, is_some, option_and_then, option_map, if◌then◌else◌, ⊤}
use Rattle.std.proofs.lemmas.Bool.Decides.{nat_tests}
use Rattle.acvp_answers.specs.Standards.{standard_of}
use Rattle.acvp_answers.specs.Verdicts.{verdicts_of}
use Rattle.acvp_answers.specs.declared.verdict.Verdict.{Verdict}
use Rattle.acvp_gen.specs.Prompt.{PromptsValue}
use Rattle.acvp_json.specs.Data.{Data}
use Rattle.acvp_json.specs.Session.{session_results_data}
use Rattle.acvp_json.specs.SetResults.{set_results_data}
use Rattle.acvp_mac.specs.Conditions.{Condition, first_broken, judged}
use Rattle.acvp_policy.specs.Callers.{AgreeOnCaller}
use Rattle.acvp_policy.specs.Conditions.{claims_of, is_some_and, session_of_set}
use Rattle.acvp_policy.specs.Decision.{account_of, account_of_claims}
use Rattle.acvp_policy.specs.Kinds.{IsOfItsKind, IsOfSession, IsReview}
use Rattle.acvp_policy.specs.Policy.{claims_conditions, policy, resource_conditions}
use Rattle.acvp_policy.specs.Resource.{resource_of}
use Rattle.acvp_policy.specs.Scope.{scope_of}
use Rattle.acvp_policy.specs.SessionNumber.{account_of_session}
use Rattle.acvp_policy.specs.declared.action.Action.{Action}
use Rattle.acvp_policy.specs.declared.action.Scope.{Scope}
use Rattle.acvp_policy.specs.declared.facts.Facts.{Facts}
use Rattle.acvp_policy.specs.declared.facts.Token.{Token}
use Rattle.acvp_policy.specs.declared.facts.SessionFacts.{SessionFacts}
use Rattle.acvp_policy.specs.declared.facts.SetFacts.{SetFacts}
use Rattle.acvp_policy.specs.declared.rule.Rule.{Rule}
use Rattle.acvp_policy.specs.declared.rule.Rule.TheVariants as rule
use Rattle.acvp_tables.specs.Content.{account_at, is_reviewer}
use Rattle.acvp_tables.specs.State.{State, SessionRecord, SetRecord, own, seen, may_see, owner_of, session_record_at}
use Rattle.acvp_tables.specs.State.{set_record_at, live_records, IsWellNumbered}
use Rattle.acvp_desk.specs.Answer.{account_found, answer, asker_of, facts_in, first_conditions, first_conditions_on}
use Rattle.acvp_desk.specs.Answer.{found_of, later_conditions, later_of, own_conditions, policy_conditions, reply_of}
use Rattle.acvp_desk.specs.Answer.{reply_to, is_reviewing, who, who_of}
use Rattle.acvp_desk.specs.Isolation.{SeesTheSame}
use Rattle.acvp_desk.specs.OwnConditions.{set_place_conditions}
use Rattle.acvp_desk.specs.Place.{facts_of_session, place_of, reviewed, session_facts, session_passes, set_outcome}
use Rattle.acvp_desk.specs.Place.{set_outcomes, subject_at}
use Rattle.acvp_desk.specs.Replies.{disposition_at, prompts_from, result_shown, session_reply, set_reply}
use Rattle.acvp_desk.specs.Request.{RequestValue}
use Rattle.acvp_desk.specs.Sets.{facts_of_set, if_in_session, results_place, set_facts, set_in_session, set_source}
use Rattle.acvp_desk.specs.Sets.{source_of, verdicts_in_session, verdicts_on_set}
use Rattle.acvp_desk.specs.Wish.{action_of_wish}
use Rattle.acvp_desk.specs.declared.ask.Asker.{Asker}
use Rattle.acvp_desk.specs.declared.ask.Asker.TheVariants.{Login, Caller}
use Rattle.acvp_desk.specs.declared.found.Found.{Found}
use Rattle.acvp_desk.specs.declared.found.SessionPlace.TheVariants as in_session
use Rattle.acvp_desk.specs.declared.found.SetOutcome.{SetOutcome}
use Rattle.acvp_desk.specs.declared.found.SetSource.{SetSource}
use Rattle.acvp_desk.specs.declared.keys.Keys.{Keys}
use Rattle.acvp_desk.specs.declared.wish.CallerAsk.{CallerAsk}
use Rattle.acvp_desk.specs.declared.wish.SessionWish.TheVariants as on_session
use Rattle.acvp_desk.specs.declared.wish.SetWish.TheVariants as on_set
use Rattle.acvp_desk.specs.declared.wish.Wish.{Wish}
use Rattle.acvp_desk.specs.declared.wish.Wish.TheVariants as wish
use Rattle.acvp_desk.proofs.Alike.{answers_alike}
use Rattle.acvp_desk.proofs.Elsewhere.{no_set_in}
use Rattle.acvp_desk.proofs.FirstBroken.{front_broken}
use Rattle.acvp_desk.proofs.Nobody.{earlier_or, judged_err, refused_by}
use Rattle.acvp_desk.proofs.OwnAnswer.{acts_as, agree_on_caller, asked_by, caller_alike, login_own, own_account_found}
use Rattle.acvp_desk.proofs.OwnPlace.{IsOnOwn, found_number}
use Rattle.acvp_desk.proofs.Wishes.{policy_asked, reads_results, reviews_unbound}

-- ---- who may see a session

seen_by_own : (n u : ℕ) (state : State) → owner_of n ≡ u → may_see u (owner_of n) n state ≡ true
seen_by_own n u state own = let same : (owner_of n == u) ≡ true = grind (arith, nat_tests, own) in rw same refl

seen_by_review : (n u : ℕ) (state : State) → is_reviewer n u state.reviewers ≡ true
    → may_see u (owner_of n) n state ≡ true
seen_by_review n u state reviews = rw reviews (go (owner_of n == u))
  where
    go : (b : Bool) → (b || true) ≡ true
    go true = refl
    go false = refl

where_seen : {X : Type 0} → (b : Bool) (there : X) (told none : X) → told ≡ (if b then there else none) → b ≡ true
    → told ≡ there
where_seen true there told none is e = is
where_seen false there told none is e = absurd (cc)

-- where the rows that it sees are the same, it sees the same
module _ (session_seen : (u n : ℕ) (state : State) → IsWellNumbered state
    → session_record_at n (seen u state).sessions
    ≡ (if may_see u (owner_of n) n state then session_record_at n state.sessions else None))
    (set_seen : (u v : ℕ) (state : State) → IsWellNumbered state
    → set_record_at v (seen u state).sets
    ≡ (if may_see u (owner_of (v / 100)) (v / 100) state then set_record_at v state.sets else None))
    (live_seen : (u s : ℕ) (state : State)
    → live_records s (seen u state).sets
    ≡ (if may_see u (owner_of s) s state then live_records s state.sets else []))
    (reviewer_seen : (u s : ℕ) (state : State)
    → is_reviewer s u (seen u state).reviewers ≡ is_reviewer s u state.reviewers)
    (own_seen : (u : ℕ) (state : State) → own u (seen u state) ≡ own u state)
    (u : ℕ) (one other : State) (well_one : IsWellNumbered one) (well_other : IsWellNumbered other)
    (same : seen u one ≡ seen u other) where
  reviews_same : (n : ℕ) → is_reviewer n u one.reviewers ≡ is_reviewer n u other.reviewers
  reviews_same n = sym (reviewer_seen u n one) ∙ ap (λ (state : State). is_reviewer n u state.reviewers) same
      ∙ reviewer_seen u n other

  by_other : (n : ℕ) → may_see u (owner_of n) n one ≡ true → may_see u (owner_of n) n other ≡ true
  by_other n by_one = sym (ap (λ b. (owner_of n == u) || b) (reviews_same n)) ∙ by_one

  pub sees_the_same : SeesTheSame u one other
  sees_the_same = record {
    owned = sym (own_seen u one) ∙ ap (own u) same ∙ own_seen u other;
    reviews = reviews_same;
    session = λ n by_one.
        sym (where_seen (may_see u (owner_of n) n one) (session_record_at n one.sessions)
        (session_record_at n (seen u one).sessions) None (session_seen u n one well_one) by_one)
        ∙ ap (λ (state : State). session_record_at n state.sessions) same
        ∙ where_seen (may_see u (owner_of n) n other) (session_record_at n other.sessions)
        (session_record_at n (seen u other).sessions) None (session_seen u n other well_other) (by_other n by_one);
    live_sets = λ n by_one.
        sym (where_seen (may_see u (owner_of n) n one) (live_records n one.sets) (live_records n (seen u one).sets) []
        (live_seen u n one) by_one)
        ∙ ap (λ (state : State). live_records n state.sets) same
        ∙ where_seen (may_see u (owner_of n) n other) (live_records n other.sets) (live_records n (seen u other).sets)
        [] (live_seen u n other) (by_other n by_one);
    set = λ v by_one.
        sym (where_seen (may_see u (owner_of (v / 100)) (v / 100) one) (set_record_at v one.sets)
        (set_record_at v (seen u one).sets) None (set_seen u v one well_one) by_one)
        ∙ ap (λ (state : State). set_record_at v state.sets) same
        ∙ where_seen (may_see u (owner_of (v / 100)) (v / 100) other) (set_record_at v other.sets)
        (set_record_at v (seen u other).sets) None (set_seen u v other well_other) (by_other (v / 100) by_one);
  }

-- and then a vector set of a session that it may see is the same
same_set : ((n : ℕ) (state : State) (row : SetRecord) → IsWellNumbered state → set_record_at n state.sets ≡ Some row
    → row.session ≡ n / 100)
    → (u n v : ℕ) (one other : State) → IsWellNumbered one → IsWellNumbered other → SeesTheSame u one other
    → may_see u (owner_of n) n one ≡ true
    → set_in_session n v one.sets ≡ set_in_session n v other.sets
same_set set_names u n v one other well_one well_other sees by_one = go ((v / 100) == n) refl
  where
    go : (b : Bool) → ((v / 100) == n) ≡ b → set_in_session n v one.sets ≡ set_in_session n v other.sets
    go true e = let of : v / 100 ≡ n = grind (arith, nat_tests, e) in
        ap (option_and_then (if_in_session n)) (sees.set v (rw of by_one))
    go false e = no_set_in set_names n v one well_one e ∙ sym (no_set_in set_names n v other well_other e)

-- ---- what results speak of

-- facts of a session that differ at most in the status of its certification
abbrev AgreeOnResults : Option SessionFacts → Option SessionFacts → Type 0
AgreeOnResults None None = ⊤
AgreeOnResults (Some a) (Some b) = (a.cancelled ≡ b.cancelled) × (a.created ≡ b.created) × (a.passed ≡ b.passed)
AgreeOnResults None (Some b) = ⊥
AgreeOnResults (Some a) None = ⊥

-- and facts of a vector set of such a session
abbrev AgreeOnSetResults : Option SetFacts → Option SetFacts → Type 0
AgreeOnSetResults None None = ⊤
AgreeOnSetResults (Some a) (Some b) = (a.session.cancelled ≡ b.session.cancelled)
    × (a.session.created ≡ b.session.created) × (a.cancelled ≡ b.cancelled)
AgreeOnSetResults None (Some b) = ⊥
AgreeOnSetResults (Some a) None = ⊥

passes_same : (seeds : List (List ℕ)) (n : ℕ) (one other : State) → live_records n one.sets ≡ live_records n other.sets
    → session_passes seeds n one.sets ≡ session_passes seeds n other.sets
unfolding session_passes
passes_same seeds n one other live = rw live refl

facts_agree : (seeds : List (List ℕ)) (n : ℕ) (one other : State)
    → session_record_at n one.sessions ≡ session_record_at n other.sessions
    → live_records n one.sets ≡ live_records n other.sets
    → AgreeOnResults (session_facts seeds one n) (session_facts seeds other n)
unfolding session_facts
facts_agree seeds n one other records live = rw records (go (session_record_at n other.sessions) refl)
  where
    go : (row : Option SessionRecord) → session_record_at n other.sessions ≡ row
        → AgreeOnResults (option_map (facts_of_session seeds one) row) (option_map (facts_of_session seeds other) row)
    go None is = tt
    go (Some row) is =
        let number : row.number ≡ n = found_number n other.sessions row is in
        (refl, refl, rw number (passes_same seeds n one other live))

set_facts_agree : (session n : ℕ) (sets others : List SetRecord) (one other : Option SessionFacts)
    → AgreeOnResults one other → set_in_session session n sets ≡ set_in_session session n others
    → AgreeOnSetResults (set_facts one session n sets) (set_facts other session n others)
unfolding set_facts
set_facts_agree session n sets others None None agree same = tt
set_facts_agree session n sets others (Some a) (Some b) agree same = rw same (go (set_in_session session n others))
  where
    go : (row : Option SetRecord)
        → AgreeOnSetResults (option_map (facts_of_set a) row) (option_map (facts_of_set b) row)
    go None = tt
    go (Some row) = (agree.0, agree.1, refl)
set_facts_agree session n sets others None (Some b) agree same = absurd agree
set_facts_agree session n sets others (Some a) None agree same = absurd agree

-- ---- the conditions on results

abbrev session_list : Option SessionFacts → List (Condition Rule)
session_list found = (is_some found, rule.NoResource)
    ∷ (is_some_and found (λ x. not x.cancelled), rule.SessionCancelled) ∷ []

session_list_same : (one other : Option SessionFacts) → AgreeOnResults one other → session_list one ≡ session_list other
session_list_same None None agree = refl
session_list_same (Some a) (Some b) agree =
    ap (λ (cancelled : Bool). (true, rule.NoResource) ∷ (not cancelled, rule.SessionCancelled) ∷ []) agree.0
session_list_same None (Some b) agree = absurd agree
session_list_same (Some a) None agree = absurd agree

abbrev set_list : Option SetFacts → List (Condition Rule)
set_list found = (is_some found, rule.NoResource)
    ∷ (is_some_and (session_of_set found) (λ x. not x.cancelled), rule.SessionCancelled)
    ∷ (is_some_and found (λ x. not x.cancelled), rule.SetCancelled) ∷ []

set_list_same : (one other : Option SetFacts) → AgreeOnSetResults one other → set_list one ≡ set_list other
set_list_same None None agree = refl
set_list_same (Some a) (Some b) agree =
    ap (λ (cancelled : Bool). (true, rule.NoResource) ∷ (not cancelled, rule.SessionCancelled)
    ∷ (not a.cancelled, rule.SetCancelled) ∷ []) agree.0
    ∙ ap (λ (cancelled : Bool). (true, rule.NoResource) ∷ (not b.session.cancelled, rule.SessionCancelled)
    ∷ (not cancelled, rule.SetCancelled) ∷ []) agree.2
set_list_same None (Some b) agree = absurd agree
set_list_same (Some a) None agree = absurd agree

-- ---- the replies

results_reply_same : (moment n : ℕ) (body : List ℕ) (one other : Option SessionFacts) (sets : List SetOutcome)
    → AgreeOnResults one other
    → option_and_then (session_reply moment n body (in_session.Results sets)) one
    ≡ option_and_then (session_reply moment n body (in_session.Results sets)) other
results_reply_same moment n body None None sets agree = refl
results_reply_same moment n body (Some a) (Some b) sets agree =
    ap (λ (created : ℕ). Some
    (session_results_data a.passed
    (map (λ (set : SetOutcome). record { vs = set.vs; disposition = disposition_at moment created set.disposition })
    sets))) agree.1
    ∙ ap (λ (passed : Bool). Some (session_results_data passed (map (result_shown moment b) sets))) agree.2
results_reply_same moment n body None (Some b) sets agree = absurd agree
results_reply_same moment n body (Some a) None sets agree = absurd agree

set_results_same : (seeds : List (List ℕ)) (moment n : ℕ) (one other : Option SetFacts)
    (verdicts : Option (List Verdict)) (source : Option SetSource) → AgreeOnSetResults one other
    → option_and_then (set_reply seeds moment n (results_place verdicts source)) one
    ≡ option_and_then (set_reply seeds moment n (results_place verdicts source)) other
set_results_same seeds moment n None None verdicts source agree = refl
set_results_same seeds moment n (Some a) (Some b) None source agree =
    ap (λ (created : ℕ). option_and_then
    (λ (source : SetSource). option_map
    (λ (prompts : PromptsValue). set_results_data n (disposition_at moment created None)
    (verdicts_of (standard_of prompts) []))
    (prompts_from seeds n source)) source) agree.1
set_results_same seeds moment n (Some a) (Some b) (Some verdicts) source agree = refl
set_results_same seeds moment n None (Some b) verdicts source agree = absurd agree
set_results_same seeds moment n (Some a) None verdicts source agree = absurd agree

none_asked : (seeds : List (List ℕ)) (n : ℕ) (body : List ℕ) (verdicts : Option (List Verdict))
    (source : Option SetSource) → set_place_conditions seeds n body (results_place verdicts source) ≡ []
none_asked seeds n body None source = refl
none_asked seeds n body (Some verdicts) source = refl

-- ---- results of a session that is seen

module _ (agree : (s : Scope) (one other : Facts) → AgreeOnCaller one other
    → claims_conditions s one ≡ claims_conditions s other)
    (keys : Keys) (moment : ℕ) (r : RequestValue) (token : Token) (one other : State) where
  abbrev asks : Wish → Asker
  asks it = Caller (record { token = token; wish = it })

  abbrev found : Wish → State → Found
  found it state = found_of keys.seed r.body (asks it) state

  abbrev told : Wish → State → Result (Option Data) Rule
  told it state = judged (first_conditions moment r ++ later_conditions keys.seed moment r.body (found it state))
      (reply_of keys moment r.body (found it state))

  -- where a rule on callers refuses both
  refused : (it : Wish) (refusal : Rule) (state : State)
      → first_broken (claims_conditions (scope_of (action_of_wish it)) (facts_in moment (found it state)))
      ≡ Some refusal
      → told it state ≡ Err (earlier_or (first_broken (first_conditions moment r)) refusal)
  unfolding policy
  refused it refusal state broken =
      let f = facts_in moment (found it state) in
      let a = action_of_wish it in
      judged_err (first_conditions moment r ++ later_conditions keys.seed moment r.body (found it state))
      (reply_of keys moment r.body (found it state)) _
      (refused_by (first_conditions moment r) (later_conditions keys.seed moment r.body (found it state)) refusal
      (front_broken (policy_conditions moment (found it state))
      (own_conditions keys.seed r.body (found it state)) refusal
      (ap first_broken (policy_asked moment keys.seed r.body (asks it) state)
      ∙ front_broken (claims_conditions (scope_of a) f) (resource_conditions a f) refusal broken)))

  -- where the conditions behind those on callers are the same, and the reply is
  admitted : (it : Wish) → AgreeOnCaller (facts_in moment (found it one)) (facts_in moment (found it other))
      → resource_conditions (action_of_wish it) (facts_in moment (found it one))
      ≡ resource_conditions (action_of_wish it) (facts_in moment (found it other))
      → own_conditions keys.seed r.body (found it one) ≡ own_conditions keys.seed r.body (found it other)
      → reply_of keys moment r.body (found it one) ≡ reply_of keys moment r.body (found it other)
      → told it one ≡ told it other
  unfolding policy
  admitted it callers resources owned replies =
      let a = action_of_wish it in
      let f = facts_in moment (found it one) in
      let g = facts_in moment (found it other) in
      let first = first_conditions moment r in
      let own = λ (state : State). own_conditions keys.seed r.body (found it state) in
      let reply = λ (state : State). reply_of keys moment r.body (found it state) in
      ap (λ decided. judged (first ++ (decided ++ own one)) (reply one))
      (policy_asked moment keys.seed r.body (asks it) one)
      ∙ ap (λ claims. judged (first ++ ((claims ++ resource_conditions a f) ++ own one)) (reply one))
      (agree (scope_of a) f g callers)
      ∙ ap (λ resource. judged (first ++ ((claims_conditions (scope_of a) g ++ resource) ++ own one)) (reply one))
      resources
      ∙ ap (λ asked. judged (first ++ ((claims_conditions (scope_of a) g ++ resource_conditions a g) ++ asked))
      (reply one)) owned
      ∙ ap (λ shown. judged (first ++ ((claims_conditions (scope_of a) g ++ resource_conditions a g) ++ own other))
      shown) replies
      ∙ sym (ap (λ decided. judged (first ++ (decided ++ own other)) (reply other))
      (policy_asked moment keys.seed r.body (asks it) other))

  session_told : (n : ℕ) → AgreeOnCaller (facts_in moment (found (wish.Session n on_session.Results) one))
      (facts_in moment (found (wish.Session n on_session.Results) other))
      → session_record_at n one.sessions ≡ session_record_at n other.sessions
      → live_records n one.sets ≡ live_records n other.sets
      → told (wish.Session n on_session.Results) one ≡ told (wish.Session n on_session.Results) other
  unfolding found_of
  session_told n callers records live =
      let facts = facts_agree keys.seed n one other records live in
      admitted (wish.Session n on_session.Results) callers
      (session_list_same (session_facts keys.seed one n) (session_facts keys.seed other n) facts) refl
      (ap (λ rows. option_and_then
      (session_reply moment n r.body (in_session.Results (map (set_outcome keys.seed) rows)))
      (session_facts keys.seed one n)) live
      ∙ results_reply_same moment n r.body (session_facts keys.seed one n) (session_facts keys.seed other n)
      (set_outcomes keys.seed n other) facts)

  set_told : (session n : ℕ) → AgreeOnCaller (facts_in moment (found (wish.Set session n on_set.Results) one))
      (facts_in moment (found (wish.Set session n on_set.Results) other))
      → session_record_at session one.sessions ≡ session_record_at session other.sessions
      → live_records session one.sets ≡ live_records session other.sets
      → set_in_session session n one.sets ≡ set_in_session session n other.sets
      → told (wish.Set session n on_set.Results) one ≡ told (wish.Set session n on_set.Results) other
  unfolding found_of
  set_told session n callers records live same =
      let seeds = keys.seed in
      let facts = facts_agree seeds session one other records live in
      let sets = set_facts_agree session n one.sets other.sets (session_facts seeds one session)
      (session_facts seeds other session) facts same in
      let verdicts = λ (state : State). verdicts_in_session seeds session n state.sets in
      let source = λ (state : State). set_source session n state.sets in
      admitted (wish.Set session n on_set.Results) callers
      (set_list_same (set_facts (session_facts seeds one session) session n one.sets)
      (set_facts (session_facts seeds other session) session n other.sets) sets)
      (none_asked seeds n r.body (verdicts one) (source one)
      ∙ sym (none_asked seeds n r.body (verdicts other) (source other)))
      (ap (λ row. option_and_then
      (set_reply seeds moment n
      (results_place (option_and_then (verdicts_on_set seeds) row) (option_map source_of row)))
      (set_facts (session_facts seeds one session) session n one.sets)) same
      ∙ set_results_same seeds moment n (set_facts (session_facts seeds one session) session n one.sets)
      (set_facts (session_facts seeds other session) session n other.sets) (verdicts other) (source other) sets)

-- ---- all of it

one_of_both : (a b : Bool) → (a && b) ≡ true → a ≡ true
one_of_both true b both = refl
one_of_both false b both = absurd (cc)

module _ (set_names : (n : ℕ) (state : State) (row : SetRecord) → IsWellNumbered state
    → set_record_at n state.sets ≡ Some row → row.session ≡ n / 100)
    (account_told : (u n : ℕ) (state : State)
    → account_at n (own u state).accounts ≡ (if n == u then account_at n state.accounts else None))
    (place_told : (seeds : List (List ℕ)) (u : ℕ) (state : State) → IsWellNumbered state → (body : List ℕ) (it : Wish)
    → IsOnOwn u it → place_of seeds u body (own u state) it ≡ place_of seeds u body state it)
    (agree : (s : Scope) (one other : Facts) → AgreeOnCaller one other
    → claims_conditions s one ≡ claims_conditions s other)
    (owns : (a : Action) (f : Facts) (session : ℕ) → first_broken (claims_conditions (scope_of a) f) ≡ None
    → IsOfItsKind a (resource_of f.subject)
    → IsOfSession session (resource_of f.subject) → (account_of_session session ≡ account_of f) ⊎ IsReview a f)
    (keys : Keys) (moment : ℕ) (r : RequestValue) (u : ℕ) (one other : State) (well_one : IsWellNumbered one)
    (well_other : IsWellNumbered other) (same : SeesTheSame u one other) where
  accounts_same : (it : Asker) → who it ≡ Some u → account_found it one ≡ account_found it other
  accounts_same it named =
      sym (own_account_found account_told it u one named) ∙ ap (account_found it) same.owned
      ∙ own_account_found account_told it u other named

  -- who isn't refused sees the session
  sees : (a : Action) (f : Facts) (n : ℕ) (unbound : Bool) → account_of f ≡ u
      → f.reviewer ≡ (is_reviewer n u one.reviewers && unbound) → first_broken (claims_conditions (scope_of a) f) ≡ None
      → IsOfItsKind a (resource_of f.subject) → IsOfSession n (resource_of f.subject)
      → may_see u (owner_of n) n one ≡ true
  sees a f n unbound acts reviewer held kind of = elim (owns a f n held kind of) [
    | inl own ↦ seen_by_own n u one (own ∙ acts)
    | inr review ↦ seen_by_review n u one
        (one_of_both (is_reviewer n u one.reviewers) unbound (sym reviewer ∙ review.reviewer))
  ]

  -- on results of a session, or of a vector set of it, both are refused, or the session is seen in both
  results_alike : (token : Token) (it : Wish) (n : ℕ) → who (Caller (record { token = token; wish = it })) ≡ Some u
      → ((state : State) → reviewed it u state ≡ is_reviewer n u state.reviewers)
      → IsOfItsKind (action_of_wish it)
      (resource_of (subject_at (place_of keys.seed (account_of_claims (claims_of token)) r.body one it)))
      → IsOfSession n (resource_of
      (subject_at (place_of keys.seed (account_of_claims (claims_of token)) r.body one it)))
      → (AgreeOnCaller (facts_in moment (found_of keys.seed r.body (Caller (record { token = token; wish = it })) one))
      (facts_in moment (found_of keys.seed r.body (Caller (record { token = token; wish = it })) other))
      → may_see u (owner_of n) n one ≡ true
      → told agree keys moment r token one other it one ≡ told agree keys moment r token one other it other)
      → told agree keys moment r token one other it one ≡ told agree keys moment r token one other it other
  unfolding found_of
  results_alike token it n named reviews kind of shown = go (first_broken (claims_conditions (scope_of a) f)) refl
    where
      caller : CallerAsk
      caller = record { token = token; wish = it }

      a : Action
      a = action_of_wish it

      f : Facts
      f = facts_in moment (found_of keys.seed r.body (Caller caller) one)

      g : Facts
      g = facts_in moment (found_of keys.seed r.body (Caller caller) other)

      unbound : Bool
      unbound = is_some_and (claims_of token) (λ c. is_none c.session)

      reviewer : (state : State) → is_reviewing (Caller caller) state ≡ (is_reviewer n u state.reviewers && unbound)
      reviewer state = reviews_unbound (claims_of token) u it state named ∙ ap (λ b. b && unbound) (reviews state)

      callers : AgreeOnCaller f g
      callers = agree_on_caller moment keys.seed r.body caller one other (accounts_same (Caller caller) named)
          (reviewer one ∙ ap (λ b. b && unbound) (same.reviews n) ∙ sym (reviewer other))

      go : (b : Option Rule) → first_broken (claims_conditions (scope_of a) f) ≡ b
          → told agree keys moment r token one other it one ≡ told agree keys moment r token one other it other
      go (Some refusal) broken =
          refused agree keys moment r token one other it refusal one broken
          ∙ sym (refused agree keys moment r token one other it refusal other
          (ap first_broken (sym (agree (scope_of a) f g callers)) ∙ broken))
      go None held =
          shown callers (sees a f n unbound (acts_as moment keys.seed r.body caller u one named)
          (reviewer one) held kind of)

  session_results : (token : Token) (n : ℕ)
      → who (Caller (record { token = token; wish = wish.Session n on_session.Results })) ≡ Some u
      → told agree keys moment r token one other (wish.Session n on_session.Results) one
      ≡ told agree keys moment r token one other (wish.Session n on_session.Results) other
  session_results token n named =
      results_alike token (wish.Session n on_session.Results) n named (λ state. refl) (n, refl) refl
      (λ callers by_one. session_told agree keys moment r token one other n callers (same.session n by_one)
      (same.live_sets n by_one))

  set_results : (token : Token) (session n : ℕ)
      → who (Caller (record { token = token; wish = wish.Set session n on_set.Results })) ≡ Some u
      → told agree keys moment r token one other (wish.Set session n on_set.Results) one
      ≡ told agree keys moment r token one other (wish.Set session n on_set.Results) other
  set_results token session n named =
      results_alike token (wish.Set session n on_set.Results) session named (λ state. refl) (session, n, refl) refl
      (λ callers by_one. set_told agree keys moment r token one other session n callers (same.session session by_one)
      (same.live_sets session by_one)
      (same_set set_names u session n one other well_one well_other same by_one))

  -- what is answered to a caller who reads results
  results_told : (caller : CallerAsk) → asker_of keys moment r ≡ Some (Caller caller) → who (Caller caller) ≡ Some u
      → reads_results caller.wish ≡ true
      → told agree keys moment r caller.token one other caller.wish one
      ≡ told agree keys moment r caller.token one other caller.wish other
  results_told caller asks named reads = go caller.wish named reads
    where
      go : (it : Wish) → who (Caller (record { token = caller.token; wish = it })) ≡ Some u → reads_results it ≡ true
          → told agree keys moment r caller.token one other it one
          ≡ told agree keys moment r caller.token one other it other
      go (wish.Session n on_session.Results) named reading = session_results caller.token n named
      go (wish.Set session n on_set.Results) named reading = set_results caller.token session n named
      go _ named reading = absurd (cc)

  pub answered_by_seen : who_of keys moment r ≡ Some u → answer keys moment r one ≡ answer keys moment r other
  unfolding answer
  answered_by_seen is = go (asker_of keys moment r) refl
      (asked_by (first_broken (first_conditions_on r.ask r)) (option_and_then who (asker_of keys moment r)) u is)
    where
      by_own : (it : Asker) → asker_of keys moment r ≡ Some it
          → ((state : State) → IsWellNumbered state → answer keys moment r (own u state) ≡ answer keys moment r state)
          → answer keys moment r one ≡ answer keys moment r other
      by_own it asks told = sym (told one well_one) ∙ ap (answer keys moment r) same.owned ∙ told other well_other

      called : (caller : CallerAsk) → asker_of keys moment r ≡ Some (Caller caller) → who (Caller caller) ≡ Some u
          → (b : Bool) → reads_results caller.wish ≡ b
          → answer keys moment r one ≡ answer keys moment r other
      called caller asks named true reading =
          ap (λ asked. judged (first_conditions moment r ++ later_of keys.seed moment r asked one)
          (reply_to keys moment r asked one)) asks
          ∙ results_told caller asks named reading
          ∙ sym (ap (λ asked. judged (first_conditions moment r ++ later_of keys.seed moment r asked other)
          (reply_to keys moment r asked other)) asks)
      called caller asks named false off =
          by_own (Caller caller) asks
          (λ state well. answers_alike keys moment r (Caller caller) (own u state) state asks
          (caller_alike account_told place_told agree owns moment keys.seed r.body caller u state well named off))

      go : (asked : Option Asker) → asker_of keys moment r ≡ asked → option_and_then who asked ≡ Some u
          → answer keys moment r one ≡ answer keys moment r other
      go None asks named = absurd (cc)
      go (Some (Login login)) asks named =
          by_own (Login login) asks
          (λ state well. answers_alike keys moment r (Login login) (own u state) state asks
          (inl (login_own account_told keys.seed r.body login u state named)))
      go (Some (Caller caller)) asks named = called caller asks named (reads_results caller.wish) refl
