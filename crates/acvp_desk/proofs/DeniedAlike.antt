-- A denial by a rule on the caller is the same over all records with the same accounts and reviewers.
use Rattle.std.proofs.Common.{◌≡◌, ℕ, List, [], ◌∷◌, ◌++◌, map, Bool, true, false, Option, None, Some, Result, Ok, Err}
use Rattle.std.proofs.Common.{refl, sym, ap, ◌∙◌}
use Rattle.std.specs.Prelude.{not, ◌&&◌, is_none, nat_lt, option_and_then}
use Rattle.std.specs.List.{list_all}
use Rattle.acvp_answers.specs.declared.verdict.Verdict.{Verdict}
use Rattle.acvp_caps.specs.Registered.{registration_conditions}
use Rattle.acvp_caps.specs.declared.CapFault.{CapFault}
use Rattle.acvp_caps.specs.declared.CapFault.TheVariants as cap
use Rattle.acvp_gen.specs.Prompt.{PromptsValue}
use Rattle.acvp_json.specs.AnswersBody.{answers_body_conditions}
use Rattle.acvp_json.specs.CertifyBody.{certify_body_conditions}
use Rattle.acvp_json.specs.Data.{Data}
use Rattle.acvp_json.specs.Envelope.{envelope_conditions, object_of}
use Rattle.acvp_json.specs.ReviewerBody.{reviewer_body_conditions}
use Rattle.acvp_json.specs.declared.fault.BodyFault.{BodyFault}
use Rattle.acvp_json.specs.declared.fault.BodyFault.TheVariants as fault
use Rattle.acvp_mac.specs.Conditions.{Condition, first_broken, with_fault}
use Rattle.acvp_token.specs.declared.Claims.{Claims}
use Rattle.acvp_policy.specs.Callers.{AgreeOnCaller}
use Rattle.acvp_policy.specs.Conditions.{claims_of}
use Rattle.acvp_policy.specs.Decision.{account_of_claims}
use Rattle.acvp_policy.specs.Policy.{claims_conditions, policy, resource_conditions}
use Rattle.acvp_policy.specs.Scope.{scope_of}
use Rattle.acvp_policy.specs.declared.action.Action.{Action}
use Rattle.acvp_policy.specs.declared.action.Action.TheVariants as action
use Rattle.acvp_policy.specs.declared.action.Scope.{Scope}
use Rattle.acvp_policy.specs.declared.facts.Facts.{Facts}
use Rattle.acvp_policy.specs.declared.rule.Rule.{Rule}
use Rattle.acvp_policy.specs.declared.rule.Rule.TheVariants as rule
use Rattle.acvp_registry.specs.Object.{object_conditions}
use Rattle.acvp_registry.specs.declared.fault.RegFault.{RegFault}
use Rattle.acvp_registry.specs.declared.fault.RegFault.TheVariants as reg
use Rattle.acvp_registry.specs.declared.kind.Kind.{Kind}
use Rattle.acvp_tables.specs.Content.{account_at, is_reviewer, reviewers_of}
use Rattle.acvp_tables.specs.State.{State, record_counts}
use Rattle.acvp_desk.specs.Answer.{account_found, asker_of, conditions, facts_in, first_conditions, found_of}
use Rattle.acvp_desk.specs.Answer.{later_conditions, later_of, own_conditions, policy_conditions, reviews_as, who}
use Rattle.acvp_desk.specs.Asked.{certification_grounds, certified_conditions, certified_in, grounds_conditions}
use Rattle.acvp_desk.specs.Asked.{judged_read, object_grounds, object_in, registered_conditions, requested_conditions}
use Rattle.acvp_desk.specs.Bodies.{body_conditions, object_conditions as asked_of_object, object_rule}
use Rattle.acvp_desk.specs.Bodies.{registration_rule, rule_of}
use Rattle.acvp_desk.specs.Denials.{HaveSameCallers, IsDeniedFirst, is_of_caller}
use Rattle.acvp_desk.specs.OwnConditions.{place_conditions, prompted_conditions, set_place_conditions}
use Rattle.acvp_desk.specs.OwnConditions.{submitted_conditions}
use Rattle.acvp_desk.specs.Place.{place_of, reviewed}
use Rattle.acvp_desk.specs.Registries.{kind_of}
use Rattle.acvp_desk.specs.Replies.{prompts_from}
use Rattle.acvp_desk.specs.Request.{RequestValue}
use Rattle.acvp_desk.specs.Reviewers.{has_room, reviewer_at}
use Rattle.acvp_desk.specs.Sets.{results_place, set_place, set_source, verdicts_in_session}
use Rattle.acvp_desk.specs.Wish.{action_of_wish}
use Rattle.acvp_desk.specs.declared.ask.Asker.{Asker}
use Rattle.acvp_desk.specs.declared.ask.Asker.TheVariants.{Login, Caller}
use Rattle.acvp_desk.specs.declared.ask.LoginAsk.{LoginAsk}
use Rattle.acvp_desk.specs.declared.found.Found.TheVariants as found
use Rattle.acvp_desk.specs.declared.found.Grounds.{Grounds}
use Rattle.acvp_desk.specs.declared.found.SetSource.{SetSource}
use Rattle.acvp_desk.specs.declared.found.Submission.{Submission}
use Rattle.acvp_desk.specs.declared.keys.Keys.{Keys}
use Rattle.acvp_desk.specs.declared.wish.AccountWish.TheVariants as on_account
use Rattle.acvp_desk.specs.declared.wish.CallerAsk.{CallerAsk}
use Rattle.acvp_desk.specs.declared.wish.RegistryWish.TheVariants as on_registry
use Rattle.acvp_desk.specs.declared.wish.SessionWish.TheVariants as on_session
use Rattle.acvp_desk.specs.declared.wish.SetWish.{SetWish}
use Rattle.acvp_desk.specs.declared.wish.SetWish.TheVariants as on_set
use Rattle.acvp_desk.specs.declared.wish.Wish.{Wish}
use Rattle.acvp_desk.specs.declared.wish.Wish.TheVariants as wish
use Rattle.acvp_desk.proofs.FirstBroken.{front_broken, front_held}
use Rattle.acvp_desk.proofs.OwnAnswer.{agree_on_caller}
use Rattle.acvp_desk.proofs.Wishes.{policy_asked}

-- ---- conditions of which none is on the caller

-- the first that is broken isn't one on the caller
abbrev SparesCaller : List (Condition Rule) → Type 0
SparesCaller these = (broken : Rule) → first_broken these ≡ Some broken → is_of_caller broken ≡ false

-- a condition of a rule that isn't on the caller
abbrev is_of_others : Condition Rule → Bool
is_of_others condition = not (is_of_caller condition.1)

parts : (a b : Bool) → (not a && b) ≡ true → (a ≡ false) × (b ≡ true)
parts true b both = absurd (cc)
parts false b both = (refl, both)

spares_all : (these : List (Condition Rule)) → list_all is_of_others these ≡ true → SparesCaller these
spares_all [] all broken first = absurd (cc)
spares_all ((true, fault) ∷ these) all broken first =
    spares_all these (parts (is_of_caller fault) (list_all is_of_others these) all).1 broken first
spares_all ((false, fault) ∷ these) all broken first =
    let same : fault ≡ broken = cc in
    sym (ap is_of_caller same) ∙ (parts (is_of_caller fault) (list_all is_of_others these) all).0

spares_both : (front rest : List (Condition Rule)) → SparesCaller front → SparesCaller rest
    → SparesCaller (front ++ rest)
spares_both front rest of_front of_rest broken first = go (first_broken front) refl
  where
    go : (b : Option Rule) → first_broken front ≡ b → is_of_caller broken ≡ false
    go None held = of_rest broken (sym (front_held front rest held) ∙ first)
    go (Some earlier) is = of_front broken (is ∙ sym (front_broken front rest earlier is) ∙ first)

-- so a rule on the caller is broken before them
broken_before : (front rest : List (Condition Rule)) (broken : Rule) → SparesCaller rest → is_of_caller broken ≡ true
    → first_broken (front ++ rest) ≡ Some broken → first_broken front ≡ Some broken
broken_before front rest broken spares caller first = go (first_broken front) refl
  where
    go : (b : Option Rule) → first_broken front ≡ b → first_broken front ≡ Some broken
    go None held =
        let apart : is_of_caller broken ≡ false = spares broken (sym (front_held front rest held) ∙ first) in
        absurd (cc)
    go (Some earlier) is = is ∙ sym (front_broken front rest earlier is) ∙ first

-- behind the same conditions
broken_behind : (front one other : List (Condition Rule)) (broken : Rule)
    → (first_broken one ≡ Some broken → first_broken other ≡ Some broken)
    → first_broken (front ++ one) ≡ Some broken → first_broken (front ++ other) ≡ Some broken
broken_behind front one other broken moves first = go (first_broken front) refl
  where
    go : (b : Option Rule) → first_broken front ≡ b → first_broken (front ++ other) ≡ Some broken
    go None held = front_held front other held ∙ moves (sym (front_held front one held) ∙ first)
    go (Some earlier) is =
        front_broken front other earlier is ∙ sym (front_broken front one earlier is) ∙ first

-- ---- those on a body

fault_apart : (it : BodyFault) → is_of_caller (rule_of it) ≡ false
fault_apart fault.BodyNotJson = refl
fault_apart _ = refl

registration_apart : (it : CapFault) → is_of_caller (registration_rule it) ≡ false
registration_apart cap.Field = refl
registration_apart _ = refl

object_apart : (it : RegFault) → is_of_caller (object_rule it) ≡ false
object_apart reg.Field = refl
object_apart _ = refl

spares_told : {F : Type 0} (told : F → Rule) → ((it : F) → is_of_caller (told it) ≡ false)
    → (these : List (Condition F)) → SparesCaller (map (with_fault told) these)
spares_told told apart [] broken first = absurd (cc)
spares_told told apart ((true, it) ∷ these) broken first = spares_told told apart these broken first
spares_told told apart ((false, it) ∷ these) broken first =
    let same : told it ≡ broken = cc in sym (ap is_of_caller same) ∙ apart it

spares_body : {F : Type 0} (told : F → Rule) → ((it : F) → is_of_caller (told it) ≡ false)
    → (these : Data → List (Condition F)) (body : List ℕ) → SparesCaller (body_conditions told these body)
spares_body told apart these body =
    spares_both (map (with_fault rule_of) (envelope_conditions body))
    (map (with_fault told) (asked_of_object these (object_of body)))
    (spares_told rule_of fault_apart (envelope_conditions body))
    (spares_told told apart (asked_of_object these (object_of body)))

-- the rule that is kept of a body on which not all conditions hold
judged_apart : {X : Type 0} (these : List (Condition Rule)) (read : Option X) (broken : Rule) → SparesCaller these
    → judged_read (first_broken these) read ≡ Err broken → is_of_caller broken ≡ false
judged_apart {X = X} these read broken spares is = go (first_broken these) read refl is
  where
    go : (b : Option Rule) (x : Option X) → first_broken these ≡ b → judged_read b x ≡ Err broken
        → is_of_caller broken ≡ false
    go (Some fault) x first err = spares broken (let same : fault ≡ broken = cc in first ∙ ap Some same)
    go None (Some x) first err = absurd (cc)
    go None None first err = let same : rule.BodyEnvelope ≡ broken = cc in sym (ap is_of_caller same)

spares_requested : {X : Type 0} (read : Result X Rule) (grounds : Grounds)
    → ((broken : Rule) → read ≡ Err broken → is_of_caller broken ≡ false)
    → SparesCaller (requested_conditions read grounds)
spares_requested (Ok x) grounds apart = spares_all (grounds_conditions grounds) refl
spares_requested (Err fault) grounds apart = λ broken first.
    let same : fault ≡ broken = cc in sym (ap is_of_caller same) ∙ apart fault refl

certified_apart : (body : List ℕ) (broken : Rule) → certified_in body ≡ Err broken → is_of_caller broken ≡ false
unfolding certified_in
certified_apart body broken is =
    judged_apart (certified_conditions body) _ broken (spares_body rule_of fault_apart certify_body_conditions body) is

registered_apart : (kind : Kind) (body : List ℕ) (broken : Rule) → object_in kind body ≡ Err broken
    → is_of_caller broken ≡ false
unfolding object_in
registered_apart kind body broken is =
    judged_apart (registered_conditions kind body) _ broken
    (spares_body object_rule object_apart (object_conditions kind) body) is

-- ---- those on what was found

resource_apart : (a : Action) (f : Facts) → list_all is_of_others (resource_conditions a f) ≡ true
resource_apart action.Login f = refl
resource_apart _ f = refl

spares_submitted : (seeds : List (List ℕ)) (n : ℕ) (body : List ℕ) (submission : Option Submission)
    → SparesCaller (submitted_conditions seeds n body submission)
spares_submitted seeds n body None = spares_all [] refl
spares_submitted seeds n body (Some s) = go (prompts_from seeds n s.source)
  where
    go : (prompts : Option PromptsValue) → SparesCaller (prompted_conditions body prompts)
    go None = spares_all [] refl
    go (Some prompts) = spares_body rule_of fault_apart (λ d. answers_body_conditions d prompts) body

spares_set : (seeds : List (List ℕ)) (session n : ℕ) (body : List ℕ) (state : State) (it : SetWish)
    → SparesCaller (set_place_conditions seeds n body (set_place seeds session n state.sets it))
spares_set seeds session n body state on_set.Submit = spares_submitted seeds n body _
spares_set seeds session n body state on_set.Resubmit = spares_submitted seeds n body _
spares_set seeds session n body state on_set.Results =
    go (verdicts_in_session seeds session n state.sets) (set_source session n state.sets)
  where
    go : (verdicts : Option (List Verdict)) (source : Option SetSource)
        → SparesCaller (set_place_conditions seeds n body (results_place verdicts source))
    go None source = spares_all [] refl
    go (Some verdicts) source = spares_all [] refl
spares_set seeds session n body state _ = spares_all [] refl

spares_place : (seeds : List (List ℕ)) (u : ℕ) (body : List ℕ) (state : State) (it : Wish)
    → SparesCaller (place_conditions seeds body (place_of seeds u body state it))
spares_place seeds u body state (wish.Account on_account.Read) = spares_all [] refl
spares_place seeds u body state (wish.Session n on_session.AddReviewer) =
    spares_both (body_conditions rule_of reviewer_body_conditions body)
    ((has_room (reviewers_of n state.reviewers) (reviewer_at body), rule.ReviewersFull) ∷ [])
    (spares_body rule_of fault_apart reviewer_body_conditions body)
    (spares_all ((has_room (reviewers_of n state.reviewers) (reviewer_at body), rule.ReviewersFull) ∷ []) refl)
spares_place seeds u body state (wish.Set session n it) = spares_set seeds session n body state it
spares_place seeds u body state wish.NewSession =
    let sessions = (record_counts u state).sessions in
    spares_both (body_conditions registration_rule registration_conditions body)
    ((nat_lt sessions 999999, rule.AccountFull) ∷ [])
    (spares_body registration_rule registration_apart registration_conditions body)
    (spares_all ((nat_lt sessions 999999, rule.AccountFull) ∷ []) refl)
spares_place seeds u body state (wish.Certify n) =
    spares_requested (certified_in body) (certification_grounds u (certified_in body) state) (certified_apart body)
spares_place seeds u body state (wish.Registry (on_registry.New of)) =
    spares_requested (object_in (kind_of of) body) (object_grounds u (object_in (kind_of of) body) state)
    (registered_apart (kind_of of) body)
spares_place seeds u body state it =
    spares_all (place_conditions seeds body (place_of seeds u body state it)) refl

-- ---- the caller is the same

reviewed_alike : (it : Wish) (u : ℕ) (one other : State) → HaveSameCallers one other
    → reviewed it u one ≡ reviewed it u other
reviewed_alike (wish.Session n on_session.Results) u one other same = ap (is_reviewer n u) same.reviewers
reviewed_alike (wish.Set session n on_set.Results) u one other same = ap (is_reviewer session u) same.reviewers
reviewed_alike _ u one other same = refl

reviews_alike : (claims : Option Claims) (it : Wish) (one other : State) → HaveSameCallers one other
    → reviews_as claims it one ≡ reviews_as claims it other
reviews_alike None it one other same = refl
reviews_alike (Some claims) it one other same =
    ap (λ b. b && is_none claims.session) (reviewed_alike it claims.account one other same)

account_alike : (it : Asker) (one other : State) → HaveSameCallers one other
    → account_found it one ≡ account_found it other
account_alike it one other same = go (who it)
  where
    go : (named : Option ℕ) → option_and_then (λ n. account_at n one.accounts) named
        ≡ option_and_then (λ n. account_at n other.accounts) named
    go None = refl
    go (Some n) = ap (account_at n) same.accounts

login_alike : (seeds : List (List ℕ)) (body : List ℕ) (login : LoginAsk) (one other : State)
    → HaveSameCallers one other → found_of seeds body (Login login) one ≡ found_of seeds body (Login login) other
unfolding found_of
login_alike seeds body login one other same = ap (found.Login login) (account_alike (Login login) one other same)

-- ---- a denial

module _ (agree : (s : Scope) (one other : Facts) → AgreeOnCaller one other
    → claims_conditions s one ≡ claims_conditions s other)
    (keys : Keys) (moment : ℕ) (r : RequestValue) (broken : Rule) (one other : State)
    (same : HaveSameCallers one other) (of_caller : is_of_caller broken ≡ true) where
  own_spares : (caller : CallerAsk)
      → SparesCaller (own_conditions keys.seed r.body (found_of keys.seed r.body (Caller caller) one))
  unfolding found_of
  own_spares caller =
      spares_place keys.seed (account_of_claims (claims_of caller.token)) r.body one caller.wish

  policy_alike : (caller : CallerAsk)
      → first_broken (policy_conditions moment (found_of keys.seed r.body (Caller caller) one)) ≡ Some broken
      → first_broken (policy_conditions moment (found_of keys.seed r.body (Caller caller) other)) ≡ Some broken
  unfolding policy
  policy_alike caller first =
      ap first_broken (policy_asked moment keys.seed r.body (Caller caller) other)
      ∙ front_broken (claims_conditions s g) (resource_conditions a g) broken
      (sym (ap first_broken (agree s f g callers)) ∙ claims_broken)
    where
      a : Action
      a = action_of_wish caller.wish

      s : Scope
      s = scope_of a

      f : Facts
      f = facts_in moment (found_of keys.seed r.body (Caller caller) one)

      g : Facts
      g = facts_in moment (found_of keys.seed r.body (Caller caller) other)

      callers : AgreeOnCaller f g
      callers = agree_on_caller moment keys.seed r.body caller one other (account_alike (Caller caller) one other same)
          (reviews_alike (claims_of caller.token) caller.wish one other same)

      claims_broken : first_broken (claims_conditions s f) ≡ Some broken
      claims_broken = broken_before (claims_conditions s f) (resource_conditions a f) broken
          (spares_all (resource_conditions a f) (resource_apart a f)) of_caller
          (sym (ap first_broken (policy_asked moment keys.seed r.body (Caller caller) one)) ∙ first)

  caller_alike : (caller : CallerAsk)
      → first_broken (later_of keys.seed moment r (Some (Caller caller)) one) ≡ Some broken
      → first_broken (later_of keys.seed moment r (Some (Caller caller)) other) ≡ Some broken
  caller_alike caller first =
      front_broken (policy_conditions moment (found_of keys.seed r.body (Caller caller) other))
      (own_conditions keys.seed r.body (found_of keys.seed r.body (Caller caller) other)) broken
      (policy_alike caller
      (broken_before (policy_conditions moment (found_of keys.seed r.body (Caller caller) one))
      (own_conditions keys.seed r.body (found_of keys.seed r.body (Caller caller) one)) broken
      (own_spares caller) of_caller first))

  later_alike : (asked : Option Asker) → first_broken (later_of keys.seed moment r asked one) ≡ Some broken
      → first_broken (later_of keys.seed moment r asked other) ≡ Some broken
  later_alike None first = first
  later_alike (Some (Login login)) first =
      sym (ap (λ f. first_broken (later_conditions keys.seed moment r.body f))
      (login_alike keys.seed r.body login one other same)) ∙ first
  later_alike (Some (Caller caller)) first = caller_alike caller first

  first_alike : first_broken (conditions keys moment r one) ≡ Some broken
      → first_broken (conditions keys moment r other) ≡ Some broken
  first_alike first =
      broken_behind (first_conditions moment r) (later_of keys.seed moment r (asker_of keys moment r) one)
      (later_of keys.seed moment r (asker_of keys moment r) other) broken (later_alike (asker_of keys moment r)) first

pub denied_alike : ((s : Scope) (one other : Facts) → AgreeOnCaller one other
    → claims_conditions s one ≡ claims_conditions s other)
    → (keys : Keys) (moment : ℕ) (r : RequestValue) (broken : Rule) (one other : State) → HaveSameCallers one other
    → IsDeniedFirst keys moment r one broken → IsDeniedFirst keys moment r other broken
denied_alike agree keys moment r broken one other same denied = record {
  first = first_alike agree keys moment r broken one other same denied.caller denied.first;
  caller = denied.caller;
}
