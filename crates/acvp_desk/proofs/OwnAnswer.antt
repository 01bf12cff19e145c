-- Where an account asks for no results, its own rows answer it as all rows do; and whatever it asks, they tell what
-- it changes.
use Rattle.std.proofs.Common.{◌≡◌, ◌⊎◌, inl, inr, ℕ, List, Bool, true, false, ◌==◌, Option, None, Some, refl, sym, ap}
use Rattle.std.proofs.Common.{◌∙◌, arith}
use Rattle.std.specs.Prelude.{is_some, option_and_then, option_map, if◌then◌else◌}
use Rattle.std.proofs.lemmas.Bool.Decides.{nat_tests}
use Rattle.acvp_answers.specs.declared.verdict.Verdict.{Verdict}
use Rattle.acvp_mac.specs.Conditions.{first_broken}
use Rattle.acvp_token.specs.declared.Claims.{Claims}
use Rattle.acvp_policy.specs.Callers.{AgreeOnCaller}
use Rattle.acvp_policy.specs.Conditions.{claims_of}
use Rattle.acvp_policy.specs.Decision.{account_of, account_of_claims}
use Rattle.acvp_policy.specs.Kinds.{IsOfItsKind, IsOfSession, IsReview}
use Rattle.acvp_policy.specs.Policy.{claims_conditions, policy, resource_conditions}
use Rattle.acvp_policy.specs.Resource.{resource_of}
use Rattle.acvp_policy.specs.Scope.{scope_of}
use Rattle.acvp_policy.specs.SessionNumber.{account_of_session}
use Rattle.acvp_policy.specs.declared.action.Action.{Action}
use Rattle.acvp_policy.specs.declared.action.Action.TheVariants as action
use Rattle.acvp_policy.specs.declared.action.Scope.{Scope}
use Rattle.acvp_policy.specs.declared.facts.Facts.{Facts}
use Rattle.acvp_policy.specs.declared.rule.Rule.{Rule}
use Rattle.acvp_tables.specs.Content.{account_at}
use Rattle.acvp_tables.specs.State.{State, own, owner_of, IsWellNumbered}
use Rattle.acvp_desk.specs.Answer.{accepted_change, account_found, asker_of, change_of, facts_in, first_conditions_on}
use Rattle.acvp_desk.specs.Answer.{found_of, is_reviewing, standing_of, who, who_of}
use Rattle.acvp_desk.specs.Place.{place_of}
use Rattle.acvp_desk.specs.Replies.{set_change}
use Rattle.acvp_desk.specs.Request.{RequestValue}
use Rattle.acvp_desk.specs.Sets.{results_place, set_source, verdicts_in_session}
use Rattle.acvp_desk.specs.Wish.{action_of_wish, action_on_session, action_on_set}
use Rattle.acvp_desk.specs.declared.ask.Asker.{Asker}
use Rattle.acvp_desk.specs.declared.ask.Asker.TheVariants.{Login, Caller}
use Rattle.acvp_desk.specs.declared.ask.LoginAsk.{LoginAsk}
use Rattle.acvp_desk.specs.declared.found.SetSource.{SetSource}
use Rattle.acvp_desk.specs.declared.keys.Keys.{Keys}
use Rattle.acvp_desk.specs.declared.wish.CallerAsk.{CallerAsk}
use Rattle.acvp_desk.specs.declared.wish.SessionWish.TheVariants as on_session
use Rattle.acvp_desk.specs.declared.wish.SetWish.TheVariants as on_set
use Rattle.acvp_desk.specs.declared.wish.Wish.{Wish}
use Rattle.acvp_desk.specs.declared.wish.Wish.TheVariants as wish
use Rattle.acvp_desk.specs.Private.Unfound.{unfound}
use Rattle.acvp_desk.proofs.Alike.{AreAlike, changes_alike, unchanged_by}
use Rattle.acvp_desk.proofs.FirstBroken.{front_broken}
use Rattle.acvp_desk.proofs.OwnPlace.{IsOnOwn}
use Rattle.acvp_desk.proofs.Wishes.{no_login_at, not_reviewing, policy_asked, reads_results, wish_names}

-- ---- whose a request is

-- what comes before a row holds, and the account is the one that acts
pub asked_by : (b : Option Rule) (named : Option ℕ) (u : ℕ) → (if is_some b then None else named) ≡ Some u
    → named ≡ Some u
asked_by None named u is = is
asked_by (Some refusal) named u is = absurd (cc)

pub acting : (claims : Option Claims) (u : ℕ) → option_map (λ (c : Claims). c.account) claims ≡ Some u
    → account_of_claims claims ≡ u
acting None u is = absurd (cc)
acting (Some c) u is = cc

-- ---- the caller

module _ (account_told : (u n : ℕ) (state : State)
    → account_at n (own u state).accounts ≡ (if n == u then account_at n state.accounts else None)) where
  own_row : (u : ℕ) (state : State) → account_at u (own u state).accounts ≡ account_at u state.accounts
  own_row u state = let same : (u == u) ≡ true = grind (arith, nat_tests) in account_told u u state ∙ rw same refl

  pub own_account_found : (it : Asker) (u : ℕ) (state : State) → who it ≡ Some u
      → account_found it (own u state) ≡ account_found it state
  own_account_found it u state named = rw (named, own_row u state) refl

  pub login_own : (seeds : List (List ℕ)) (body : List ℕ) (login : LoginAsk) (u : ℕ) (state : State)
      → who (Login login) ≡ Some u
      → found_of seeds body (Login login) (own u state) ≡ found_of seeds body (Login login) state
  unfolding found_of
  login_own seeds body login u state named = rw (own_account_found (Login login) u state named) refl

-- facts of two records in which the same row is found of the caller, who is a reviewer in both or in neither
pub agree_on_caller : (moment : ℕ) (seeds : List (List ℕ)) (body : List ℕ) (caller : CallerAsk) (one other : State)
    → account_found (Caller caller) one ≡ account_found (Caller caller) other
    → is_reviewing (Caller caller) one ≡ is_reviewing (Caller caller) other
    → AgreeOnCaller (facts_in moment (found_of seeds body (Caller caller) one))
    (facts_in moment (found_of seeds body (Caller caller) other))
unfolding found_of
agree_on_caller moment seeds body caller one other accounts reviewers = record {
  token = refl;
  standing = ap standing_of accounts;
  reviewer = reviewers;
  numbers = wish_names seeds (account_of_claims (claims_of caller.token)) body one caller.wish
      ∙ sym (wish_names seeds (account_of_claims (claims_of caller.token)) body other caller.wish);
}

module _ (agree : (s : Scope) (one other : Facts) → AgreeOnCaller one other
    → claims_conditions s one ≡ claims_conditions s other) where
  -- a rule on callers refuses both, or none does
  pub refused_or_admitted : (moment : ℕ) (seeds : List (List ℕ)) (body : List ℕ) (caller : CallerAsk)
      (one other : State) → account_found (Caller caller) one ≡ account_found (Caller caller) other
      → is_reviewing (Caller caller) one ≡ is_reviewing (Caller caller) other
      → (first_broken (claims_conditions (scope_of (action_of_wish caller.wish))
      (facts_in moment (found_of seeds body (Caller caller) other))) ≡ None
      → AreAlike moment (found_of seeds body (Caller caller) one) (found_of seeds body (Caller caller) other))
      → AreAlike moment (found_of seeds body (Caller caller) one) (found_of seeds body (Caller caller) other)
  unfolding policy
  refused_or_admitted moment seeds body caller one other accounts reviewers admitted =
      go (first_broken (claims_conditions s g)) refl
    where
      a : Action
      a = action_of_wish caller.wish

      s : Scope
      s = scope_of a

      f : Facts
      f = facts_in moment (found_of seeds body (Caller caller) one)

      g : Facts
      g = facts_in moment (found_of seeds body (Caller caller) other)

      same : claims_conditions s f ≡ claims_conditions s g
      same = agree s f g (agree_on_caller moment seeds body caller one other accounts reviewers)

      go : (b : Option Rule) → first_broken (claims_conditions s g) ≡ b
          → AreAlike moment (found_of seeds body (Caller caller) one) (found_of seeds body (Caller caller) other)
      go None held = admitted held
      go (Some refusal) broken = inr (
        refusal,
        ap first_broken (policy_asked moment seeds body (Caller caller) one)
            ∙ front_broken (claims_conditions s f) (resource_conditions a f) refusal (ap first_broken same ∙ broken),
        ap first_broken (policy_asked moment seeds body (Caller caller) other)
            ∙ front_broken (claims_conditions s g) (resource_conditions a g) refusal broken,
      )

-- ---- a caller who isn't refused acts on what is its own

module _ (owns : (a : Action) (f : Facts) (session : ℕ) → first_broken (claims_conditions (scope_of a) f) ≡ None
    → IsOfItsKind a (resource_of f.subject)
    → IsOfSession session (resource_of f.subject) → (account_of_session session ≡ account_of f) ⊎ IsReview a f) where
  own_session_of : (a : Action) (f : Facts) (u n : ℕ) → (a ≡ action.SessionResults → ⊥) → (a ≡ action.SetResults → ⊥)
      → first_broken (claims_conditions (scope_of a) f) ≡ None
      → account_of f ≡ u → IsOfItsKind a (resource_of f.subject) → IsOfSession n (resource_of f.subject)
      → owner_of n ≡ u
  own_session_of a f u n no_session no_set held acts kind of = elim (owns a f n held kind of) [
    | inl own ↦ own ∙ acts
    | inr review ↦ absurd (elim review.results [ inl e ↦ no_session e | inr e ↦ no_set e ])
  ]

  pub on_own : (it : Wish) (f : Facts) (u : ℕ) → reads_results it ≡ false
      → resource_of f.subject ≡ resource_of (unfound it) → account_of f ≡ u
      → first_broken (claims_conditions (scope_of (action_of_wish it)) f) ≡ None → IsOnOwn u it
  on_own (wish.Session n on_session.Results) f u off names acts held = absurd (cc)
  on_own (wish.Session n it) f u off names acts held =
      own_session_of (action_on_session it) f u n (λ e. cc) (λ e. cc) held acts (n, names) (rw names refl)
  on_own (wish.Reviewer n m) f u off names acts held =
      own_session_of action.RemoveReviewer f u n (λ e. cc) (λ e. cc) held acts (n, m, names) (rw names refl)
  on_own (wish.Set session n on_set.Results) f u off names acts held = absurd (cc)
  on_own (wish.Set session n it) f u off names acts held =
      own_session_of (action_on_set it) f u session (λ e. cc) (λ e. cc) held acts (session, n, names) (rw names refl)
  on_own (wish.CancelSet session n) f u off names acts held =
      own_session_of action.CancelSet f u session (λ e. cc) (λ e. cc) held acts (session, n, names) (rw names refl)
  on_own (wish.Certify n) f u off names acts held =
      own_session_of action.Certify f u n (λ e. cc) (λ e. cc) held acts (n, names) (rw names refl)
  on_own _ f u off names acts held = tt

-- the account of the facts is the one that acts
pub acts_as : (moment : ℕ) (seeds : List (List ℕ)) (body : List ℕ) (caller : CallerAsk) (u : ℕ) (state : State)
    → who (Caller caller) ≡ Some u
    → account_of (facts_in moment (found_of seeds body (Caller caller) state)) ≡ u
unfolding found_of
acts_as moment seeds body caller u state named =
    rw (no_login_at (place_of seeds (account_of_claims (claims_of caller.token)) body state caller.wish))
    (acting (claims_of caller.token) u named)

-- ---- results change nothing

results_change : (seeds : List (List ℕ)) (session n : ℕ) (body : List ℕ) (verdicts : Option (List Verdict))
    (source : Option SetSource) → set_change seeds session n body (results_place verdicts source) ≡ None
results_change seeds session n body None source = refl
results_change seeds session n body (Some verdicts) source = refl

results_unchanged : (keys : Keys) (moment : ℕ) (r : RequestValue) (caller : CallerAsk) (state : State)
    → reads_results caller.wish ≡ true
    → change_of keys moment r.body (found_of keys.seed r.body (Caller caller) state) ≡ None
unfolding found_of
results_unchanged keys moment r caller state reads = go caller.wish refl reads
  where
    go : (it : Wish) → caller.wish ≡ it → reads_results it ≡ true
        → change_of keys moment r.body (found_of keys.seed r.body (Caller caller) state) ≡ None
    go (wish.Session n on_session.Results) is reading = rw is refl
    go (wish.Set session n on_set.Results) is reading =
        rw is (results_change keys.seed session n r.body (verdicts_in_session keys.seed session n state.sets)
        (set_source session n state.sets))
    go _ is reading = absurd (cc)

-- ---- its own rows tell

module _ (account_told : (u n : ℕ) (state : State)
    → account_at n (own u state).accounts ≡ (if n == u then account_at n state.accounts else None))
    (place_told : (seeds : List (List ℕ)) (u : ℕ) (state : State) → IsWellNumbered state → (body : List ℕ) (it : Wish)
    → IsOnOwn u it → place_of seeds u body (own u state) it ≡ place_of seeds u body state it)
    (agree : (s : Scope) (one other : Facts) → AgreeOnCaller one other
    → claims_conditions s one ≡ claims_conditions s other)
    (owns : (a : Action) (f : Facts) (session : ℕ) → first_broken (claims_conditions (scope_of a) f) ≡ None
    → IsOfItsKind a (resource_of f.subject)
    → IsOfSession session (resource_of f.subject) → (account_of_session session ≡ account_of f) ⊎ IsReview a f) where
  caller_found : (seeds : List (List ℕ)) (body : List ℕ) (caller : CallerAsk) (u : ℕ) (state : State)
      → IsWellNumbered state → who (Caller caller) ≡ Some u
      → reads_results caller.wish ≡ false → IsOnOwn u caller.wish
      → found_of seeds body (Caller caller) (own u state) ≡ found_of seeds body (Caller caller) state
  unfolding found_of
  caller_found seeds body caller u state well named off on =
      let acts : account_of_claims (claims_of caller.token) ≡ u = acting (claims_of caller.token) u named in
      let place = place_told seeds u state well body caller.wish on in
      rw (
        acts,
        own_account_found account_told (Caller caller) u state named,
        not_reviewing (claims_of caller.token) caller.wish (own u state) off,
        not_reviewing (claims_of caller.token) caller.wish state off,
        place,
      ) refl

  pub caller_alike : (moment : ℕ) (seeds : List (List ℕ)) (body : List ℕ) (caller : CallerAsk) (u : ℕ) (state : State)
      → IsWellNumbered state → who (Caller caller) ≡ Some u
      → reads_results caller.wish ≡ false
      → AreAlike moment (found_of seeds body (Caller caller) (own u state)) (found_of seeds body (Caller caller) state)
  unfolding found_of
  caller_alike moment seeds body caller u state well named off =
      let acted = account_of_claims (claims_of caller.token) in
      refused_or_admitted agree moment seeds body caller (own u state) state
      (own_account_found account_told (Caller caller) u state named)
      (not_reviewing (claims_of caller.token) caller.wish (own u state) off
      ∙ sym (not_reviewing (claims_of caller.token) caller.wish state off))
      (λ held. inl (caller_found seeds body caller u state well named off
      (on_own owns caller.wish (facts_in moment (found_of seeds body (Caller caller) state)) u off
      (wish_names seeds acted body state caller.wish) (acts_as moment seeds body caller u state named) held)))

  -- what it changes
  pub made_alike : (keys : Keys) (moment : ℕ) (r : RequestValue) (u : ℕ) (state : State) → IsWellNumbered state
      → who_of keys moment r ≡ Some u
      → accepted_change keys moment r (own u state) ≡ accepted_change keys moment r state
  made_alike keys moment r u state well is =
      go (asker_of keys moment r) refl
      (asked_by (first_broken (first_conditions_on r.ask r)) (option_and_then who (asker_of keys moment r)) u is)
    where
      called : (caller : CallerAsk) → asker_of keys moment r ≡ Some (Caller caller) → who (Caller caller) ≡ Some u
          → (b : Bool) → reads_results caller.wish ≡ b
          → accepted_change keys moment r (own u state) ≡ accepted_change keys moment r state
      called caller asks named true reading =
          unchanged_by keys moment r (Caller caller) (own u state) asks
          (results_unchanged keys moment r caller (own u state) reading)
          ∙ sym (unchanged_by keys moment r (Caller caller) state asks
          (results_unchanged keys moment r caller state reading))
      called caller asks named false off =
          changes_alike keys moment r (Caller caller) (own u state) state asks
          (caller_alike moment keys.seed r.body caller u state well named off)

      go : (asked : Option Asker) → asker_of keys moment r ≡ asked → option_and_then who asked ≡ Some u
          → accepted_change keys moment r (own u state) ≡ accepted_change keys moment r state
      go None asks named = absurd (cc)
      go (Some (Login login)) asks named =
          changes_alike keys moment r (Login login) (own u state) state asks
          (inl (login_own account_told keys.seed r.body login u state named))
      go (Some (Caller caller)) asks named = called caller asks named (reads_results caller.wish) refl
