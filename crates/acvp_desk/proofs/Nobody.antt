-- A request that names no account is answered alike whatever the records hold, and changes nothing.
use Rattle.std.proofs.Common.{◌≡◌, ℕ, List, [], ◌∷◌, ◌++◌, Bool, true, false, Option, None, Some, Result, Ok, Err, refl}
use Rattle.std.proofs.Common.{sym, ap, ◌∙◌}
use Rattle.std.specs.Prelude.{is_some, nat_lt, option_and_then, option_map, if◌then◌else◌}
use Rattle.acvp_json.specs.Data.{Data}
use Rattle.acvp_mac.specs.Conditions.{Condition, first_broken, judged, unless}
use Rattle.acvp_token.specs.declared.Claims.{Claims}
use Rattle.acvp_policy.specs.Conditions.{claims_of, is_reviewer, without_session}
use Rattle.acvp_policy.specs.Policy.{caller_conditions, claims_conditions, policy, resource_conditions}
use Rattle.acvp_policy.specs.Policy.{session_conditions}
use Rattle.acvp_policy.specs.Scope.{scope_of}
use Rattle.acvp_policy.specs.declared.action.Scope.{Scope}
use Rattle.acvp_policy.specs.declared.action.Scope.TheVariants as scope
use Rattle.acvp_policy.specs.declared.facts.Facts.{Facts}
use Rattle.acvp_policy.specs.declared.facts.Token.{Token}
use Rattle.acvp_policy.specs.declared.facts.Token.TheVariants as token
use Rattle.acvp_policy.specs.declared.rule.Rule.{Rule}
use Rattle.acvp_policy.specs.declared.rule.Rule.TheVariants as rule
use Rattle.acvp_tables.specs.State.{State}
use Rattle.acvp_desk.specs.Answer.{accepted_change, answer, asker_of, change_by, change_on, effect, end_of_moments}
use Rattle.acvp_desk.specs.Answer.{facts_in, first_conditions, first_conditions_on, found_of, found_of_caller}
use Rattle.acvp_desk.specs.Answer.{later_conditions, later_of, own_conditions, policy_conditions, reply_to, state_after}
use Rattle.acvp_desk.specs.Answer.{who, who_of}
use Rattle.acvp_desk.specs.Request.{RequestValue}
use Rattle.acvp_desk.specs.Place.{action_at, wish_at}
use Rattle.acvp_desk.specs.declared.ask.Asker.{Asker}
use Rattle.acvp_desk.specs.declared.ask.Asker.TheVariants.{Login, Caller}
use Rattle.acvp_desk.specs.declared.ask.LoginAsk.{LoginAsk}
use Rattle.acvp_desk.specs.declared.found.Found.TheVariants as found
use Rattle.acvp_desk.specs.declared.found.FoundCaller.{FoundCaller}
use Rattle.acvp_desk.specs.declared.keys.Keys.{Keys}
use Rattle.acvp_desk.specs.declared.wish.CallerAsk.{CallerAsk}
use Rattle.acvp_desk.proofs.FirstBroken.{front_broken, front_held}
use Rattle.acvp_desk.proofs.AdmittedCaller.{no_login}

-- ---- a token without claims

-- the rule that it breaks
abbrev token_rule : Token → Rule
token_rule token.Missing = rule.TokenMissing
token_rule token.Malformed = rule.TokenMalformed
token_rule token.NotSigned = rule.TokenSignature
token_rule token.NotRead = rule.TokenClaims
token_rule token.Expired = rule.TokenExpired
token_rule (token.Verified claims) = rule.TokenMissing

caller_refused : (t : Token) (f : Facts) → f.token ≡ t → claims_of t ≡ None
    → first_broken (caller_conditions f) ≡ Some (token_rule t)
caller_refused (token.Verified claims) f is none = absurd (cc)
caller_refused _ f is none = rw is refl

scope_refused : (s : Scope) (f : Facts) (refusal : Rule) → (s ≡ scope.Login → ⊥)
    → first_broken (caller_conditions f) ≡ Some refusal → first_broken (claims_conditions s f) ≡ Some refusal
scope_refused scope.Login f refusal apart broken = absurd (apart refl)
scope_refused scope.AccountRead f refusal apart broken = broken
scope_refused scope.AccountChange f refusal apart broken =
    front_broken (caller_conditions f) (without_session f ∷ []) refusal broken
scope_refused scope.SessionResource f refusal apart broken =
    front_broken (caller_conditions f) (session_conditions f) refusal broken
scope_refused scope.ReviewableResource f refusal apart broken =
    front_broken (caller_conditions f) (if is_reviewer f then [] else session_conditions f) refusal broken

policy_refused : (moment : ℕ) (it : FoundCaller) → claims_of it.token ≡ None
    → first_broken (policy_conditions moment (found.Caller it)) ≡ Some (token_rule it.token)
unfolding policy_conditions policy
policy_refused moment it none =
    let f = facts_in moment (found.Caller it) in
    let a = action_at it.place in
    front_broken (claims_conditions (scope_of a) f) (resource_conditions a f) (token_rule it.token)
    (scope_refused (scope_of a) f (token_rule it.token) (no_login (wish_at it.place))
    (caller_refused it.token f refl none))

later_refused : (seeds : List (List ℕ)) (moment : ℕ) (body : List ℕ) (it : FoundCaller) → claims_of it.token ≡ None
    → first_broken (later_conditions seeds moment body (found.Caller it)) ≡ Some (token_rule it.token)
later_refused seeds moment body it none =
    front_broken (policy_conditions moment (found.Caller it)) (own_conditions seeds body (found.Caller it))
    (token_rule it.token) (policy_refused moment it none)

no_claims : (claims : Option Claims) → option_map (λ (c : Claims). c.account) claims ≡ None → claims ≡ None
no_claims None none = refl
no_claims (Some c) none = absurd (cc)

-- ---- what is refused

-- the rule of the conditions before it, where one is broken there
abbrev pub earlier_or : Option Rule → Rule → Rule
earlier_or None refusal = refusal
earlier_or (Some earlier) refusal = earlier

pub refused_by : (front later : List (Condition Rule)) (refusal : Rule) → first_broken later ≡ Some refusal
    → first_broken (front ++ later) ≡ Some (earlier_or (first_broken front) refusal)
refused_by front later refusal broken = go (first_broken front) refl
  where
    go : (b : Option Rule) → first_broken front ≡ b → first_broken (front ++ later) ≡ Some (earlier_or b refusal)
    go None held = front_held front later held ∙ broken
    go (Some earlier) first = front_broken front later earlier first

pub judged_err : {X : Type 0} (conditions : List (Condition Rule)) (x : X) (refusal : Rule)
    → first_broken conditions ≡ Some refusal → judged conditions x ≡ Err refusal
judged_err conditions x refusal broken = ap (λ b. unless b x) broken

caller_answer : (keys : Keys) (moment : ℕ) (r : RequestValue) (caller : CallerAsk) (state : State) (reply : Option Data)
    → claims_of caller.token ≡ None
    → judged (first_conditions moment r ++ later_of keys.seed moment r (Some (Caller caller)) state) reply
    ≡ Err (earlier_or (first_broken (first_conditions moment r)) (token_rule caller.token))
unfolding found_of
caller_answer keys moment r caller state reply none =
    judged_err (first_conditions moment r ++ later_of keys.seed moment r (Some (Caller caller)) state) reply _
    (refused_by (first_conditions moment r) (later_of keys.seed moment r (Some (Caller caller)) state)
    (token_rule caller.token)
    (later_refused keys.seed moment r.body (found_of_caller keys.seed r.body caller state) none))

-- ---- a login of no account

login_found : (seeds : List (List ℕ)) (body : List ℕ) (login : LoginAsk) (one other : State) → login.user ≡ None
    → found_of seeds body (Login login) one ≡ found_of seeds body (Login login) other
unfolding found_of
login_found seeds body login one other none = rw none refl

-- ---- what is refused before a row is looked at

-- the clock's rule, where that is broken
abbrev clock_or : Bool → Rule → Rule
clock_or true refusal = refusal
clock_or false refusal = rule.ClockOutOfRange

first_refused : (moment : ℕ) (r : RequestValue) (refusal : Rule)
    → first_broken (first_conditions_on r.ask r) ≡ Some refusal
    → first_broken (first_conditions moment r) ≡ Some (clock_or (nat_lt moment end_of_moments) refusal)
first_refused moment r refusal broken = go (nat_lt moment end_of_moments)
  where
    go : (b : Bool) → first_broken ((b, rule.ClockOutOfRange) ∷ first_conditions_on r.ask r) ≡ Some (clock_or b refusal)
    go true = broken
    go false = refl

first_answer : (moment : ℕ) (r : RequestValue) (refusal : Rule) (later : List (Condition Rule)) (reply : Option Data)
    → first_broken (first_conditions_on r.ask r) ≡ Some refusal
    → judged (first_conditions moment r ++ later) reply ≡ Err (clock_or (nat_lt moment end_of_moments) refusal)
first_answer moment r refusal later reply broken =
    judged_err (first_conditions moment r ++ later) reply _
    (front_broken (first_conditions moment r) later _ (first_refused moment r refusal broken))

-- ---- alike in all records

-- where what comes before a row holds
asked_alike : (keys : Keys) (moment : ℕ) (r : RequestValue) (one other : State)
    → option_and_then who (asker_of keys moment r) ≡ None → answer keys moment r one ≡ answer keys moment r other
unfolding answer
asked_alike keys moment r one other nobody = go (asker_of keys moment r) nobody
  where
    go : (asked : Option Asker) → option_and_then who asked ≡ None
        → judged (first_conditions moment r ++ later_of keys.seed moment r asked one) (reply_to keys moment r asked one)
        ≡ judged (first_conditions moment r ++ later_of keys.seed moment r asked other)
        (reply_to keys moment r asked other)
    go None none = refl
    go (Some (Login login)) none = rw (login_found keys.seed r.body login one other none) refl
    go (Some (Caller caller)) none =
        let named : claims_of caller.token ≡ None = no_claims (claims_of caller.token) none in
        caller_answer keys moment r caller one (reply_to keys moment r (Some (Caller caller)) one) named
        ∙ sym (caller_answer keys moment r caller other (reply_to keys moment r (Some (Caller caller)) other) named)

pub answered_alike : (keys : Keys) (moment : ℕ) (r : RequestValue) (one other : State) → who_of keys moment r ≡ None
    → answer keys moment r one ≡ answer keys moment r other
unfolding answer
answered_alike keys moment r one other nobody = go (first_broken (first_conditions_on r.ask r)) refl nobody
  where
    go : (b : Option Rule) → first_broken (first_conditions_on r.ask r) ≡ b
        → (if is_some b then None else option_and_then who (asker_of keys moment r)) ≡ None
        → answer keys moment r one ≡ answer keys moment r other
    go None held none = asked_alike keys moment r one other none
    go (Some refusal) broken none =
        first_answer moment r refusal (later_of keys.seed moment r (asker_of keys moment r) one)
        (reply_to keys moment r (asker_of keys moment r) one) broken
        ∙ sym (first_answer moment r refusal (later_of keys.seed moment r (asker_of keys moment r) other)
        (reply_to keys moment r (asker_of keys moment r) other) broken)

-- ---- and without a change

change_none : (reply : Result (Option Data) Rule) → change_on reply None ≡ None
change_none (Ok shown) = refl
change_none (Err refusal) = refl

unchanged : (keys : Keys) (moment : ℕ) (r : RequestValue) (state : State)
    → option_and_then who (asker_of keys moment r) ≡ None → accepted_change keys moment r state ≡ None
unfolding accepted_change answer found_of
unchanged keys moment r state nobody = go (asker_of keys moment r) nobody
  where
    go : (asked : Option Asker) → option_and_then who asked ≡ None
        → change_on (judged (first_conditions moment r ++ later_of keys.seed moment r asked state)
        (reply_to keys moment r asked state)) (change_by keys moment r asked state) ≡ None
    go None none = change_none _
    go (Some (Login login)) none = rw none (change_none _)
    go (Some (Caller caller)) none =
        let named : claims_of caller.token ≡ None = no_claims (claims_of caller.token) none in
        ap (λ reply. change_on reply (change_by keys moment r (Some (Caller caller)) state))
        (caller_answer keys moment r caller state (reply_to keys moment r (Some (Caller caller)) state) named)

pub nothing_made : (keys : Keys) (moment : ℕ) (r : RequestValue) (state : State) → who_of keys moment r ≡ None
    → accepted_change keys moment r state ≡ None
unfolding accepted_change answer
nothing_made keys moment r state nobody = go (first_broken (first_conditions_on r.ask r)) refl nobody
  where
    go : (b : Option Rule) → first_broken (first_conditions_on r.ask r) ≡ b
        → (if is_some b then None else option_and_then who (asker_of keys moment r)) ≡ None
        → accepted_change keys moment r state ≡ None
    go None held none = unchanged keys moment r state none
    go (Some refusal) broken none =
        ap (λ reply. change_on reply (change_by keys moment r (asker_of keys moment r) state))
        (first_answer moment r refusal (later_of keys.seed moment r (asker_of keys moment r) state)
        (reply_to keys moment r (asker_of keys moment r) state) broken)

pub nothing_changed : (keys : Keys) (moment : ℕ) (r : RequestValue) (state : State) → who_of keys moment r ≡ None
    → effect keys moment r state ≡ state
nothing_changed keys moment r state nobody =
    ap (λ made. state_after made state) (nothing_made keys moment r state nobody)
