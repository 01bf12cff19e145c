-- Without a row each request is refused.
use Rattle.std.proofs.Common.{◌≡◌, ℕ, List, [], ◌∷◌, ◌++◌, true, Option, None, Some, Err, refl}
use Rattle.std.specs.Prelude.{is_some, option_and_then, option_map, if◌then◌else◌, ◌&&◌}
use Rattle.acvp_mac.specs.Conditions.{Condition, first_broken, judged, unless}
use Rattle.acvp_policy.specs.Conditions.{account_enabled, code_accepted, is_enabled, is_reviewer, is_some_and}
use Rattle.acvp_policy.specs.Conditions.{renewal_allowed, token_lasts, token_read, token_shaped, token_signed}
use Rattle.acvp_policy.specs.Conditions.{token_there, without_session}
use Rattle.acvp_policy.specs.Policy.{caller_conditions, claims_conditions, policy, resource_conditions}
use Rattle.acvp_policy.specs.Policy.{session_conditions}
use Rattle.acvp_policy.specs.Scope.{scope_of}
use Rattle.acvp_policy.specs.declared.action.Scope.{Scope}
use Rattle.acvp_policy.specs.declared.action.Scope.TheVariants as scope
use Rattle.acvp_policy.specs.declared.facts.Facts.{Facts}
use Rattle.acvp_policy.specs.declared.rule.Rule.{Rule}
use Rattle.acvp_policy.specs.declared.rule.Rule.TheVariants as rule
use Rattle.acvp_tables.specs.Content.{account_at, no_rows}
use Rattle.acvp_tables.specs.State.{state_of}
use Rattle.acvp_tables.specs.declared.rows.AccountRow.{AccountRow}
use Rattle.acvp_desk.specs.Answer.{answer, asker_of, conditions, facts_in, first_conditions, first_conditions_on}
use Rattle.acvp_desk.specs.Answer.{found_of, later_conditions, later_of, own_conditions, policy_conditions, reply_to}
use Rattle.acvp_desk.specs.Answer.{standing_of, who}
use Rattle.acvp_desk.specs.Login.{user_facts}
use Rattle.acvp_desk.specs.Request.{RequestValue}
use Rattle.acvp_desk.specs.Place.{action_at, wish_at}
use Rattle.acvp_desk.specs.declared.ask.Asker.{Asker}
use Rattle.acvp_desk.specs.declared.ask.Asker.TheVariants.{Login, Caller}
use Rattle.acvp_desk.specs.declared.ask.LoginAsk.{LoginAsk}
use Rattle.acvp_desk.specs.declared.found.Found.{Found}
use Rattle.acvp_desk.specs.declared.found.Found.TheVariants as found
use Rattle.acvp_desk.specs.declared.keys.Keys.{Keys}
use Rattle.acvp_desk.proofs.AdmittedCaller.{no_login}
use Rattle.acvp_desk.proofs.FirstBroken.{back_held, first_held, whole_held}
use Rattle.acvp_desk.proofs.Objects.{asked_on}

-- ---- no account is there

none_at : (named : Option ℕ) → option_and_then (λ n. account_at n (state_of no_rows).accounts) named ≡ None
unfolding state_of
none_at None = refl
none_at (Some n) = refl

abbrev account_in : Found → Option AccountRow
account_in (found.Login login account) = account
account_in (found.Caller it) = it.account

none_found : (seeds : List (List ℕ)) (body : List ℕ) (it : Asker)
    → account_in (found_of seeds body it (state_of no_rows)) ≡ None
unfolding found_of
none_found seeds body (Login login) = none_at (who (Login login))
none_found seeds body (Caller caller) = none_at (who (Caller caller))

-- ---- and one is asked for

caller_enabled : (f : Facts) (rest : List (Condition Rule)) → first_broken (caller_conditions f ++ rest) ≡ None
    → is_enabled f.standing ≡ true
caller_enabled f rest none = first_held (is_enabled f.standing) rule.AccountRefused rest
    (back_held (token_there f ∷ token_shaped f ∷ token_signed f ∷ token_read f ∷ token_lasts f ∷ [])
    (account_enabled f ∷ rest) none)

enabled_by : (s : Scope) (f : Facts) → (s ≡ scope.Login → ⊥) → first_broken (claims_conditions s f) ≡ None
    → is_enabled f.standing ≡ true
enabled_by scope.Login f apart none = absurd (apart refl)
enabled_by scope.AccountRead f apart none = caller_enabled f [] none
enabled_by scope.AccountChange f apart none = caller_enabled f (without_session f ∷ []) none
enabled_by scope.SessionResource f apart none = caller_enabled f (session_conditions f) none
enabled_by scope.ReviewableResource f apart none =
    caller_enabled f (if is_reviewer f then [] else session_conditions f) none

absent : (account : Option AccountRow) → account ≡ None → is_enabled (standing_of account) ≡ true → ⊥
absent None none enabled = cc
absent (Some row) none enabled = cc

unproved : (moment : ℕ) (login : LoginAsk) (account : Option AccountRow) → account ≡ None
    → is_some_and (option_map (user_facts moment login) account) (λ u. u.enabled && is_some u.step) ≡ true → ⊥
unproved moment login None none code = cc
unproved moment login (Some row) none code = cc

refused : (moment : ℕ) (it : Found) → account_in it ≡ None → first_broken (policy_conditions moment it) ≡ None → ⊥
unfolding policy_conditions policy
refused moment (found.Login login account) none held_all =
    let f = facts_in moment (found.Login login account) in
    unproved moment login account none
    (first_held (code_accepted f).0 rule.LoginRefused (renewal_allowed f ∷ []) held_all)
refused moment (found.Caller it) none held_all =
    let f = facts_in moment (found.Caller it) in
    let a = action_at it.place in
    absent it.account none (enabled_by (scope_of a) f (no_login (wish_at it.place))
    (whole_held (claims_conditions (scope_of a) f) (resource_conditions a f) held_all))

-- ---- so each is refused

not_there : {X : Type 0} (x : Option X) → x ≡ None → is_some x ≡ true → ⊥
not_there None none there = cc
not_there (Some x) none there = cc

breaks_one : (keys : Keys) (moment : ℕ) (r : RequestValue) (asked : Option Asker) → asker_of keys moment r ≡ asked
    → first_broken (first_conditions moment r ++ later_of keys.seed moment r asked (state_of no_rows)) ≡ None → ⊥
breaks_one keys moment r None named none =
    not_there (asker_of keys moment r) named
    (asked_on r.ask keys moment r
    (back_held (_ ∷ []) (first_conditions_on r.ask r) (whole_held (first_conditions moment r) [] none)))
breaks_one keys moment r (Some it) named none =
    let there = found_of keys.seed r.body it (state_of no_rows) in
    let later = later_conditions keys.seed moment r.body there in
    refused moment there (none_found keys.seed r.body it)
    (whole_held (policy_conditions moment there) (own_conditions keys.seed r.body there)
    (back_held (first_conditions moment r) later none))

first_refused : {F X : Type 0} (all : List (Condition F)) (value : X) → (first_broken all ≡ None → ⊥)
    → (fault : F) × (judged all value ≡ Err fault)
first_refused {F = F} all value breaks = go (first_broken all) breaks
  where
    go : (b : Option F) → (b ≡ None → ⊥) → (fault : F) × (unless b value ≡ Err fault)
    go None breaks = absurd (breaks refl)
    go (Some fault) breaks = (fault, refl)

pub nobody_accepted : (keys : Keys) (moment : ℕ) (r : RequestValue)
    → (rule : Rule) × (answer keys moment r (state_of no_rows) ≡ Err rule)
unfolding answer
nobody_accepted keys moment r =
    first_refused (conditions keys moment r (state_of no_rows))
    (reply_to keys moment r (asker_of keys moment r) (state_of no_rows))
    (breaks_one keys moment r (asker_of keys moment r) refl)
