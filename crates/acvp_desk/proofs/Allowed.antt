-- What holds of what a caller is allowed.
use Rattle.std.proofs.Common.{◌≡◌, ℕ, List, Bool, true, false, Option, None, Some, [], ◌∷◌, refl, arith}
use Rattle.std.proofs.lemmas.Bool.Decides.{nat_tests}
use Rattle.std.specs.Prelude.{◌++◌, ◌==◌, ◌&&◌, nat_le, is_some}
use Rattle.acvp_mac.specs.Conditions.{Condition, first_broken}
use Rattle.acvp_policy.specs.Scope.{scope_of}
use Rattle.acvp_policy.specs.declared.action.Action.{Action}
use Rattle.acvp_policy.specs.declared.action.Action.TheVariants as action
use Rattle.acvp_policy.specs.declared.facts.Facts.{Facts}
use Rattle.acvp_policy.specs.declared.facts.SessionFacts.{SessionFacts}
use Rattle.acvp_policy.specs.declared.facts.SetFacts.{SetFacts}
use Rattle.acvp_policy.specs.declared.facts.Subject.TheVariants as subject
use Rattle.acvp_policy.specs.declared.resource.Resource.TheVariants as resource
use Rattle.acvp_policy.specs.declared.rule.Rule.{Rule}
use Rattle.acvp_policy.specs.declared.rule.Rule.TheVariants as rule
use Rattle.acvp_desk.specs.Answer.{facts_on_caller, policy_conditions}
use Rattle.acvp_desk.specs.Place.{session_wish}
use Rattle.acvp_desk.specs.Sets.{set_wish}
use Rattle.acvp_desk.specs.Replies.{algorithm_at}
use Rattle.acvp_desk.specs.Wish.{action_on_session, action_on_set}
use Rattle.acvp_desk.specs.declared.found.Found.TheVariants as found
use Rattle.acvp_desk.specs.declared.found.FoundCaller.{FoundCaller}
use Rattle.acvp_desk.specs.declared.found.Place.TheVariants as place
use Rattle.acvp_desk.specs.declared.found.SessionPlace.{SessionPlace}
use Rattle.acvp_desk.specs.declared.found.SetPlace.{SetPlace}
use Rattle.acvp_desk.specs.declared.wish.SessionWish.{SessionWish}
use Rattle.acvp_desk.specs.declared.wish.SessionWish.TheVariants.{Read}
use Rattle.acvp_desk.specs.declared.wish.Registry.{Registry as RegistryOf}
use Rattle.acvp_desk.specs.declared.wish.Registry.TheVariants as registry
use Rattle.acvp_desk.specs.Registries.{new_action}
use Rattle.acvp_policy.specs.Conditions.{is_account, is_enabled, account_there, account_enabled, without_session}
use Rattle.acvp_policy.specs.Conditions.{token_there, token_shaped, token_signed, token_read, token_lasts}
use Rattle.acvp_policy.specs.Conditions.{session_found, is_some_and, session_live, session_thawed, set_found}
use Rattle.acvp_policy.specs.Conditions.{session_lasts, set_live, are_of_session, claims_of, has_passed, is_no_sample}
use Rattle.acvp_policy.specs.Conditions.{this_session, with_session}
use Rattle.acvp_policy.specs.Decision.{account_of_claims}
use Rattle.acvp_policy.specs.Policy.{policy, caller_conditions, claims_conditions, resource_conditions}
use Rattle.acvp_policy.specs.Policy.{session_conditions}
use Rattle.acvp_policy.specs.Resource.{resource_of, session_number}
use Rattle.acvp_policy.specs.SessionNumber.{account_of_session}
use Rattle.acvp_token.specs.declared.Claims.{Claims}
use Rattle.acvp_desk.specs.declared.wish.SetWish.{SetWish}
use Rattle.acvp_desk.specs.declared.wish.SetWish.TheVariants as on_set
use Rattle.acvp_desk.proofs.FirstBroken.{back_held, first_held}

pub on_resource : (a : Action) (f : Facts) → first_broken (policy a f) ≡ None
    → first_broken (resource_conditions a f) ≡ None
unfolding policy
on_resource a f held = back_held (claims_conditions (scope_of a) f) (resource_conditions a f) held

-- whether the first of them holds
abbrev front : List (Condition Rule) → Bool
front [] = true
front (condition ∷ rest) = condition.0

front_held : (conditions : List (Condition Rule)) → first_broken conditions ≡ None → front conditions ≡ true
front_held [] held = refl
front_held ((holds, fault) ∷ rest) held = first_held holds fault rest held

pub session_there : (it : SessionWish) (f : Facts) → first_broken (policy (action_on_session it) f) ≡ None
    → is_some (session_found f.subject) ≡ true
session_there Read f held =
    front_held (resource_conditions action.ReadSession f) (on_resource action.ReadSession f held)
session_there it f held =
    front_held (resource_conditions (action_on_session it) f) (on_resource (action_on_session it) f held)

pub set_there : (it : SetWish) (f : Facts) → first_broken (policy (action_on_set it) f) ≡ None
    → is_some (set_found f.subject) ≡ true
set_there on_set.Read f held = front_held (resource_conditions action.ReadSet f) (on_resource action.ReadSet f held)
set_there it f held = front_held (resource_conditions (action_on_set it) f) (on_resource (action_on_set it) f held)

pub cancelled_there : (f : Facts) → first_broken (policy action.CancelSet f) ≡ None
    → is_some (set_found f.subject) ≡ true
cancelled_there f held = first_held (is_some (set_found f.subject)) rule.NoResource
    (session_live f ∷ session_thawed f ∷ set_live f ∷ []) (on_resource action.CancelSet f held)

pub certified_there : (f : Facts) → first_broken (policy action.Certify f) ≡ None
    → is_some (session_found f.subject) ≡ true
certified_there f held =
    first_held (is_some (session_found f.subject)) rule.NoResource
    (session_live f ∷ session_lasts f ∷ session_thawed f ∷ is_no_sample f ∷ has_passed f ∷ [])
    (on_resource action.Certify f held)

-- ---- what the policy lets through is there

module _ (moment : ℕ) (it : FoundCaller) (held : first_broken (policy_conditions moment (found.Caller it)) ≡ None) where
  pub algorithm_there : (n : ℕ) → it.place ≡ place.Algorithm n → (nat_le 1 n && nat_le n 12) ≡ true
  unfolding policy_conditions
  algorithm_there n is =
      first_held (nat_le 1 n && nat_le n 12) rule.NoResource []
      (on_resource action.ReadAlgorithm
      (facts_on_caller moment it.token it.account it.reviewer (subject.Algorithm n)) (rw is at held))

  pub session_found_there : (n : ℕ) (facts : Option SessionFacts) (at : SessionPlace)
      → it.place ≡ place.Session n facts at → facts ≡ None → ⊥
  unfolding policy_conditions
  session_found_there n facts at is none =
      let there : is_some facts ≡ true =
      session_there (session_wish at)
      (facts_on_caller moment it.token it.account it.reviewer
      (subject.Session (record { session = n; found = facts }))) (rw is at held) in
      absurd (let there = rw none at there in cc)

  pub set_found_there : (session n : ℕ) (facts : Option SetFacts) (at : SetPlace)
      → it.place ≡ place.Set session n facts at → facts ≡ None → ⊥
  unfolding policy_conditions
  set_found_there session n facts at is none =
      let there : is_some facts ≡ true =
      set_there (set_wish at) (facts_on_caller moment it.token it.account it.reviewer
      (subject.Set (record { session = session; set = n; found = facts }))) (rw is at held) in
      absurd (let there = rw none at there in cc)

  pub reviewer_found_there : (n m : ℕ) (facts : Option SessionFacts) (accounts : List ℕ)
      → it.place ≡ place.Reviewer n m facts accounts → facts ≡ None → ⊥
  unfolding policy_conditions
  reviewer_found_there n m facts accounts is none =
      let f = facts_on_caller moment it.token it.account it.reviewer
      (subject.Reviewer (record { session = n; reviewer = m; found = facts })) in
      let there : is_some facts ≡ true = first_held (is_some facts) rule.NoResource (session_live f ∷ [])
      (on_resource action.RemoveReviewer
      (facts_on_caller moment it.token it.account it.reviewer
      (subject.Reviewer (record { session = n; reviewer = m; found = facts }))) (rw is at held)) in
      absurd (let there = rw none at there in cc)

-- where an account's new session is allowed, the account acts and is enabled
pub new_allowed : (f : Facts) → first_broken (policy action.NewSession f) ≡ None → (is_account f.subject ≡ true)
    × (is_enabled f.standing ≡ true)
unfolding policy
new_allowed f held = (
  first_held (is_account f.subject) rule.NoResource []
      (back_held (caller_conditions f ++ without_session f ∷ []) (account_there f ∷ []) held),
  first_held (is_enabled f.standing) rule.AccountRefused (without_session f ∷ account_there f ∷ [])
      (back_held (token_there f ∷ token_shaped f ∷ token_signed f ∷ token_read f ∷ token_lasts f ∷ [])
      (account_enabled f ∷ without_session f ∷ account_there f ∷ []) held),
)

-- and where a registration is
pub registration_allowed : (of : RegistryOf) (f : Facts) → first_broken (policy (new_action of) f) ≡ None
    → (is_account f.subject ≡ true) × (is_enabled f.standing ≡ true)
unfolding policy
registration_allowed registry.Vendors f held = new_allowed f held
registration_allowed registry.Modules f held = new_allowed f held
registration_allowed registry.Environments f held = new_allowed f held

-- where a certification is, the account acts that the session is of, and is enabled
pub certification_enabled : (f : Facts) → first_broken (policy action.Certify f) ≡ None → is_enabled f.standing ≡ true
unfolding policy
certification_enabled f held =
    first_held (is_enabled f.standing) rule.AccountRefused
    (session_conditions f ++ resource_conditions action.Certify f)
    (back_held (token_there f ∷ token_shaped f ∷ token_signed f ∷ token_read f ∷ token_lasts f ∷ [])
    (account_enabled f ∷ session_conditions f ++ resource_conditions action.Certify f) held)

pub certification_owned : (f : Facts) (n : ℕ) → resource_of f.subject ≡ resource.Session n
    → first_broken (policy action.Certify f) ≡ None
    → account_of_session n ≡ account_of_claims (claims_of f.token)
unfolding policy
certification_owned f n names held = go (claims_of f.token) (rw names at own)
  where
    own : is_some_and (session_number (resource_of f.subject)) (λ s. is_some_and (claims_of f.token) (are_of_session s))
        ≡ true
    own = first_held (is_some_and (session_number (resource_of f.subject))
        (λ s. is_some_and (claims_of f.token) (are_of_session s))) rule.OtherSession
        (resource_conditions action.Certify f)
        (back_held (caller_conditions f ++ with_session f ∷ [])
        (this_session f ∷ resource_conditions action.Certify f) held)

    at : (bound same : Bool) → (bound && same) ≡ true → same ≡ true
    at true same e = e
    at false same e = absurd (cc)

    go : (claims : Option Claims) → is_some_and claims (are_of_session n) ≡ true
        → account_of_session n ≡ account_of_claims claims
    go None e = absurd (cc)
    go (Some claims) e =
        let same : (account_of_session n == claims.account) ≡ true =
        at (is_some_and claims.session (λ bound. bound == n)) (account_of_session n == claims.account) e in
        grind (arith, nat_tests, same)

-- each number from 1 to 12 is an algorithm's
pub each_algorithm : (n : ℕ) → (nat_le 1 n && nat_le n 12) ≡ true → algorithm_at n ≡ None → ⊥
unfolding algorithm_at
each_algorithm n there none = grind (arith, nat_tests, there, none)
