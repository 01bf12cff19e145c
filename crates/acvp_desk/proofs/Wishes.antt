-- What is found of a wish is of what is asked: by the action, by what its path names, and by numbers that fit.
use Rattle.std.proofs.Common.{◌≡◌, ℕ, ◌/◌, List, Bool, true, false, Option, None, Some, refl, ap, ◌∙◌, ◌<◌, arith}
use Rattle.std.specs.Prelude.{not, nat_le, is_none, is_some, option_map, ◌&&◌, ◌||◌, ◌==◌}
use Rattle.std.proofs.lemmas.Bool.Decides.{nat_tests}
use Rattle.acvp_answers.specs.declared.verdict.Verdict.{Verdict}
use Rattle.acvp_token.specs.declared.Claims.{Claims}
use Rattle.acvp_policy.specs.Conditions.{is_some_and, login_of}
use Rattle.acvp_policy.specs.Policy.{policy}
use Rattle.acvp_policy.specs.Resource.{resource_of}
use Rattle.acvp_policy.specs.declared.facts.SessionFacts.{SessionFacts}
use Rattle.acvp_policy.specs.declared.facts.SetFacts.{SetFacts}
use Rattle.acvp_tables.specs.Content.{is_reviewer}
use Rattle.acvp_tables.specs.State.{State, SetRecord, own, owner_of, set_record_at, IsWellNumbered}
use Rattle.acvp_desk.specs.Answer.{action_in, action_of, facts_in, found_of, policy_conditions, reviews_as}
use Rattle.acvp_desk.specs.Place.{place_of, reviewed, reviewed_facts, session_facts, subject_at, wish_at}
use Rattle.acvp_desk.specs.Sets.{results_place, set_facts, set_place, set_source, set_wish, verdicts_in_session}
use Rattle.acvp_desk.specs.Wish.{action_of_wish}
use Rattle.acvp_desk.specs.declared.ask.Asker.{Asker}
use Rattle.acvp_desk.specs.declared.ask.Asker.TheVariants.{Login, Caller}
use Rattle.acvp_desk.specs.declared.found.Place.{Place}
use Rattle.acvp_desk.specs.declared.found.Place.TheVariants as place
use Rattle.acvp_desk.specs.declared.found.RegistryPlace.TheVariants as in_registry
use Rattle.acvp_desk.specs.declared.wish.Registry.TheVariants as registry
use Rattle.acvp_desk.specs.declared.wish.RegistryWish.TheVariants as on_registry
use Rattle.acvp_desk.specs.declared.wish.SessionWish.TheVariants as on_session
use Rattle.acvp_desk.specs.declared.wish.SetWish.{SetWish}
use Rattle.acvp_desk.specs.declared.wish.SetWish.TheVariants as on_set
use Rattle.acvp_desk.specs.declared.wish.AccountWish.TheVariants as on_account
use Rattle.acvp_desk.specs.declared.wish.Wish.{Wish}
use Rattle.acvp_desk.specs.declared.wish.Wish.TheVariants as wish
use Rattle.acvp_desk.specs.Registries.{kind_of}
use Rattle.acvp_desk.specs.Asked.{object_in}
use Rattle.acvp_desk.specs.Private.Unfound.{unfound}
use Rattle.acvp_desk.specs.Private.Within.{is_fit, is_within}
use Rattle.acvp_desk.proofs.CancelledSet.{number_fits}
use Rattle.acvp_desk.proofs.NextReviewer.{none_reviews}
use Rattle.acvp_desk.proofs.NextRequest.{is_of_its_kind}

-- the actions that reviewers are let in to
abbrev pub reads_results : Wish → Bool
reads_results (wish.Session n on_session.Results) = true
reads_results (wish.Set session n on_set.Results) = true
reads_results _ = false

-- on the others nobody is a reviewer
pub not_reviewed : (it : Wish) (u : ℕ) (state : State) → reads_results it ≡ false → reviewed it u state ≡ false
not_reviewed (wish.Session n on_session.Results) u state off = absurd (cc)
not_reviewed (wish.Set session n on_set.Results) u state off = absurd (cc)
not_reviewed _ u state off = refl

pub not_reviewing : (claims : Option Claims) (it : Wish) (state : State) → reads_results it ≡ false
    → reviews_as claims it state ≡ false
not_reviewing None it state off = refl
not_reviewing (Some claims) it state off = rw (not_reviewed it claims.account state off) refl

-- on these who is a reviewer has a token that is bound to no session
pub reviews_unbound : (claims : Option Claims) (u : ℕ) (it : Wish) (state : State)
    → option_map (λ (c : Claims). c.account) claims ≡ Some u
    → reviews_as claims it state ≡ (reviewed it u state && is_some_and claims (λ c. is_none c.session))
reviews_unbound None u it state named = absurd (cc)
reviews_unbound (Some claims) u it state named = let same : claims.account ≡ u = cc in rw same refl

-- ---- what was asked

set_asked : (seeds : List (List ℕ)) (session n : ℕ) (sets : List SetRecord) (it : SetWish)
    → set_wish (set_place seeds session n sets it) ≡ it
set_asked seeds session n sets on_set.Results = go (verdicts_in_session seeds session n sets)
  where
    go : (verdicts : Option (List Verdict)) → set_wish (results_place verdicts (set_source session n sets))
        ≡ on_set.Results
    go None = refl
    go (Some verdicts) = refl
set_asked seeds session n sets _ = refl

pub wish_asked : (seeds : List (List ℕ)) (u : ℕ) (body : List ℕ) (state : State) (it : Wish)
    → wish_at (place_of seeds u body state it) ≡ it
wish_asked seeds u body state (wish.Account on_account.Read) = refl
wish_asked seeds u body state (wish.Session n on_session.Read) = refl
wish_asked seeds u body state (wish.Set session n it) =
    ap (wish.Set session n) (set_asked seeds session n state.sets it)
wish_asked seeds u body state (wish.ListSessions None) = refl
wish_asked seeds u body state (wish.Registry (on_registry.List of None)) = refl
wish_asked seeds u body state (wish.Registry (on_registry.ListRequests None)) = refl
wish_asked seeds u body state _ = refl

pub action_asked : (seeds : List (List ℕ)) (body : List ℕ) (it : Asker) (state : State)
    → action_in (found_of seeds body it state) ≡ action_of it
unfolding found_of
action_asked seeds body (Login login) state = refl
action_asked seeds body (Caller caller) state = ap action_of_wish (wish_asked seeds _ body state caller.wish)

pub policy_asked : (moment : ℕ) (seeds : List (List ℕ)) (body : List ℕ) (it : Asker) (state : State)
    → policy_conditions moment (found_of seeds body it state)
    ≡ policy (action_of it) (facts_in moment (found_of seeds body it state))
unfolding policy_conditions
policy_asked moment seeds body it state =
    ap (λ a. policy a (facts_in moment (found_of seeds body it state))) (action_asked seeds body it state)

-- ---- what a path names

-- whatever is found there
pub place_names : (it : Place) → resource_of (subject_at it) ≡ resource_of (unfound (wish_at it))
place_names (place.Registry (in_registry.Object registry.Vendors n row)) = refl
place_names _ = refl

pub wish_names : (seeds : List (List ℕ)) (u : ℕ) (body : List ℕ) (state : State) (it : Wish)
    → resource_of (subject_at (place_of seeds u body state it)) ≡ resource_of (unfound it)
wish_names seeds u body state it = place_names (place_of seeds u body state it)
    ∙ ap (λ w. resource_of (unfound w)) (wish_asked seeds u body state it)

-- and it is no login
pub no_login_at : (it : Place) → login_of (subject_at it) ≡ None
no_login_at (place.Registry (in_registry.Object registry.Vendors n row)) = refl
no_login_at _ = refl

-- ---- the numbers that are found fit

module _ (reviews : (u s a : ℕ) (state : State)
    → is_reviewer s a (own u state).reviewers ≡ ((owner_of s == u) && is_reviewer s a state.reviewers))
    (set_names : (n : ℕ) (state : State) (row : SetRecord) → IsWellNumbered state
    → set_record_at n state.sets ≡ Some row → row.session ≡ n / 100) where
  reviewer_within : (seeds : List (List ℕ)) (state : State) (n m : ℕ) → IsWellNumbered state
      → (not (is_some (reviewed_facts seeds state n m)) || nat_le m 9999) ≡ true
  reviewer_within seeds state n m well = go (nat_le m 9999) refl
    where
      at : (found : Option SessionFacts) → None ≡ found → (not (is_some found) || false) ≡ true
      at None none = refl
      at (Some facts) none = absurd (cc)

      whatever : (found : Option SessionFacts) → (not (is_some found) || true) ≡ true
      whatever None = refl
      whatever (Some facts) = refl

      go : (b : Bool) → nat_le m 9999 ≡ b → (not (is_some (reviewed_facts seeds state n m)) || nat_le m 9999) ≡ true
      go true e = rw e (whatever (reviewed_facts seeds state n m))
      go false e =
          let past : 9999 < m = grind (arith, nat_tests, e) in
          rw e (at (reviewed_facts seeds state n m) (none_reviews reviews seeds state n m well past))

  set_within : (seeds : List (List ℕ)) (state : State) (session n : ℕ) → IsWellNumbered state
      → (not (is_some (set_facts (session_facts seeds state session) session n state.sets)) || ((n / 100) == session))
      ≡ true
  set_within seeds state session n well = go (set_facts (session_facts seeds state session) session n state.sets) refl
    where
      go : (found : Option SetFacts) → set_facts (session_facts seeds state session) session n state.sets ≡ found
          → (not (is_some found) || ((n / 100) == session)) ≡ true
      go None e = refl
      go (Some facts) e =
          let same : n / 100 ≡ session = number_fits set_names (session_facts seeds state session) session n state well
          (ap is_some e) in
          grind (arith, nat_tests, same)

  wish_within : (seeds : List (List ℕ)) (u : ℕ) (body : List ℕ) (state : State) (it : Wish) → IsWellNumbered state
      → is_within (place_of seeds u body state it) ≡ true
  wish_within seeds u body state (wish.Account on_account.Read) well = refl
  wish_within seeds u body state (wish.Reviewer n m) well = reviewer_within seeds state n m well
  wish_within seeds u body state (wish.Set session n it) well = set_within seeds state session n well
  wish_within seeds u body state (wish.CancelSet session n) well = set_within seeds state session n well
  wish_within seeds u body state (wish.Registry (on_registry.New of)) well =
      is_of_its_kind of body (object_in (kind_of of) body) _ refl
  wish_within seeds u body state _ well = refl

  pub found_fits : (seeds : List (List ℕ)) (body : List ℕ) (it : Asker) (state : State) → IsWellNumbered state
      → is_fit (found_of seeds body it state) ≡ true
  unfolding found_of
  found_fits seeds body (Login login) state well = refl
  found_fits seeds body (Caller caller) state well = wish_within seeds _ body state caller.wish well
