-- Who is added as a reviewer is asked for.
use Rattle.std.proofs.Common.{◌≡◌, ℕ, List, Option, None, Some, Result, Ok, Err, refl, sym, ap, ◌∙◌}
use Rattle.std.specs.Prelude.{option_and_then, option_map}
use Rattle.acvp_gen.specs.Prompt.{PromptsValue}
use Rattle.acvp_json.specs.Data.{Data}
use Rattle.acvp_policy.specs.Conditions.{claims_of}
use Rattle.acvp_policy.specs.Decision.{account_of_claims}
use Rattle.acvp_policy.specs.declared.rule.Rule.{Rule}
use Rattle.acvp_tables.specs.State.{State}
use Rattle.acvp_tables.specs.declared.change.Change.{Change}
use Rattle.acvp_tables.specs.declared.change.Change.TheVariants as change
use Rattle.acvp_tables.specs.declared.rows.AccountRow.{AccountRow}
use Rattle.acvp_tables.specs.declared.rows.ReviewerRow.{ReviewerRow}
use Rattle.acvp_desk.specs.Answer.{accepted_change, account_found, answer, asker_of, asker_on, change_by, change_on}
use Rattle.acvp_desk.specs.Answer.{found_of}
use Rattle.acvp_desk.specs.Isolation.{reviewer_asked, reviewer_asked_by}
use Rattle.acvp_desk.specs.Login.{login_ask_at, login_step}
use Rattle.acvp_desk.specs.NewSessions.{new_session_in}
use Rattle.acvp_desk.specs.Place.{place_of, wish_at}
use Rattle.acvp_desk.specs.Replies.{answers_change, place_change, prompts_from, set_change, submission_change}
use Rattle.acvp_desk.specs.Request.{RequestValue}
use Rattle.acvp_desk.specs.Reviewers.{reviewer_at}
use Rattle.acvp_desk.specs.Submissions.{graded_at}
use Rattle.acvp_desk.specs.declared.ask.Asker.{Asker}
use Rattle.acvp_desk.specs.declared.ask.Asker.TheVariants.{Login, Caller}
use Rattle.acvp_desk.specs.declared.ask.LoginAsk.{LoginAsk}
use Rattle.acvp_desk.specs.declared.found.Place.{Place}
use Rattle.acvp_desk.specs.declared.found.Place.TheVariants as place
use Rattle.acvp_desk.specs.declared.found.RegistryPlace.TheVariants as in_registry
use Rattle.acvp_desk.specs.declared.found.SessionPlace.TheVariants as in_session
use Rattle.acvp_desk.specs.declared.found.SetPlace.{SetPlace}
use Rattle.acvp_desk.specs.declared.found.SetPlace.TheVariants as in_set
use Rattle.acvp_desk.specs.declared.found.Submission.{Submission}
use Rattle.acvp_desk.specs.declared.keys.Keys.{Keys}
use Rattle.acvp_desk.specs.declared.request.Ask.{Ask}
use Rattle.acvp_desk.specs.declared.request.Ask.TheVariants as request
use Rattle.acvp_desk.specs.declared.wish.SessionWish.TheVariants as on_session
use Rattle.acvp_desk.specs.declared.wish.Wish.{Wish}
use Rattle.acvp_desk.specs.declared.wish.Wish.TheVariants as wish
use Rattle.acvp_desk.proofs.Wishes.{wish_asked}

-- the reviewer that a change adds
abbrev added : Option Change → Option ReviewerRow
added (Some (change.AddReviewer row)) = Some row
added _ = None

not_mapped : {X : Type 0} (f : X → Change) (x : Option X) → ((x : X) → added (Some (f x)) ≡ None)
    → added (option_map f x) ≡ None
not_mapped f None none = refl
not_mapped f (Some x) none = none x

none_added : (made : Option Change) (row : ReviewerRow) → added made ≡ None → added made ≡ Some row → ⊥
none_added made row none is = absurd (cc)

-- ---- by what a caller asks

answers_add_none : (seeds : List (List ℕ)) (session n : ℕ) (body : List ℕ) (others : ℕ) (prompts : Option PromptsValue)
    → added (option_and_then (answers_change session n body others) prompts) ≡ None
answers_add_none seeds session n body others None = refl
answers_add_none seeds session n body others (Some prompts) = not_mapped _ (graded_at body prompts) (λ graded. refl)

submission_adds_none : (seeds : List (List ℕ)) (session n : ℕ) (body : List ℕ) (s : Option Submission)
    → added (option_and_then (submission_change seeds session n body) s) ≡ None
submission_adds_none seeds session n body None = refl
submission_adds_none seeds session n body (Some s) =
    answers_add_none seeds session n body s.others (prompts_from seeds n s.source)

set_adds_none : (seeds : List (List ℕ)) (session n : ℕ) (body : List ℕ) (it : SetPlace)
    → added (set_change seeds session n body it) ≡ None
set_adds_none seeds session n body (in_set.Made shown source) = refl
set_adds_none seeds session n body (in_set.Verdicts verdicts) = refl
set_adds_none seeds session n body (in_set.Submit s) = submission_adds_none seeds session n body s
set_adds_none seeds session n body (in_set.Resubmit s) = submission_adds_none seeds session n body s

reviewer_added : (n : ℕ) (account : Option ℕ) (row : ReviewerRow)
    → added (option_map (λ a. change.AddReviewer (record { session = n; account = a })) account) ≡ Some row
    → account ≡ Some row.account
reviewer_added n None row is = absurd (cc)
reviewer_added n (Some a) row is = let same : record { session = n; account = a } ≡ row = cc (is) in rw (← same) refl

module _ (seeds : List (List ℕ)) (moment u : ℕ) (body : List ℕ) (row : ReviewerRow) where
  -- only who asks to add a reviewer adds one: the one that the body names
  by_place : (it : Place) → added (place_change seeds moment u body it) ≡ Some row
      → ((n : ℕ) × (wish_at it ≡ wish.Session n on_session.AddReviewer)) × (reviewer_at body ≡ Some row.account)
  by_place (place.Session n found (in_session.AddReviewer accounts)) is =
      ((n, refl), reviewer_added n (reviewer_at body) row is)
  by_place (place.NewSession sessions) is =
      let made = new_session_in seeds moment u sessions body in
      absurd (none_added (option_map change.NewSession made) row
      (not_mapped change.NewSession made (λ session. refl)) is)
  by_place (place.Set session n found it) is =
      absurd (none_added (set_change seeds session n body it) row (set_adds_none seeds session n body it) is)
  by_place (place.Certify n found (Ok parts) asked) is = absurd (cc)
  by_place (place.Registry (in_registry.New of (Ok object) asked)) is = absurd (cc)
  by_place _ is = absurd (cc)

-- ---- by the action

abbrev wish_in : Option Asker → Option Wish
wish_in (Some (Caller caller)) = Some caller.wish
wish_in (Some (Login login)) = None
wish_in None = None

no_wish : (login : Option LoginAsk) → wish_in (option_map Login login) ≡ None
no_wish None = refl
no_wish (Some login) = refl

module _ (keys : Keys) (moment : ℕ) (r : RequestValue) (n : ℕ) where
  asks : (a : Ask) → wish_in (asker_on a keys moment r) ≡ Some (wish.Session n on_session.AddReviewer)
      → reviewer_asked_by a r.body ≡ reviewer_at r.body
  asks request.Login is = absurd (let none = no_wish (login_ask_at keys.token r.body) in cc)
  asks (request.Caller it) is = let same : it ≡ wish.Session n on_session.AddReviewer = cc in rw same refl

-- ---- by the request

made_if : (reply : Result (Option Data) Rule) (made : Option Change) (it : Change) → change_on reply made ≡ Some it
    → made ≡ Some it
made_if (Ok shown) made it is = is
made_if (Err refusal) made it is = absurd (cc)

no_step : (moment : ℕ) (login : LoginAsk) (account : Option AccountRow)
    → added (option_and_then (λ row. option_map (λ step. change.UseStep (record { account = row.number; step = step }))
    (login_step moment login row)) account) ≡ None
no_step moment login None = refl
no_step moment login (Some row) = not_mapped _ (login_step moment login row) (λ step. refl)

pub asked_for : (keys : Keys) (moment : ℕ) (r : RequestValue) (state : State) (s a : ℕ)
    → accepted_change keys moment r state ≡ Some (change.AddReviewer (record { session = s; account = a }))
    → reviewer_asked r ≡ Some a
unfolding accepted_change found_of
asked_for keys moment r state s a makes =
    go (asker_of keys moment r) refl
    (ap added (made_if (answer keys moment r state) (change_by keys moment r (asker_of keys moment r) state) _ makes))
  where
    go : (asked : Option Asker) → asker_of keys moment r ≡ asked
        → added (change_by keys moment r asked state) ≡ Some (record { session = s; account = a })
        → reviewer_asked r ≡ Some a
    go None is adds = absurd (cc)
    go (Some (Login login)) is adds = absurd (let none = no_step moment login (account_found (Login login) state) in cc)
    go (Some (Caller caller)) is adds =
        let acts = account_of_claims (claims_of caller.token) in
        let at = place_of keys.seed acts r.body state caller.wish in
        let by = by_place keys.seed moment acts r.body (record { session = s; account = a }) at adds in
        asks keys moment r by.0.0 r.ask
        (ap wish_in is ∙ ap Some (sym (wish_asked keys.seed acts r.body state caller.wish) ∙ by.0.1)) ∙ by.1
