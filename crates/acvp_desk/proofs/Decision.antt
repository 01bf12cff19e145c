-- What the policy decides on what was found.
use Rattle.std.proofs.Common.{◌≡◌, ◌⊎◌, ℕ, List, [], ◌∷◌, true, None, Some, Option, Ok, Err, inl, inr, refl, sym, ap}
use Rattle.std.proofs.Common.{◌∙◌, ◌/◌, ◌==◌, arith, ◌||◌}
use Rattle.std.specs.Prelude.{Result, option_map, option_and_then, is_some, not, nat_lt}
use Rattle.std.proofs.lemmas.Bool.Decides.{nat_tests}
use Rattle.acvp_answers.specs.Answer.{Answer}
use Rattle.acvp_caps.specs.Registered.{registration_conditions}
use Rattle.acvp_gen.specs.Prompt.{PromptsValue}
use Rattle.acvp_mac.specs.Conditions.{first_broken}
use Rattle.acvp_policy.specs.Conditions.{claims_of}
use Rattle.acvp_policy.specs.Decision.{account_of_claims, account_of_user, decision, granted}
use Rattle.acvp_policy.specs.Granted.{Granted}
use Rattle.acvp_policy.specs.Kinds.{IsOfSession, IsReview}
use Rattle.acvp_policy.specs.Policy.{policy}
use Rattle.acvp_policy.specs.Resource.{resource_of}
use Rattle.acvp_policy.specs.SessionNumber.{account_of_session}
use Rattle.acvp_policy.specs.declared.action.Action.{Action}
use Rattle.acvp_policy.specs.declared.action.Action.TheVariants as action
use Rattle.acvp_policy.specs.declared.facts.Facts.{Facts}
use Rattle.acvp_policy.specs.declared.facts.SetFacts.{SetFacts}
use Rattle.acvp_policy.specs.declared.facts.Subject.TheVariants as subject
use Rattle.acvp_policy.specs.declared.resource.Resource.TheVariants as resource
use Rattle.acvp_policy.specs.declared.rule.Rule.{Rule}
use Rattle.acvp_policy.specs.declared.rule.Rule.TheVariants as rule
use Rattle.acvp_json.specs.declared.certify_body.CertifyBody.{CertifyBody}
use Rattle.acvp_registry.specs.Object.{KeptObject}
use Rattle.acvp_tables.specs.declared.change.Change.{Change}
use Rattle.acvp_tables.specs.declared.change.Change.TheVariants as change
use Rattle.acvp_tables.specs.declared.rows.AccountRow.{AccountRow}
use Rattle.acvp_desk.specs.Answer.{action_in, change_of, facts_in, facts_on_login, login_change, own_conditions}
use Rattle.acvp_desk.specs.Answer.{policy_conditions}
use Rattle.acvp_desk.specs.Asked.{requested_conditions, certification_change, object_change}
use Rattle.acvp_desk.specs.Bodies.{body_conditions, registration_rule}
use Rattle.acvp_desk.specs.Login.{login_step, user_facts}
use Rattle.acvp_desk.specs.NewSessions.{new_session_in}
use Rattle.acvp_desk.specs.OwnConditions.{new_session_conditions, place_conditions}
use Rattle.acvp_desk.specs.Place.{action_at, session_wish, subject_at}
use Rattle.acvp_desk.specs.Registries.{new_action}
use Rattle.acvp_desk.specs.Replies.{answers_change, cancelled_set, place_change, prompts_from, session_change}
use Rattle.acvp_desk.specs.Replies.{set_change, submission_change}
use Rattle.acvp_desk.specs.Reviewers.{reviewer_at}
use Rattle.acvp_desk.specs.Sets.{set_wish}
use Rattle.acvp_desk.specs.Submissions.{answers_at, graded_on, kept_answers}
use Rattle.acvp_desk.specs.Wish.{action_on_session, action_on_set}
use Rattle.acvp_desk.specs.declared.ask.LoginAsk.{LoginAsk}
use Rattle.acvp_desk.specs.declared.found.Grounds.{Grounds}
use Rattle.acvp_desk.specs.declared.found.Found.{Found}
use Rattle.acvp_desk.specs.declared.found.Found.TheVariants as found
use Rattle.acvp_desk.specs.declared.found.Place.{Place}
use Rattle.acvp_desk.specs.declared.found.Place.TheVariants as place
use Rattle.acvp_desk.specs.declared.found.RegistryPlace.TheVariants as in_registry
use Rattle.acvp_desk.specs.declared.found.SessionPlace.{SessionPlace}
use Rattle.acvp_desk.specs.declared.found.SessionPlace.TheVariants as in_session
use Rattle.acvp_desk.specs.declared.found.SetOutcome.{SetOutcome}
use Rattle.acvp_desk.specs.declared.found.SetPlace.{SetPlace}
use Rattle.acvp_desk.specs.declared.found.SetPlace.TheVariants as in_set
use Rattle.acvp_desk.specs.declared.found.Submission.{Submission}
use Rattle.acvp_desk.specs.declared.keys.Keys.{Keys}
use Rattle.acvp_desk.specs.declared.wish.Registry.{Registry as RegistryOf}
use Rattle.acvp_desk.specs.Private.Covered.{CoversAny}
use Rattle.acvp_desk.specs.Private.Within.{is_fit, is_of_registry, is_within}
use Rattle.acvp_desk.proofs.Allowed.{cancelled_there, certification_owned, set_there}
use Rattle.acvp_desk.proofs.FirstBroken.{back_held, broken, first_held, held}
use Rattle.acvp_desk.proofs.NextRequest.{certification_covered, few_asked, registration_covered}
use Rattle.acvp_desk.proofs.NextSession.{registers}

pub denied_by : (moment : ℕ) (it : Found) (a : Action) (f : Facts) (rule : Rule) → a ≡ action_in it
    → f ≡ facts_in moment it
    → Err rule ≡ decision a f → first_broken (policy_conditions moment it) ≡ Some rule
unfolding policy_conditions decision
denied_by moment it a f rule action facts is = rw (← action, ← facts) (broken (policy a f) (granted a f) rule (sym is))

pub let_through : (moment : ℕ) (it : Found) (a : Action) (f : Facts) (g : Granted) → a ≡ action_in it
    → f ≡ facts_in moment it
    → Ok g ≡ decision a f → first_broken (policy_conditions moment it) ≡ None
unfolding policy_conditions decision
let_through moment it a f g action facts is = rw (← action, ← facts) (held (policy a f) (granted a f) g (sym is))

through : (a : Action) (f : Facts) (g : Granted) → Ok g ≡ decision a f → first_broken (policy a f) ≡ None
unfolding decision
through a f g is = held (policy a f) (granted a f) g (sym is)

-- ---- the grant is leave for the change

login_covers : (moment : ℕ) (login : LoginAsk) (account : Option AccountRow)
    → CoversAny (granted action.Login (facts_on_login moment login account)) (login_change moment login account)
unfolding granted
login_covers moment login account = go account
  where
    at : (row : AccountRow) (step : Option ℕ)
        → CoversAny (record { action = action.Login; account = row.number; resource = resource.Account })
        (option_map (λ step. change.UseStep (record { account = row.number; step = step })) step)
    at row None = tt
    at row (Some step) = ((refl, refl, refl), tt)

    go : (account : Option AccountRow)
        → CoversAny (record {
          action = action.Login;
          account =
              account_of_user (option_map (user_facts moment login) account);
          resource = resource.Account;
        })
        (option_and_then (λ row. option_map (λ step. change.UseStep (record { account = row.number; step = step }))
        (login_step moment login row)) account)
    go None = tt
    go (Some row) = at row (login_step moment login row)

-- whose session a grant is for
abbrev pub Owns : Type 0
Owns = (action : Action) (facts : Facts) (grant : Granted) → decision action facts ≡ Ok grant
    → (session : ℕ) → IsOfSession session grant.resource → (account_of_session session ≡ grant.account)
    ⊎ IsReview action facts

session_covers : (owns : Owns) (n : ℕ) (body : List ℕ) (it : SessionPlace) (f : Facts) (g : Granted)
    → resource_of f.subject ≡ resource.Session n
    → Ok g ≡ decision (action_on_session (session_wish it)) f → g ≡ granted (action_on_session (session_wish it)) f
    → CoversAny g (session_change n body it)
unfolding granted
session_covers owns n body in_session.Cancel f g names decided is =
    let names : g.resource ≡ resource.Session n = rw is names in
    elim (owns action.CancelSession f g (sym decided) n (rw names refl)) [
      | inl own ↦ ((ap (λ x. x.action) is, names, sym own), tt)
      | inr review ↦ absurd (elim review.results [ inl e ↦ cc | inr e ↦ cc ])
    ]
session_covers owns n body (in_session.AddReviewer accounts) f g names decided is = go (reviewer_at body)
  where
    on_it : g.resource ≡ resource.Session n
    on_it = rw is names

    go : (account : Option ℕ)
        → CoversAny g (option_map (λ a. change.AddReviewer (record { session = n; account = a })) account)
    go None = tt
    go (Some a) =
        elim (owns action.AddReviewer f g (sym decided) n (rw on_it refl)) [
          | inl own ↦ ((ap (λ x. x.action) is, on_it, sym own), tt)
          | inr review ↦ absurd (elim review.results [ inl e ↦ cc | inr e ↦ cc ])
        ]
session_covers owns n body _ f g names decided is = tt

reviewer_covers : (owns : Owns) (n m : ℕ) (f : Facts) (g : Granted) → resource_of f.subject ≡ resource.Reviewer n m
    → Ok g ≡ decision action.RemoveReviewer f → g ≡ granted action.RemoveReviewer f
    → CoversAny g (Some (change.RemoveReviewer (record { session = n; account = m })))
unfolding granted
reviewer_covers owns n m f g names decided is =
    let names : g.resource ≡ resource.Reviewer n m = rw is names in
    elim (owns action.RemoveReviewer f g (sym decided) n (rw names refl)) [
      | inl own ↦ ((ap (λ x. x.action) is, names, sym own), tt)
      | inr review ↦ absurd (elim review.results [ inl e ↦ cc | inr e ↦ cc ])
    ]

new_covers : (seeds : List (List ℕ)) (moment u n : ℕ) (body : List ℕ) (f : Facts) (g : Granted)
    → f.subject ≡ subject.Account
    → first_broken (new_session_conditions body n) ≡ None → u ≡ account_of_claims (claims_of f.token)
    → g ≡ granted action.NewSession f
    → CoversAny g (option_map change.NewSession (new_session_in seeds moment u n body))
unfolding granted
new_covers seeds moment u n body f g on own acts is =
    let few = first_held (nat_lt n 999999) rule.AccountFull []
    (back_held (body_conditions registration_rule registration_conditions body)
    ((nat_lt n 999999, rule.AccountFull) ∷ []) own) in
    registers seeds moment u n body g (ap (λ x. x.action) is) (rw (is, on) refl) (rw (is, on, acts) refl) few

cancel_covers : (owns : Owns) (session n : ℕ) (sets : List SetOutcome) (f : Facts) (g : Granted)
    → resource_of f.subject ≡ resource.Set session n
    → (n / 100) ≡ session → Ok g ≡ decision action.CancelSet f → g ≡ granted action.CancelSet f
    → CoversAny g (Some (change.CancelSet (cancelled_set session n sets)))
unfolding granted
cancel_covers owns session n sets f g names fits decided is =
    let names : g.resource ≡ resource.Set session n = rw is names in
    elim (owns action.CancelSet f g (sym decided) session (rw names refl)) [
      | inl own ↦ ((ap (λ x. x.action) is, names, sym own), fits)
      | inr review ↦ absurd (elim review.results [ inl e ↦ cc | inr e ↦ cc ])
    ]

-- answers to a set of the session
graded_covers : (session n others : ℕ) (body : List ℕ) (g : Granted) → (g.action ≡ action.Submit)
    ⊎ (g.action ≡ action.Resubmit) → g.resource ≡ resource.Set session n
    → g.account ≡ account_of_session session → (n / 100) ≡ session → (prompts : Option PromptsValue)
    → CoversAny g (option_and_then (answers_change session n body others) prompts)
graded_covers session n others body g on at by fits None = tt
graded_covers session n others body g on at by fits (Some prompts) = go (answers_at prompts body)
  where
    go : (answers : Option (List Answer))
        → CoversAny g (option_map (λ graded. change.KeepAnswers (kept_answers session n others graded))
        (option_map (graded_on prompts) answers))
    go None = tt
    go (Some answers) = ((on, at, by), fits)

submission_covers : (owns : Owns) (seeds : List (List ℕ)) (session n : ℕ) (body : List ℕ) (a : Action) (f : Facts)
    (g : Granted) → (a ≡ action.Submit) ⊎ (a ≡ action.Resubmit)
    → resource_of f.subject ≡ resource.Set session n → (n / 100) ≡ session → Ok g ≡ decision a f → g ≡ granted a f
    → (s : Submission)
    → CoversAny g (submission_change seeds session n body s)
unfolding granted
submission_covers owns seeds session n body a f g which names fits decided is s =
    let on_it : g.resource ≡ resource.Set session n = rw is names in
    let of_it : g.action ≡ a = ap (λ x. x.action) is in
    let on : (g.action ≡ action.Submit) ⊎ (g.action ≡ action.Resubmit) = rw of_it which in
    elim (owns a f g (sym decided) session (rw on_it refl)) [
      | inl own ↦ graded_covers session n s.others body g on on_it (sym own) fits (prompts_from seeds n s.source)
      | inr review ↦ absurd (elim review.results [
        | inl e ↦ elim which [ inl w ↦ cc | inr w ↦ cc ]
        | inr e ↦ elim which [ inl w ↦ cc | inr w ↦ cc ]
      ])
    ]

set_covers : (owns : Owns) (seeds : List (List ℕ)) (session n : ℕ) (body : List ℕ) (it : SetPlace) (f : Facts)
    (g : Granted) → resource_of f.subject ≡ resource.Set session n
    → (n / 100) ≡ session → Ok g ≡ decision (action_on_set (set_wish it)) f
    → g ≡ granted (action_on_set (set_wish it)) f → CoversAny g (set_change seeds session n body it)
set_covers owns seeds session n body (in_set.Submit (Some s)) f g names fits decided is =
    submission_covers owns seeds session n body action.Submit f g (inl refl) names fits decided is s
set_covers owns seeds session n body (in_set.Resubmit (Some s)) f g names fits decided is =
    submission_covers owns seeds session n body action.Resubmit f g (inr refl) names fits decided is s
set_covers owns seeds session n body _ f g names fits decided is = tt

-- a registration
registration_covers : (of : RegistryOf) (u : ℕ) (object : Result KeptObject Rule) (asked : Grounds) (f : Facts)
    (g : Granted) → f.subject ≡ subject.Account
    → is_of_registry (in_registry.New of object asked) ≡ true → first_broken (requested_conditions object asked) ≡ None
    → u ≡ account_of_claims (claims_of f.token)
    → g ≡ granted (new_action of) f → CoversAny g (object_change u object asked)
unfolding granted
registration_covers of u (Err broken) asked f g on kind own acts is = tt
registration_covers of u (Ok object) asked f g on kind own acts is =
    registration_covered of u object asked g kind (ap (λ x. x.action) is) (rw (is, on) refl) (rw (is, on, acts) refl)
    (few_asked asked own)

-- a certification
certify_covers : (owns : Owns) (u n : ℕ) (parts : Result CertifyBody Rule) (asked : Grounds) (f : Facts) (g : Granted)
    → resource_of f.subject ≡ resource.Session n
    → first_broken (requested_conditions parts asked) ≡ None → u ≡ account_of_claims (claims_of f.token)
    → Ok g ≡ decision action.Certify f → g ≡ granted action.Certify f
    → CoversAny g (certification_change u n parts asked)
unfolding granted
certify_covers owns u n (Err broken) asked f g names own acts decided is = tt
certify_covers owns u n (Ok parts) asked f g names own acts decided is =
    let on_it : g.resource ≡ resource.Session n = rw is names in
    elim (owns action.Certify f g (sym decided) n (rw on_it refl)) [
      | inl mine ↦ certification_covered u n parts asked g (ap (λ x. x.action) is) on_it
          (sym mine ∙ certification_owned f n names (through action.Certify f g decided) ∙ sym acts) (sym mine)
          (few_asked asked own)
      | inr review ↦ absurd (elim review.results [ inl e ↦ cc | inr e ↦ cc ])
    ]

-- the number of a set that is there names its session
fits_there : (session n : ℕ) (found : Option SetFacts) → is_some found ≡ true
    → (not (is_some found) || ((n / 100) == session)) ≡ true → (n / 100) ≡ session
fits_there session n found there within =
    let same : ((n / 100) == session) ≡ true = rw there at within in
    grind (arith, nat_tests, same)

place_covers : (owns : Owns) (keys : Keys) (moment u : ℕ) (body : List ℕ) (it : Place) (f : Facts) (g : Granted)
    → f.subject ≡ subject_at it → is_within it ≡ true
    → first_broken (place_conditions keys.seed body it) ≡ None → u ≡ account_of_claims (claims_of f.token)
    → Ok g ≡ decision (action_at it) f → g ≡ granted (action_at it) f
    → CoversAny g (place_change keys.seed moment u body it)
place_covers owns keys moment u body (place.Session n found it) f g on within own acts decided is =
    session_covers owns n body it f g (ap resource_of on) decided is
place_covers owns keys moment u body (place.Reviewer n m found accounts) f g on within own acts decided is =
    reviewer_covers owns n m f g (ap resource_of on) decided is
place_covers owns keys moment u body (place.NewSession sessions) f g on within own acts decided is =
    new_covers keys.seed moment u sessions body f g on own acts is
place_covers owns keys moment u body (place.Set session n found it) f g on within own acts decided is =
    let there : is_some found ≡ true =
    rw on at (set_there (set_wish it) f (through (action_on_set (set_wish it)) f g decided)) in
    set_covers owns keys.seed session n body it f g (ap resource_of on)
    (fits_there session n found there within) decided is
place_covers owns keys moment u body (place.CancelSet session n found sets) f g on within own acts decided is =
    let there : is_some found ≡ true = rw on at (cancelled_there f (through action.CancelSet f g decided)) in
    cancel_covers owns session n sets f g (ap resource_of on) (fits_there session n found there within) decided is
place_covers owns keys moment u body (place.Certify n found parts asked) f g on within own acts decided is =
    certify_covers owns u n parts asked f g (ap resource_of on) own acts decided is
place_covers owns keys moment u body
    (place.Registry (in_registry.New of object asked)) f g on within own acts decided is =
    registration_covers of u object asked f g on within own acts is
place_covers owns keys moment u body _ f g on within own acts decided is = tt

pub covers : (owns : Owns) (keys : Keys) (moment : ℕ) (body : List ℕ) (it : Found) (g : Granted) → is_fit it ≡ true
    → first_broken (own_conditions keys.seed body it) ≡ None → Ok g ≡ decision (action_in it) (facts_in moment it)
    → g ≡ granted (action_in it) (facts_in moment it)
    → CoversAny g (change_of keys moment body it)
covers owns keys moment body (found.Login login account) g fit own decided is =
    rw is (login_covers moment login account)
covers owns keys moment body (found.Caller it) g fit own decided is =
    place_covers owns keys moment (account_of_claims (claims_of it.token)) body it.place
    (facts_in moment (found.Caller it)) g refl fit own refl decided is

pub covered_by : (owns : Owns) (keys : Keys) (moment : ℕ) (body : List ℕ) (it : Found) (a : Action) (f : Facts)
    (g : Granted) (made : Option Change)
    → is_fit it ≡ true → first_broken (own_conditions keys.seed body it) ≡ None → a ≡ action_in it
    → f ≡ facts_in moment it → Ok g ≡ decision a f → g ≡ granted a f
    → made ≡ change_of keys moment body it → CoversAny g made
covered_by owns keys moment body it a f g made fit own a_is f_is decided is makes =
    rw makes (covers owns keys moment body it g fit own (rw (← a_is, ← f_is) decided) (rw (← a_is, ← f_is) is))
