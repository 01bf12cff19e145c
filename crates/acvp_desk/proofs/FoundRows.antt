-- What is found is what the records hold; and what a caller is refused, whatever is found.
use Rattle.std.proofs.Common.{◌≡◌, ℕ, List, map, Bool, ◌&&◌, ◌==◌, nat_le, Option, None, Some, refl, sym, ap, ◌∙◌, ◌≤◌}
use Rattle.std.proofs.Common.{zero, suc, length, [], ◌∷◌, arith}
use Rattle.std.specs.Prelude.{take, option_map, option_and_then, is_none, true, false, Result, Ok, Err, IfOk}
use Rattle.acvp_mac.specs.Conditions.{first_broken}
use Rattle.acvp_policy.specs.Callers.{AgreeOnCaller}
use Rattle.acvp_policy.specs.Conditions.{claims_of}
use Rattle.acvp_policy.specs.Decision.{decision, account_of_claims}
use Rattle.acvp_policy.specs.Policy.{claims_conditions}
use Rattle.acvp_policy.specs.Resource.{resource_of}
use Rattle.acvp_policy.specs.Scope.{scope_of}
use Rattle.acvp_policy.specs.declared.action.Action.{Action}
use Rattle.acvp_policy.specs.declared.facts.Facts.{Facts}
use Rattle.acvp_policy.specs.declared.rule.Rule.{Rule}
use Rattle.acvp_policy.specs.declared.facts.Token.TheVariants as token
use Rattle.acvp_token.specs.declared.Claims.{Claims}
use Rattle.acvp_policy.specs.declared.facts.CertificationStatus.{CertificationStatus}
use Rattle.acvp_policy.specs.declared.facts.SessionFacts.{SessionFacts}
use Rattle.acvp_tables.specs.State.{State, state_of, session_record, set_record, SetRecord, session_record_at}
use Rattle.acvp_tables.specs.State.{live_records}
use Rattle.acvp_tables.specs.declared.rows.SessionRow.{SessionRow}
use Rattle.acvp_tables.specs.declared.rows.SetRow.{SetRow}
use Rattle.acvp_tables.specs.declared.summary.SetSummary.{SetSummary}
use Rattle.acvp_tables.specs.Content.{Content, live_sets, session_at, account_at, set_summary}
use Rattle.acvp_tables.specs.declared.rows.AccountRow.{AccountRow}
use Rattle.acvp_desk.specs.Answer.{account_found, action_of, facts_in, facts_on_caller, found_of, policy_conditions}
use Rattle.acvp_desk.specs.Answer.{is_reviewing, standing_of, who}
use Rattle.acvp_desk.specs.Kept.{IsKept}
use Rattle.acvp_desk.specs.Place.{reviewed, action_at, certification_of, place_of, session_facts, set_numbers}
use Rattle.acvp_desk.specs.Place.{set_outcome, set_outcomes, subject_at, wish_at}
use Rattle.acvp_desk.specs.Private.Admitted.{IsAdmitted}
use Rattle.acvp_desk.specs.declared.ask.Asker.{Asker}
use Rattle.acvp_desk.specs.declared.ask.Asker.TheVariants.{Login, Caller}
use Rattle.acvp_desk.specs.declared.ask.LoginAsk.{LoginAsk}
use Rattle.acvp_desk.specs.declared.found.Found.TheVariants as found
use Rattle.acvp_desk.specs.declared.found.Place.{Place}
use Rattle.acvp_desk.specs.declared.wish.CallerAsk.{CallerAsk}
use Rattle.acvp_desk.specs.Wish.{action_of_wish}
use Rattle.acvp_desk.proofs.Decision.{denied_by}
use Rattle.acvp_desk.specs.declared.found.SetOutcome.{SetOutcome}
use Rattle.acvp_desk.specs.Private.Unfound.{unfound, unfound_facts}
use Rattle.acvp_desk.proofs.PassedSession.{counters_tell, outcome_of, outcomes_among}
use Rattle.acvp_desk.proofs.Wishes.{action_asked, place_names, wish_names}

module _ (follows : (n : ℕ) (c : Content)
    → session_record_at n (state_of c).sessions ≡ option_map session_record (session_at n c.sessions))
    (sets : (s : ℕ) (c : Content) → live_records s (state_of c).sets ≡ map set_record (live_sets s c.sets)) where
  pub session_stands : (seeds : List (List ℕ)) (c : Content) (n : ℕ) (row : SessionRow)
      (certification : Option CertificationStatus) (found : SessionFacts) → IsKept seeds c
      → session_at n c.sessions ≡ Some row → certification ≡ certification_of row.last_request (state_of c).requests
      → found ≡ (record {
        cancelled = row.cancelled;
        created = row.created;
        sample = row.sample;
        certification =
            certification;
        passed = nat_le 1 row.live && (row.passed == row.live);
      })
      → Some found ≡ session_facts seeds (state_of c) n
  unfolding session_facts
  session_stands seeds c n row certification found kept there certified is =
      rw (follows n c, there, is, certified, counters_tell sets seeds c n row kept there) refl

-- ---- vector sets

pub all_taken : {X : Type 0} (i : ℕ) (xs : List X) → length xs ≤ i → take i xs ≡ xs
all_taken i [] short = go i
  where
    go : {X : Type 0} (i : ℕ) → take {A = X} i [] ≡ []
    go zero = refl
    go (suc i) = refl
all_taken zero (x ∷ xs) short = absurd (omega (arith, short))
all_taken (suc i) (x ∷ xs) short = ap (λ rest. x ∷ rest) (all_taken i xs (omega (arith, short)))

same_numbered : (rows : List SetRow) → map (λ (row : SetSummary). row.number) (map set_summary rows)
    ≡ map (λ (row : SetRecord). row.number) (map set_record rows)
same_numbered [] = refl
same_numbered (row ∷ rows) = ap (λ rest. row.number ∷ rest) (same_numbered rows)

pub numbers_of_sets : (sets : (s : ℕ) (c : Content)
    → live_records s (state_of c).sets ≡ map set_record (live_sets s c.sets))
    → (c : Content) (n i : ℕ) (found : List SetSummary) (numbers : List ℕ)
    → numbers ≡ map (λ row. row.number) (take i found) → length found ≤ i
    → found ≡ map set_summary (live_sets n c.sets) → numbers ≡ set_numbers n (state_of c)
numbers_of_sets sets c n i found numbers are all is =
    are ∙ ap (map (λ row. row.number)) (all_taken i found all ∙ is) ∙ same_numbered (live_sets n c.sets)
    ∙ sym (ap (map (λ row. row.number)) (sets n c))

pub outcomes_of_sets : (sets : (s : ℕ) (c : Content)
    → live_records s (state_of c).sets ≡ map set_record (live_sets s c.sets))
    → (seeds : List (List ℕ)) (c : Content) (n i : ℕ) (found : List SetSummary) (outcomes : List SetOutcome)
    → IsKept seeds c
    → outcomes ≡ map outcome_of (take i found) → length found ≤ i → found ≡ map set_summary (live_sets n c.sets)
    → outcomes ≡ set_outcomes seeds n (state_of c)
outcomes_of_sets sets seeds c n i found outcomes kept are all is =
    are ∙ ap (map outcome_of) (all_taken i found all ∙ is) ∙ outcomes_among seeds n c.sets kept.graded
    ∙ sym (ap (map (set_outcome seeds)) (sets n c))

-- ---- the account

pub account_is : (it : Asker) (c : Content) (account : Option AccountRow) (number : Option ℕ) → number ≡ who it
    → account ≡ option_and_then (λ n. account_at n c.accounts) number → account ≡ account_found it (state_of c)
unfolding state_of
account_is it c account number is found = rw (← is) found

-- ---- the caller

pub if_ok : {X E : Type 0} {P Q : X → Type 0} (result : Result X E) → ((x : X) → P x → Q x) → IfOk result P
    → IfOk result Q
if_ok (Ok x) follows said = follows x said
if_ok (Err fault) follows said = tt

and_true : (b : Bool) → b ≡ (b && true)
and_true true = refl
and_true false = refl

pub reviewer_is : (it : Asker) (caller : CallerAsk) (claims : Claims) (reviews : Bool) (s : State) → it ≡ Caller caller
    → caller.token ≡ token.Verified claims
    → is_none claims.session ≡ true → reviews ≡ reviewed caller.wish claims.account s → reviews ≡ is_reviewing it s
reviewer_is it caller claims reviews s is verified unbound found =
    rw (is, verified, unbound) (found ∙ and_true (reviewed caller.wish claims.account s))

callers_agree : (moment : ℕ) (body : List ℕ) (it : Asker) (account : Option AccountRow) (reviewer : Bool)
    (seeds : List (List ℕ)) (s : State) → account ≡ account_found it s
    → reviewer ≡ is_reviewing it s
    → AgreeOnCaller (unfound_facts moment it account reviewer) (facts_in moment (found_of seeds body it s))
unfolding found_of
callers_agree moment body (Login login) account reviewer seeds s is reviews =
    record { token = refl; standing = refl; reviewer = refl; numbers = refl }
callers_agree moment body (Caller caller) account reviewer seeds s is reviews =
    record {
      token = refl;
      standing = ap standing_of is;
      reviewer = reviews;
      numbers =
          sym (wish_names seeds (account_of_claims (claims_of caller.token)) body s caller.wish);
    }

pub refused_caller : (moment : ℕ) (body : List ℕ) (it : Asker) (account : Option AccountRow) (reviewer : Bool)
    (seeds : List (List ℕ)) (s : State) (rule : Rule) (a : Action) (f : Facts)
    → account ≡ account_found it s → reviewer ≡ is_reviewing it s → a ≡ action_of it
    → f ≡ unfound_facts moment it account reviewer
    → ((found : Facts) → AgreeOnCaller f found → decision a found ≡ Err rule)
    → first_broken (policy_conditions moment (found_of seeds body it s)) ≡ Some rule
refused_caller moment body it account reviewer seeds s rule a f is reviews action facts refused =
    denied_by moment (found_of seeds body it s) a (facts_in moment (found_of seeds body it s)) rule
    (action ∙ sym (action_asked seeds body it s)) refl
    (sym (refused (facts_in moment (found_of seeds body it s))
    (rw facts (callers_agree moment body it account reviewer seeds s is reviews))))

-- ---- who is let through

agree_with : (moment : ℕ) (caller : CallerAsk) (account : Option AccountRow) (reviewer : Bool) (place : Place)
    → wish_at place ≡ caller.wish
    → AgreeOnCaller (unfound_facts moment (Caller caller) account reviewer)
    (facts_on_caller moment caller.token account reviewer (subject_at place))
agree_with moment caller account reviewer place asked =
    record {
      token = refl;
      standing = refl;
      reviewer = refl;
      numbers =
          sym (place_names place ∙ ap (λ w. resource_of (unfound w)) asked);
    }

-- whatever is found at the path
pub caller_admitted : (moment : ℕ) (it : Asker) (caller : CallerAsk) (a : Action) (f : Facts)
    (account : Option AccountRow) (reviewer : Bool) (place : Place)
    → it ≡ Caller caller → a ≡ action_of it → f ≡ unfound_facts moment it account reviewer → wish_at place ≡ caller.wish
    → ((found : Facts) → AgreeOnCaller f found → first_broken (claims_conditions (scope_of a) found) ≡ None)
    → IsAdmitted moment (found.Caller
    (record { token = caller.token; account = account; reviewer = reviewer; place = place }))
caller_admitted moment it caller a f account reviewer place is action facts asked lets =
    let g = facts_on_caller moment caller.token account reviewer (subject_at place) in
    let agree : AgreeOnCaller f (facts_on_caller moment caller.token account reviewer (subject_at place)) =
    rw (facts, is) (agree_with moment caller account reviewer place asked) in
    let none : first_broken (claims_conditions (scope_of a)
    (facts_on_caller moment caller.token account reviewer (subject_at place))) ≡ None = lets g agree in
    let same : a ≡ action_at place = action ∙ ap action_of is ∙ ap action_of_wish (sym asked) in
    rw (← same) none

-- ---- what is found

pub login_found : (it : Asker) (login : LoginAsk) (account : Option AccountRow) (seeds : List (List ℕ)) (body : List ℕ)
    (s : State) → it ≡ Login login
    → account ≡ account_found it s → found.Login login account ≡ found_of seeds body it s
unfolding found_of
login_found it login account seeds body s is account_is = rw (account_is, is) refl

pub caller_found : (it : Asker) (caller : CallerAsk) (account : Option AccountRow) (reviewer : Bool) (place : Place)
    (u : ℕ) (seeds : List (List ℕ)) (body : List ℕ) (s : State) → it ≡ Caller caller
    → u ≡ account_of_claims (claims_of caller.token) → account ≡ account_found it s → reviewer ≡ is_reviewing it s
    → place ≡ place_of seeds u body s caller.wish
    → found.Caller (record { token = caller.token; account = account; reviewer = reviewer; place = place })
    ≡ found_of seeds body it s
unfolding found_of
caller_found it caller account reviewer place u seeds body s is acts account_is reviews found =
    rw (found, acts, account_is, reviews, is) refl
