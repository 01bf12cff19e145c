-- A request changes the rows of the account that it is of, and makes of them what it makes of them alone.
use Rattle.std.proofs.Common.{◌≡◌, ◌≢◌, ℕ, ◌/◌, List, [], ◌∷◌, ◌++◌, Bool, true, false, ◌&&◌, ◌==◌, Option, None, Some}
use Rattle.std.proofs.Common.{Result, Ok, Err, refl, sym, ap, ◌∙◌, arith}
use Rattle.std.specs.Prelude.{option_and_then, option_map, if◌then◌else◌}
use Rattle.std.proofs.lemmas.Bool.Decides.{nat_tests}
use Rattle.acvp_json.specs.Data.{Data}
use Rattle.acvp_mac.specs.Conditions.{first_broken, judged, unless}
use Rattle.acvp_policy.specs.Decision.{account_of, decision, granted}
use Rattle.acvp_policy.specs.Granted.{Granted}
use Rattle.acvp_policy.specs.Policy.{policy}
use Rattle.acvp_policy.specs.declared.action.Action.{Action}
use Rattle.acvp_policy.specs.declared.facts.Facts.{Facts}
use Rattle.acvp_policy.specs.declared.rule.Rule.{Rule}
use Rattle.acvp_tables.specs.Content.{account_at, is_reviewer}
use Rattle.acvp_tables.specs.Covers.{Covers}
use Rattle.acvp_tables.specs.Own.{account_of_change, Fits}
use Rattle.acvp_tables.specs.State.{State, SetRecord, own, owner_of, set_record_at, IsWellNumbered}
use Rattle.acvp_tables.specs.StateChanges.{after_state}
use Rattle.acvp_tables.specs.declared.change.Change.{Change}
use Rattle.acvp_tables.specs.declared.change.Change.TheVariants as change
use Rattle.acvp_tables.specs.declared.rows.AccountRow.{AccountRow}
use Rattle.acvp_desk.specs.Answer.{accepted_change, account_found, action_in, answer, asker_of, change_by, change_of}
use Rattle.acvp_desk.specs.Answer.{change_on, effect, facts_in, first_conditions, first_conditions_on, found_of}
use Rattle.acvp_desk.specs.Answer.{later_conditions, later_of, own_conditions, policy_conditions, reply_to, state_after}
use Rattle.acvp_desk.specs.Answer.{who, who_of}
use Rattle.acvp_desk.specs.Isolation.{is_who, own_after_request}
use Rattle.acvp_desk.specs.Login.{login_step}
use Rattle.acvp_desk.specs.Request.{RequestValue}
use Rattle.acvp_desk.specs.declared.ask.Asker.{Asker}
use Rattle.acvp_desk.specs.declared.ask.Asker.TheVariants.{Login, Caller}
use Rattle.acvp_desk.specs.declared.ask.LoginAsk.{LoginAsk}
use Rattle.acvp_desk.specs.declared.keys.Keys.{Keys}
use Rattle.acvp_desk.specs.declared.wish.CallerAsk.{CallerAsk}
use Rattle.acvp_desk.proofs.Decision.{Owns, covers}
use Rattle.acvp_desk.proofs.FirstBroken.{back_held, held, whole_held}
use Rattle.acvp_desk.proofs.Nobody.{nothing_changed}
use Rattle.acvp_desk.proofs.OwnAnswer.{acts_as, asked_by}
use Rattle.acvp_desk.proofs.Wishes.{found_fits}

-- ---- what is accepted

accepted : (reply : Result (Option Data) Rule) (made : Option Change) (it : Change) → change_on reply made ≡ Some it
    → (shown : Option Data) × (reply ≡ Ok shown) × (made ≡ Some it)
accepted (Ok shown) made it is = (shown, refl, is)
accepted (Err refusal) made it is = absurd (cc)

decided_by : (a : Action) (f : Facts) → first_broken (policy a f) ≡ None → Ok (granted a f) ≡ decision a f
unfolding decision
decided_by a f none = sym (ap (λ b. unless b (granted a f)) none)

granted_account : (a : Action) (f : Facts) → (granted a f).account ≡ account_of f
unfolding granted
granted_account a f = refl

-- ---- a login

account_number_of : (u : ℕ) (rows : List AccountRow) (row : AccountRow) → account_at u rows ≡ Some row → row.number ≡ u
account_number_of u [] row is = absurd (cc)
account_number_of u (first ∷ rows) row is = go (first.number == u) refl (account_number_of u rows row)
  where
    go : (b : Bool) → (first.number == u) ≡ b → (account_at u rows ≡ Some row → row.number ≡ u) → row.number ≡ u
    go true e later = let here : Some first ≡ Some row = rw e at is in let same : first ≡ row = cc (here) in
        rw (← same) (grind (arith, nat_tests, e))
    go false e later = later (rw e at is)

login_made : (moment : ℕ) (login : LoginAsk) (u : ℕ) (account : Option AccountRow) (made : Change)
    → ((row : AccountRow) → account ≡ Some row → row.number ≡ u)
    → option_and_then (λ row. option_map (λ step. change.UseStep (record { account = row.number; step = step }))
    (login_step moment login row)) account ≡ Some made
    → (account_of_change made ≡ u) × Fits made
login_made moment login u None made number is = absurd (cc)
login_made moment login u (Some row) made number is = go (login_step moment login row) is
  where
    go : (step : Option ℕ) → option_map (λ step. change.UseStep (record { account = row.number; step = step })) step
        ≡ Some made → (account_of_change made ≡ u) × Fits made
    go None is = absurd (cc)
    go (Some step) is = let same : change.UseStep (record { account = row.number; step = step }) ≡ made = cc (is) in
        rw (← same) (number row refl, tt)

module _ (owns : Owns)
    (grants_name : (g : Granted) (it : Change) → Covers g it → account_of_change it ≡ g.account)
    (reviews : (u s a : ℕ) (state : State)
    → is_reviewer s a (own u state).reviewers ≡ ((owner_of s == u) && is_reviewer s a state.reviewers))
    (set_names : (n : ℕ) (state : State) (row : SetRecord) → IsWellNumbered state
    → set_record_at n state.sets ≡ Some row → row.session ≡ n / 100) where
  caller_made : (keys : Keys) (moment : ℕ) (r : RequestValue) (caller : CallerAsk) (u : ℕ) (state : State)
      (made : Change) → IsWellNumbered state → who (Caller caller) ≡ Some u
      → first_broken (later_conditions keys.seed moment r.body (found_of keys.seed r.body (Caller caller) state)) ≡ None
      → change_of keys moment r.body (found_of keys.seed r.body (Caller caller) state) ≡ Some made
      → (account_of_change made ≡ u) × Fits made
  unfolding policy_conditions
  caller_made keys moment r caller u state made well named none makes =
      let found = found_of keys.seed r.body (Caller caller) state in
      let a = action_in found in
      let f = facts_in moment found in
      let front = policy_conditions moment found in
      let rest = own_conditions keys.seed r.body found in
      let fit = found_fits reviews set_names keys.seed r.body (Caller caller) state well in
      let covered = rw makes at (covers owns keys moment r.body found (granted a f) fit (back_held front rest none)
      (decided_by a f (whole_held front rest none)) refl) in (
        grants_name (granted a f) made covered.0 ∙ granted_account a f
            ∙ acts_as moment keys.seed r.body caller u state named,
        covered.1,
      )

  pub of_account : (keys : Keys) (moment : ℕ) (r : RequestValue) (u : ℕ) (state : State) (made : Change)
      → IsWellNumbered state → who_of keys moment r ≡ Some u
      → accepted_change keys moment r state ≡ Some made → (account_of_change made ≡ u) × Fits made
  unfolding accepted_change answer found_of
  of_account keys moment r u state made well is makes =
      go (asker_of keys moment r)
      (asked_by (first_broken (first_conditions_on r.ask r)) (option_and_then who (asker_of keys moment r)) u is)
      makes
    where
      go : (asked : Option Asker) → option_and_then who asked ≡ Some u
          → change_on (judged (first_conditions moment r ++ later_of keys.seed moment r asked state)
          (reply_to keys moment r asked state)) (change_by keys moment r asked state) ≡ Some made
          → (account_of_change made ≡ u) × Fits made
      go None named makes = absurd (cc)
      go (Some (Login login)) named makes =
          let ok = accepted (judged
          (first_conditions moment r ++ later_of keys.seed moment r (Some (Login login)) state)
          (reply_to keys moment r (Some (Login login)) state)) _ made makes in
          login_made moment login u (account_found (Login login) state) made
          (λ row found. account_number_of u state.accounts row (rw named at found)) ok.2
      go (Some (Caller caller)) named makes =
          let conditions = first_conditions moment r ++ later_of keys.seed moment r (Some (Caller caller)) state in
          let reply = reply_to keys moment r (Some (Caller caller)) state in
          let ok = accepted (judged conditions reply) _ made makes in
          caller_made keys moment r caller u state made well named
          (back_held (first_conditions moment r) (later_of keys.seed moment r (Some (Caller caller)) state)
          (held conditions reply ok.0 ok.1)) ok.2

-- ---- what it leaves

module _ (made_alike : (keys : Keys) (moment : ℕ) (r : RequestValue) (u : ℕ) (state : State) → IsWellNumbered state
    → who_of keys moment r ≡ Some u
    → accepted_change keys moment r (own u state) ≡ accepted_change keys moment r state)
    (of_account_told : (keys : Keys) (moment : ℕ) (r : RequestValue) (u : ℕ) (state : State) (made : Change)
    → IsWellNumbered state → who_of keys moment r ≡ Some u
    → accepted_change keys moment r state ≡ Some made → (account_of_change made ≡ u) × Fits made)
    (changed : (it : Change) (state : State) → Fits it
    → own (account_of_change it) (after_state it state) ≡ after_state it (own (account_of_change it) state))
    (others : (v : ℕ) (it : Change) (state : State) → account_of_change it ≢ v → IsWellNumbered state → Fits it
    → own v (after_state it state) ≡ own v state)
    (keys : Keys) (moment : ℕ) (r : RequestValue) (state : State) (well : IsWellNumbered state) where
  own_left : (u : ℕ) → who_of keys moment r ≡ Some u → (made : Option Change)
      → accepted_change keys moment r state ≡ made → own u (state_after made state) ≡ state_after made (own u state)
  own_left u is None none = refl
  own_left u is (Some it) makes =
      let told = of_account_told keys moment r u state it well is makes in
      rw (← told.0) (changed it state told.1)

  others_left : (v u : ℕ) → who_of keys moment r ≡ Some u → u ≢ v → (made : Option Change)
      → accepted_change keys moment r state ≡ made → own v (state_after made state) ≡ own v state
  others_left v u is apart None none = refl
  others_left v u is apart (Some it) makes =
      let told = of_account_told keys moment r u state it well is makes in
      others v it state (λ same. apart (sym told.0 ∙ same)) well told.1

  pub requests_apart : (v : ℕ) → own v (effect keys moment r state) ≡ own_after_request keys moment r v (own v state)
  requests_apart v = go (who_of keys moment r) refl
    where
      mine : (u : ℕ) → who_of keys moment r ≡ Some u
          → own u (effect keys moment r state) ≡ effect keys moment r (own u state)
      mine u is = own_left u is (accepted_change keys moment r state) refl
          ∙ sym (ap (λ made. state_after made (own u state)) (made_alike keys moment r u state well is))

      by : (u : ℕ) → who_of keys moment r ≡ Some u → (b : Bool) → (u == v) ≡ b
          → own v (effect keys moment r state) ≡ (if b then effect keys moment r (own v state) else own v state)
      by u is true e = let same : u ≡ v = grind (arith, nat_tests, e) in rw (← same) (mine u is)
      by u is false e = others_left v u is (λ same. grind (arith, nat_tests, e, same))
          (accepted_change keys moment r state) refl

      go : (w : Option ℕ) → who_of keys moment r ≡ w
          → own v (effect keys moment r state)
          ≡ (if is_who w v then effect keys moment r (own v state) else own v state)
      go None is = ap (own v) (nothing_changed keys moment r state is)
      go (Some u) is = by u is (u == v) refl
