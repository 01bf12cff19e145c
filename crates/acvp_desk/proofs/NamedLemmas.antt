-- Which account is named when a request ends.
use Rattle.std.proofs.Common.{◌≡◌, ◌⊎◌, inl, inr, ℕ, Bool, true, false, Option, None, Some, refl, sym, ap, ◌∙◌}
use Rattle.std.specs.Prelude.{[], ◌∷◌, if◌then◌else◌, is_some, nat_lt, option_map, option_and_then}
use Rattle.acvp_mac.specs.Conditions.{first_broken}
use Rattle.acvp_policy.specs.declared.rule.Rule.{Rule}
use Rattle.acvp_policy.specs.declared.rule.Rule.TheVariants as rule
use Rattle.acvp_desk.specs.Answer.{end_of_moments, first_conditions, first_conditions_on, asker_of, asker_on, who, who_of}
use Rattle.acvp_desk.specs.Login.{login_ask_at}
use Rattle.acvp_desk.specs.Named.{verified_account, verified_of}
use Rattle.acvp_desk.specs.Request.{RequestValue}
use Rattle.acvp_desk.specs.declared.ask.Asker.{Asker}
use Rattle.acvp_desk.specs.declared.ask.Asker.TheVariants as ask
use Rattle.acvp_desk.specs.declared.ask.LoginAsk.{LoginAsk}
use Rattle.acvp_desk.specs.declared.keys.Keys.{Keys}
use Rattle.acvp_desk.specs.declared.request.Ask.{Ask}
use Rattle.acvp_desk.specs.declared.request.Ask.TheVariants as request
use Rattle.acvp_desk.proofs.FirstBroken.{back_held}

abbrev nobody : Option ℕ
nobody = None

login_unknown : (x : Option LoginAsk) → None ≡ option_and_then verified_account (option_map ask.Login x)
login_unknown None = refl
login_unknown (Some login) = refl

clock_alone : (b : Bool) (told : Rule) → first_broken ((b, rule.ClockOutOfRange) ∷ []) ≡ Some told
    → told ≡ rule.ClockOutOfRange
clock_alone true told e = absurd (cc)
clock_alone false told e = cc

first_on : {T : Type 0} (t : T) (a : Ask) (keys : Keys) (m : ℕ) (r : RequestValue) (told : Rule)
    → (told ≡ rule.Unavailable)
    ⊎ (first_broken ((nat_lt m end_of_moments, rule.ClockOutOfRange) ∷ first_conditions_on a r) ≡ Some told)
    → (None ≡ option_and_then verified_account (asker_on a keys m r))
    ⊎ ((nobody ≡ None) × (t ≡ t) × ((told ≡ rule.Unavailable) ⊎ (told ≡ rule.ClockOutOfRange)))
first_on t request.Login keys m r told why = inl (login_unknown (login_ask_at keys.token r.body))
first_on t (request.Caller it) keys m r told (inl e) = inr (refl, refl, inl e)
first_on t (request.Caller it) keys m r told (inr e) =
    inr (refl, refl, inr (clock_alone (nat_lt m end_of_moments) told e))

module _ (keys : Keys) (m : ℕ) (r : RequestValue) where
  -- nobody is known where nothing was looked at
  pub named_first : {T : Type 0} (t : T) (told : Rule)
      → (told ≡ rule.Unavailable) ⊎ (first_broken (first_conditions m r) ≡ Some told) → (None ≡ verified_of keys m r)
      ⊎ ((nobody ≡ None) × (t ≡ t) × ((told ≡ rule.Unavailable) ⊎ (told ≡ rule.ClockOutOfRange)))
  named_first t told why = first_on t r.ask keys m r told why

  module _ (it : Asker) (asked : asker_of keys m r ≡ Some it) where
    pub named_known : verified_account it ≡ verified_of keys m r
    named_known = sym (ap (option_and_then verified_account) asked)

    pub named_given : first_broken (first_conditions m r) ≡ None → who it ≡ who_of keys m r
    named_given held = sym (ap (option_and_then who) asked) ∙ go (first_broken (first_conditions_on r.ask r)) first
      where
        first : first_broken (first_conditions_on r.ask r) ≡ None
        first = back_held ((nat_lt m end_of_moments, rule.ClockOutOfRange) ∷ []) (first_conditions_on r.ask r) held

        go : (b : Option Rule) → b ≡ None → option_and_then who (asker_of keys m r)
            ≡ (if is_some b then None else option_and_then who (asker_of keys m r))
        go None e = refl
        go (Some refusal) e = absurd (cc)
