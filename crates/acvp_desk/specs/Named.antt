-- The account that asked, as far as it is known.
use Rattle.std.specs.Prelude.{◌≡◌, ◌⊎◌, ℕ, Option, None, option_and_then, option_map, Result, Ok, Err}
use Rattle.acvp_policy.specs.Conditions.{claims_of}
use Rattle.acvp_policy.specs.declared.rule.Rule.{Rule}
use Rattle.acvp_policy.specs.declared.rule.Rule.TheVariants.{ClockOutOfRange, Unavailable}
use Rattle.acvp_desk.specs.Answer.{asker_of, who_of}
use Rattle.acvp_desk.specs.Request.{RequestValue}
use Rattle.acvp_desk.specs.declared.ask.Asker.{Asker}
use Rattle.acvp_desk.specs.declared.ask.Asker.TheVariants as ask
use Rattle.acvp_desk.specs.declared.keys.Keys.{Keys}

-- a caller is known by the claims of its token, which were verified; a login names an account that it may not be
abbrev pub verified_account : Asker → Option ℕ
verified_account (ask.Login login) = None
verified_account (ask.Caller caller) = option_map (λ claims. claims.account) (claims_of caller.token)

abbrev pub verified_of : Keys → ℕ → RequestValue → Option ℕ
verified_of keys moment r = option_and_then verified_account (asker_of keys moment r)

-- What is given is given to the account that the request is of. A denial names a caller that is known, and of a login
-- nobody. Where the clock is refused, or memory before the token is read, nobody is known, and the tables are left alone.
abbrev pub IsNamed : {X T : Type 0} → Result X Rule → T → T → Keys → ℕ → RequestValue → Option ℕ → Type 0
IsNamed (Ok given) old new keys moment r account = account ≡ who_of keys moment r
IsNamed (Err rule) old new keys moment r account = (account ≡ verified_of keys moment r)
    ⊎ ((account ≡ None) × (new ≡ old) × ((rule ≡ Unavailable) ⊎ (rule ≡ ClockOutOfRange)))
