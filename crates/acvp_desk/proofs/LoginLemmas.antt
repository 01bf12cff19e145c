-- What holds of a login that is allowed.
use Rattle.std.proofs.Common.{◌≡◌, ℕ, Bool, true, false, [], ◌∷◌, Option, None, Some}
use Rattle.std.specs.Prelude.{◌&&◌}
use Rattle.acvp_mac.specs.Conditions.{Condition, first_broken}
use Rattle.acvp_policy.specs.Policy.{policy}
use Rattle.acvp_tables.specs.declared.rows.AccountRow.{AccountRow}
use Rattle.acvp_policy.specs.declared.rule.Rule.{Rule}
use Rattle.acvp_policy.specs.declared.rule.Rule.TheVariants.{LoginRefused}
use Rattle.acvp_desk.specs.Answer.{policy_conditions}
use Rattle.acvp_desk.specs.Login.{login_step}
use Rattle.acvp_desk.specs.declared.ask.LoginAsk.{LoginAsk}
use Rattle.acvp_desk.specs.declared.found.Found.TheVariants.{Login}

-- without an account it isn't
pub needs_account : (moment : ℕ) (login : LoginAsk) (account : Option AccountRow)
    → first_broken (policy_conditions moment (Login login account)) ≡ None → account ≡ None → ⊥
unfolding policy_conditions policy
needs_account moment login account held none = absurd (let h = rw none at held in cc)

-- nor without a step whose code was given
pub needs_step : (moment : ℕ) (login : LoginAsk) (account : Option AccountRow) (row : AccountRow)
    → first_broken (policy_conditions moment (Login login account)) ≡ None → account ≡ Some row
    → login_step moment login row ≡ None → ⊥
unfolding policy_conditions policy
needs_step moment login account row held some none = go row.enabled _ (rw (some, none) at held)
  where
    go : (b : Bool) (other : Condition Rule) → first_broken {F = Rule} ((b && false, LoginRefused) ∷ other ∷ []) ≡ None
        → ⊥
    go true other h = absurd (cc)
    go false other h = absurd (cc)
