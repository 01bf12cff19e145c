-- A caller that is let through has an account, whose row was looked up.
use Rattle.std.proofs.Common.{◌≡◌, ◌⊎◌, ℕ, List, [], ◌∷◌, ◌++◌, Bool, true, Option, None, Some, Result, Ok, inl, inr}
use Rattle.std.proofs.Common.{refl, sym, ◌∙◌}
use Rattle.std.specs.Prelude.{IfSome, if◌then◌else◌}
use Rattle.acvp_mac.specs.Conditions.{first_broken, judged}
use Rattle.acvp_policy.specs.Conditions.{is_enabled, token_there, token_shaped, token_signed, token_read, token_lasts}
use Rattle.acvp_policy.specs.Conditions.{account_enabled, without_session, is_reviewer}
use Rattle.acvp_policy.specs.Policy.{caller_conditions, session_conditions, claims_conditions}
use Rattle.acvp_policy.specs.Scope.{scope_of}
use Rattle.acvp_policy.specs.declared.action.Action.{Action}
use Rattle.acvp_policy.specs.declared.action.Scope.{Scope}
use Rattle.acvp_policy.specs.declared.action.Scope.TheVariants as scope
use Rattle.acvp_policy.specs.declared.facts.Facts.{Facts}
use Rattle.acvp_policy.specs.declared.rule.Rule.{Rule}
use Rattle.acvp_policy.specs.declared.rule.Rule.TheVariants as rule
use Rattle.acvp_tables.specs.declared.rows.AccountRow.{AccountRow}
use Rattle.acvp_desk.specs.Answer.{action_of, standing_of}
use Rattle.acvp_desk.specs.Private.Changeable.{IfChangeable}
use Rattle.acvp_desk.specs.Wish.{action_of_wish}
use Rattle.acvp_desk.specs.declared.ask.Asker.{Asker}
use Rattle.acvp_desk.specs.declared.ask.Asker.TheVariants.{Caller}
use Rattle.acvp_desk.specs.declared.ask.LoginAsk.{LoginAsk}
use Rattle.acvp_desk.specs.declared.found.Found.TheVariants as found
use Rattle.acvp_desk.specs.declared.wish.AccountWish.TheVariants as on_account
use Rattle.acvp_desk.specs.declared.wish.CallerAsk.{CallerAsk}
use Rattle.acvp_desk.specs.declared.wish.Registry.TheVariants as registry
use Rattle.acvp_desk.specs.declared.wish.RegistryWish.TheVariants as on_registry
use Rattle.acvp_desk.specs.declared.wish.SessionWish.TheVariants as on_session
use Rattle.acvp_desk.specs.declared.wish.SetWish.TheVariants as on_set
use Rattle.acvp_desk.specs.declared.wish.Wish.{Wish}
use Rattle.acvp_desk.specs.declared.wish.Wish.TheVariants.{Account, Session, Set, Registry}
use Rattle.acvp_desk.specs.Private.Unfound.{unfound_facts}
use Rattle.acvp_desk.proofs.FirstBroken.{first_held, back_held, held}

caller_enabled : (f : Facts) (rest : List (Bool × Rule)) → first_broken (caller_conditions f ++ rest) ≡ None
    → is_enabled f.standing ≡ true
caller_enabled f rest e = first_held (is_enabled f.standing) rule.AccountRefused rest
    (back_held (token_there f ∷ token_shaped f ∷ token_signed f ∷ token_read f ∷ token_lasts f ∷ [])
    (account_enabled f ∷ rest) e)

admitted_enabled : (s : Scope) (f : Facts) → first_broken (claims_conditions s f) ≡ None → (s ≡ scope.Login)
    ⊎ (is_enabled f.standing ≡ true)
admitted_enabled scope.Login f e = inl refl
admitted_enabled scope.AccountRead f e = inr (caller_enabled f [] e)
admitted_enabled scope.AccountChange f e = inr (caller_enabled f (without_session f ∷ []) e)
admitted_enabled scope.SessionResource f e = inr (caller_enabled f (session_conditions f) e)
admitted_enabled scope.ReviewableResource f e =
    inr (caller_enabled f (if is_reviewer f then [] else session_conditions f) e)

pub no_login : (it : Wish) → scope_of (action_of_wish it) ≡ scope.Login → ⊥
no_login (Account on_account.Read) e = cc
no_login (Session n on_session.Read) e = cc
no_login (Set session n on_set.Read) e = cc
no_login (Registry (on_registry.Read registry.Vendors n)) e = cc
no_login (Registry (on_registry.New registry.Vendors)) e = cc
no_login (Registry (on_registry.List registry.Vendors page)) e = cc
no_login _ e = cc

enabled_row : (account : Option AccountRow) (P : Type 0) → is_enabled (standing_of account) ≡ true
    → IfSome account (λ _. P) → P
enabled_row None P e if_some = absurd (cc)
enabled_row (Some row) P e if_some = if_some

-- so what holds of a row that was found holds of it
pub row_is_there : (moment : ℕ) (it : Asker) (caller : CallerAsk) (a : Action) (f : Facts) (account : Option AccountRow)
    (reviewer : Bool) (result : Result (Unit {0}) Rule) (P : Type 0) → it ≡ Caller caller
    → a ≡ action_of it → f ≡ unfound_facts moment it account reviewer
    → result ≡ judged (claims_conditions (scope_of a) f) tt → result ≡ Ok tt → IfSome account (λ _. P) → P
row_is_there moment it caller a f account reviewer result P is action facts judges ok if_some =
    let none : first_broken (claims_conditions (scope_of (action_of_wish caller.wish))
    (unfound_facts moment (Caller caller) account reviewer)) ≡ None =
    held (claims_conditions (scope_of (action_of_wish caller.wish))
    (unfound_facts moment (Caller caller) account reviewer)) tt tt (rw (action, facts, is) at (sym judges ∙ ok)) in
    elim (admitted_enabled (scope_of (action_of_wish caller.wish))
    (unfound_facts moment (Caller caller) account reviewer) none) [
      | inl login ↦ absurd (no_login caller.wish login)
      | inr enabled ↦ enabled_row account P enabled if_some
    ]

-- ---- where a change can be made

pub login_changes : (login : LoginAsk) (account : Option AccountRow) (P Q : Type 0) → (P → Q) → IfSome account (λ _. P)
    → IfChangeable (found.Login login account) Q
login_changes login None P Q so said = tt
login_changes login (Some row) P Q so said = so said
