-- An account that isn't there may be added.
use Rattle.std.proofs.Common.{◌≡◌, ℕ, Bool, true, false, List, [], ◌∷◌, None, refl, sym, subst}
use Rattle.std.specs.Prelude.{filter, ◌==◌}
use Rattle.acvp_tables.specs.Content.{Content, account_at}
use Rattle.acvp_tables.specs.State.{own, state_of, is_account_row, AreWellNumbered, IsWellNumbered}
use Rattle.acvp_tables.specs.Changes.{after_order, new_account}
use Rattle.acvp_tables.specs.declared.rows.AccountRow.{AccountRow}
use Rattle.acvp_tables.specs.declared.change.NewAccount.{NewAccount}
use Rattle.acvp_tables.specs.declared.change.OrderChange.TheVariants.{AddAccount}
use Rattle.acvp_tables.proofs.Follows.{order_follows}
use Rattle.acvp_tables.proofs.NumbersKept.{well_ordered}

none_kept : (n : ℕ) (rows : List AccountRow) → account_at n rows ≡ None → filter (λ row. row.number == n) rows ≡ []
none_kept n [] none = refl
none_kept n (r ∷ rows) none = go (r.number == n) refl (none_kept n rows)
  where
    go : (b : Bool) → (r.number == n) ≡ b → (account_at n rows ≡ None → filter (λ row. row.number == n) rows ≡ [])
        → filter (λ row. row.number == n) (r ∷ rows) ≡ []
    go true e later = absurd (let f = rw e at none in cc)
    go false e later = rw e (later (rw e at none))

own_none : (a : NewAccount) (c : Content) → account_at a.account c.accounts ≡ None
    → (own a.account (state_of c)).accounts ≡ []
unfolding own state_of
own_none a c none = none_kept a.account c.accounts none

pub added_sound : (a : NewAccount) (c : Content) → AreWellNumbered c → is_account_row (new_account a) ≡ true
    → account_at a.account c.accounts ≡ None
    → AreWellNumbered (after_order (AddAccount a) c)
added_sound a c sound fine none = subst (λ s. IsWellNumbered s) (sym (order_follows c (AddAccount a)))
    (well_ordered (AddAccount a) (state_of c) sound (own_none a c none, fine))
