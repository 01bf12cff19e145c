-- A change keeps all accounts' rows well numbered.
use Rattle.std.proofs.Common.{◌≡◌, ◌≢◌, ℕ, inl, inr, sym, subst}
use Rattle.std.proofs.lemmas.Bool.Decides.{eqb_tells}
use Rattle.acvp_tables.specs.State.{State, own, owner_of, IsWellNumberedFor, IsWellNumbered}
use Rattle.acvp_tables.specs.StateChanges.{after_state, after_order_state}
use Rattle.acvp_tables.specs.Own.{account_of_change, account_of_order, Fits}
use Rattle.acvp_tables.specs.Next.{IsNext, IsNextFor, IsNextOrder, IsNextOrderFor}
use Rattle.acvp_tables.specs.declared.change.Change.{Change}
use Rattle.acvp_tables.specs.declared.change.Change.TheVariants as change
use Rattle.acvp_tables.specs.declared.change.OrderChange.{OrderChange}
use Rattle.acvp_tables.specs.declared.change.OrderChange.TheVariants as order
use Rattle.acvp_tables.proofs.Numbers.{keyed}
use Rattle.acvp_tables.proofs.OwnRows.{own_same, own_other, own_ordered, other_ordered}
use Rattle.acvp_tables.proofs.KeptRows.{well_step, well_disabled, well_added, well_answered, well_cancelled_set}
use Rattle.acvp_tables.proofs.KeptRows.{well_less_reviewer, well_reviewed}
use Rattle.acvp_tables.proofs.KeptRequests.{well_requested, well_approved, well_rejected}
use Rattle.acvp_tables.proofs.KeptSessions.{well_new_session, well_cancelled, well_certified}

-- the rows of the account that it is of
well_after : (it : Change) (mine : State) → IsWellNumberedFor (account_of_change it) mine → Fits it → IsNextFor mine it
    → IsWellNumberedFor (account_of_change it) (after_state it mine)
well_after (change.UseStep x) mine well fits next = well_step x.account x mine well
well_after (change.NewSession s) mine well fits next = well_new_session s mine well next
well_after (change.KeepAnswers k) mine well fits next = well_answered (owner_of k.session) k mine well
well_after (change.CancelSession n) mine well fits next = well_cancelled (owner_of n) n mine well
well_after (change.CancelSet x) mine well fits next = well_cancelled_set (owner_of x.session) x mine well
well_after (change.NewRequest r) mine well fits next = well_requested r mine well next
well_after (change.Certify c) mine well fits next = rw (← fits.0) (well_certified c mine (rw (← fits.0) at well) next)
well_after (change.AddReviewer r) mine well fits next = well_reviewed (owner_of r.session) r mine well next
well_after (change.RemoveReviewer r) mine well fits next = well_less_reviewer (owner_of r.session) r mine well

well_after_order : (it : OrderChange) (mine : State) → IsWellNumberedFor (account_of_order it) mine
    → IsNextOrderFor mine it
    → IsWellNumberedFor (account_of_order it) (after_order_state it mine)
well_after_order (order.AddAccount a) mine well next = well_added a mine well next
well_after_order (order.DisableAccount n) mine well next = well_disabled n n mine well
well_after_order (order.Approve a) mine well next = well_approved a mine well next
well_after_order (order.Reject n) mine well next = well_rejected (owner_of n) n mine well next

-- and those of each other account, which stay
every : (u : ℕ) (old new : State) → IsWellNumberedFor u (own u new) → ((v : ℕ) → u ≢ v → own v new ≡ own v old)
    → ((v : ℕ) → IsWellNumberedFor v (own v old))
    → (v : ℕ) → IsWellNumberedFor v (own v new)
every u old new its others well v = elim (eqb_tells u v) [
  | inl e ↦ subst (λ v. IsWellNumberedFor v (own v new)) e.1 its
  | inr d ↦ subst (λ mine. IsWellNumberedFor v mine) (sym (others v d.1)) (well v)
]

pub well_changed : (it : Change) (state : State) → IsWellNumbered state → IsNext state it
    → IsWellNumbered (after_state it state)
unfolding IsWellNumbered
well_changed it state well next =
    let its : IsWellNumberedFor (account_of_change it) (after_state it (own (account_of_change it) state))
    = well_after it (own (account_of_change it) state) (well (account_of_change it)) next.0 next.1 in
    every (account_of_change it) state (after_state it state)
    (subst (λ mine. IsWellNumberedFor (account_of_change it) mine) (sym (own_same it state next.0)) its)
    (λ v apart. own_other v it state apart (keyed state well) next.0) well

pub well_ordered : (it : OrderChange) (state : State) → IsWellNumbered state → IsNextOrder state it
    → IsWellNumbered (after_order_state it state)
unfolding IsWellNumbered
well_ordered it state well next =
    let its : IsWellNumberedFor (account_of_order it) (after_order_state it (own (account_of_order it) state))
    = well_after_order it (own (account_of_order it) state) (well (account_of_order it)) next in
    every (account_of_order it) state (after_order_state it state)
    (subst (λ mine. IsWellNumberedFor (account_of_order it) mine) (sym (own_ordered it state (keyed state well))) its)
    (λ v apart. other_ordered v it state apart (keyed state well)) well
