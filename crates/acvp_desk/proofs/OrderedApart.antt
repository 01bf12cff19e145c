-- What an order leaves of an account's rows depends on the order and on these rows alone.
use Rattle.std.proofs.Common.{◌≡◌, ◌≢◌, ℕ, Bool, true, false, ◌==◌, Option, None, Some, refl, sym, ap, ◌∙◌, arith}
use Rattle.std.specs.Prelude.{is_some, option_map, option_and_then, if◌then◌else◌}
use Rattle.std.proofs.lemmas.Bool.Decides.{nat_tests}
use Rattle.acvp_tables.specs.Content.{account_at, request_at, purpose_of}
use Rattle.acvp_tables.specs.Own.{account_of_order}
use Rattle.acvp_tables.specs.State.{State, own, owner_of, record_counts, IsWellNumbered}
use Rattle.acvp_tables.specs.StateChanges.{after_order_state}
use Rattle.acvp_tables.specs.declared.change.OrderChange.{OrderChange}
use Rattle.acvp_tables.specs.declared.change.OrderChange.TheVariants as change
use Rattle.acvp_tables.specs.declared.rows.RequestRow.{RequestRow}
use Rattle.acvp_tables.specs.declared.summary.RequestPurpose.{RequestPurpose}
use Rattle.acvp_tables.specs.declared.summary.RequestPurpose.TheVariants as asks
use Rattle.acvp_desk.specs.Isolation.{account_of_asked, own_after_order}
use Rattle.acvp_desk.specs.Orders.{approval, approved_as, has_account, if_initial, is_initial, order_change}
use Rattle.acvp_desk.specs.Orders.{order_effect, state_after_order, waiting_request}
use Rattle.acvp_desk.specs.declared.order.Order.{Order}
use Rattle.acvp_desk.specs.declared.order.Order.TheVariants as order

same_number : (n : ℕ) → (n == n) ≡ true
same_number n = grind (arith, nat_tests)

module _ (account_told : (u n : ℕ) (state : State)
    → account_at n (own u state).accounts ≡ (if n == u then account_at n state.accounts else None))
    (request_told : (u n : ℕ) (state : State) → IsWellNumbered state
    → request_at n (own u state).requests ≡ (if owner_of n == u then request_at n state.requests else None))
    (counts_told : (u : ℕ) (state : State) → record_counts u (own u state) ≡ record_counts u state)
    (request_names : (n : ℕ) (state : State) (row : RequestRow) → IsWellNumbered state
    → request_at n state.requests ≡ Some row → row.account ≡ owner_of n)
    (ordered : (it : OrderChange) (state : State) → IsWellNumbered state
    → own (account_of_order it) (after_order_state it state)
    ≡ after_order_state it (own (account_of_order it) state))
    (others : (v : ℕ) (it : OrderChange) (state : State) → account_of_order it ≢ v → IsWellNumbered state
    → own v (after_order_state it state) ≡ own v state) where
  -- ---- the change is told by the account's rows

  own_account : (u : ℕ) (state : State) → has_account u (own u state) ≡ has_account u state
  own_account u state = ap is_some (account_told u u state ∙ rw (same_number u) refl)

  own_waiting : (n : ℕ) (state : State) → IsWellNumbered state
      → waiting_request n (own (owner_of n) state) ≡ waiting_request n state
  own_waiting n state well =
      ap (option_and_then if_initial) (request_told (owner_of n) n state well ∙ rw (same_number (owner_of n)) refl)

  own_number : (u : ℕ) (state : State) (subject : RequestPurpose)
      → approved_as (own u state) u subject ≡ approved_as state u subject
  own_number u state (asks.Registration kind) = rw (counts_told u state) refl
  own_number u state (asks.Certification c) = refl

  -- of a row that waits
  waits : (found : Option RequestRow) (row : RequestRow) → option_and_then if_initial found ≡ Some row
      → found ≡ Some row
  waits None row is = absurd (cc)
  waits (Some other) row is = go (is_initial other.status) refl is
    where
      go : (b : Bool) → is_initial other.status ≡ b → option_and_then if_initial (Some other) ≡ Some row
          → Some other ≡ Some row
      go true e is = rw e at is
      go false e is = absurd (cc (e, is))

  own_approval : (n : ℕ) (state : State) → IsWellNumbered state → (waiting : Option RequestRow)
      → waiting_request n state ≡ waiting
      → option_map (approval (own (owner_of n) state) n) waiting ≡ option_map (approval state n) waiting
  own_approval n state well None is = refl
  own_approval n state well (Some row) is =
      let names : row.account ≡ owner_of n =
      request_names n state row well (waits (request_at n state.requests) row is) in
      rw (names, own_number (owner_of n) state (purpose_of row.body)) refl

  own_change : (it : Order) (state : State) → IsWellNumbered state
      → order_change it (own (account_of_asked it) state) ≡ order_change it state
  unfolding order_change
  own_change (order.AddAccount account secret) state well = rw (own_account account state) refl
  own_change (order.DisableAccount account) state well = rw (own_account account state) refl
  own_change (order.ApproveRequest n) state well =
      ap (option_map (approval (own (owner_of n) state) n)) (own_waiting n state well)
      ∙ own_approval n state well (waiting_request n state) refl
  own_change (order.RejectRequest n) state well =
      ap (option_map (λ (row : RequestRow). change.Reject n)) (own_waiting n state well)

  -- ---- it is of the account that the order is of

  of_some : (b : Bool) (made it : OrderChange) → (if b then Some made else None) ≡ Some it → made ≡ it
  of_some true made it is = cc (is)
  of_some false made it is = absurd (cc)

  of_none : (b : Bool) (made it : OrderChange) → (if b then None else Some made) ≡ Some it → made ≡ it
  of_none true made it is = absurd (cc)
  of_none false made it is = cc (is)

  change_is_of : (it : Order) (state : State) (made : OrderChange) → order_change it state ≡ Some made
      → account_of_order made ≡ account_of_asked it
  unfolding order_change
  change_is_of (order.AddAccount account secret) state made is =
      sym (ap account_of_order (of_none (has_account account state)
      (change.AddAccount (record { account = account; secret = secret })) made is))
  change_is_of (order.DisableAccount account) state made is =
      sym (ap account_of_order (of_some (has_account account state) (change.DisableAccount account) made is))
  change_is_of (order.ApproveRequest n) state made is = go (waiting_request n state) is
    where
      go : (waiting : Option RequestRow) → option_map (approval state n) waiting ≡ Some made
          → account_of_order made ≡ owner_of n
      go None is = absurd (cc)
      go (Some row) is = let same : approval state n row ≡ made = cc (is) in sym (ap account_of_order same)
  change_is_of (order.RejectRequest n) state made is = go (waiting_request n state) is
    where
      go : (waiting : Option RequestRow) → option_map (λ (row : RequestRow). change.Reject n) waiting ≡ Some made
          → account_of_order made ≡ owner_of n
      go None is = absurd (cc)
      go (Some row) is = let same : change.Reject n ≡ made = cc (is) in sym (ap account_of_order same)

  -- ---- what it leaves

  own_left : (it : Order) (state : State) → IsWellNumbered state → (made : Option OrderChange)
      → order_change it state ≡ made
      → own (account_of_asked it) (state_after_order made state)
      ≡ state_after_order made (own (account_of_asked it) state)
  own_left it state well None is = refl
  own_left it state well (Some made) is =
      let of : account_of_order made ≡ account_of_asked it = change_is_of it state made is in
      rw (← of) (ordered made state well)

  others_left : (u : ℕ) (it : Order) (state : State) → IsWellNumbered state → account_of_asked it ≢ u
      → (made : Option OrderChange) → order_change it state ≡ made
      → own u (state_after_order made state) ≡ own u state
  others_left u it state well apart None is = refl
  others_left u it state well apart (Some made) is =
      others u made state (λ same. apart (sym (change_is_of it state made is) ∙ same)) well

  pub ordered_apart : (u : ℕ) (it : Order) (state : State) → IsWellNumbered state
      → own u (order_effect it state) ≡ own_after_order it u (own u state)
  ordered_apart u it state well = go (account_of_asked it == u) refl
    where
      go : (b : Bool) → (account_of_asked it == u) ≡ b
          → own u (order_effect it state) ≡ own_after_order it u (own u state)
      go true e =
          let same : account_of_asked it ≡ u = grind (arith, nat_tests, e) in
          let left : own (account_of_asked it) (order_effect it state) ≡ state_after_order (order_change it state)
          (own (account_of_asked it) state) = own_left it state well (order_change it state) refl in
          let told : state_after_order (order_change it state) (own (account_of_asked it) state)
          ≡ order_effect it (own (account_of_asked it) state)
          = ap (λ made. state_after_order made (own (account_of_asked it) state)) (sym (own_change it state well)) in
          rw e (rw (← same) (left ∙ told))
      go false e = rw e (others_left u it state well (λ same. grind (arith, nat_tests, e, same))
          (order_change it state) refl)
