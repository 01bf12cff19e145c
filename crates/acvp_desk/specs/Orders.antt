-- The operator's orders: what each is answered, and what it changes.
use Rattle.std.specs.Prelude.{◌≡◌, ℕ, ◌+◌, length, Bool, true, false, Option, Some, None, option_map, option_and_then}
use Rattle.std.specs.Prelude.{is_some, if◌then◌else◌, ⊤}
use Rattle.acvp_tables.specs.Changes.{after_order}
use Rattle.acvp_registry.specs.declared.kind.Kind.{Kind}
use Rattle.acvp_registry.specs.declared.kind.Kind.TheVariants.{Vendor, Module, Environment, Certification}
use Rattle.acvp_tables.specs.Content.{Content, account_at, request_at, purpose_of}
use Rattle.acvp_tables.specs.Meaning.{Meaning}
use Rattle.acvp_tables.specs.State.{State, first_of_account, is_account_number, record_counts, state_of}
use Rattle.acvp_tables.specs.State.{AreWellNumbered}
use Rattle.acvp_tables.specs.StateChanges.{after_order_state}
use Rattle.acvp_tables.specs.declared.change.OrderChange.{OrderChange}
use Rattle.acvp_tables.specs.declared.change.OrderChange.TheVariants as change
use Rattle.acvp_tables.specs.declared.rows.RequestRow.{RequestRow}
use Rattle.acvp_tables.specs.declared.rows.RequestStatus.{RequestStatus}
use Rattle.acvp_tables.specs.declared.rows.RequestStatus.TheVariants as status
use Rattle.acvp_registry.specs.declared.counts.Counts.{Counts}
use Rattle.acvp_tables.specs.declared.summary.RequestPurpose.{RequestPurpose}
use Rattle.acvp_tables.specs.declared.summary.RequestPurpose.TheVariants as asks
use Rattle.acvp_desk.specs.declared.order.Order.{Order}
use Rattle.acvp_desk.specs.declared.order.Order.TheVariants as order
use Rattle.acvp_desk.specs.declared.order.OrderReply.{OrderReply}
use Rattle.acvp_desk.specs.Registries.{kind_asked}
use Rattle.acvp_desk.specs.declared.order.OrderReply.TheVariants.{Done, Taken, Unknown, NotInitial, Unavailable}

-- the account that is named has a number from 1 to 9999
abbrev pub IsOrder : Order → Type 0
IsOrder (order.AddAccount account secret) = is_account_number account ≡ true
IsOrder (order.DisableAccount account) = is_account_number account ≡ true
IsOrder (order.ApproveRequest request) = ⊤
IsOrder (order.RejectRequest request) = ⊤

-- the secret has 32 bytes
abbrev pub HasSecret : Order → Type 0
HasSecret (order.AddAccount account secret) = length secret ≡ 32
HasSecret _ = ⊤

abbrev pub has_account : ℕ → State → Bool
has_account account state = is_some (account_at account state.accounts)

-- ---- requests

-- the operator hasn't decided yet
abbrev pub is_initial : RequestStatus → Bool
is_initial status.Initial = true
is_initial (status.Approved n) = false
is_initial status.Rejected = false

-- how many objects of a kind an account has; a certification registers none
abbrev pub count_of_kind : Kind → Counts → ℕ
count_of_kind Vendor n = n.vendors
count_of_kind Module n = n.modules
count_of_kind Environment n = n.environments
count_of_kind Certification n = 0

-- the number that an approval gives: the account's next of the kind, or that of the session that is certified
abbrev pub approved_as : State → ℕ → RequestPurpose → ℕ
approved_as state account (asks.Registration kind) =
    first_of_account account + count_of_kind kind (record_counts account state)
approved_as state account (asks.Certification c) = c.session

abbrev pub approved_number : State → RequestRow → ℕ
approved_number state row = approved_as state row.account (purpose_of row.body)

-- with the kind of what is approved
abbrev pub approved_reply : State → RequestRow → OrderReply
approved_reply state row = Done (Some (kind_asked (purpose_of row.body), approved_number state row))

-- a request that isn't there is unknown, and one that was decided isn't decided again
abbrev pub on_request : (RequestRow → OrderReply) → Option RequestRow → OrderReply
on_request decide None = Unknown
on_request decide (Some row) = if is_initial row.status then decide row else NotInitial

abbrev pub if_initial : RequestRow → Option RequestRow
if_initial row = if is_initial row.status then Some row else None

-- the request of a number that waits for the operator's decision
abbrev pub waiting_request : ℕ → State → Option RequestRow
waiting_request n state = option_and_then if_initial (request_at n state.requests)

abbrev pub approval : State → ℕ → RequestRow → OrderChange
approval state n row = change.Approve (record { request = n; approved = approved_number state row })

-- ---- each order

-- what it is answered
unfoldable pub order_reply : Order → State → OrderReply
order_reply (order.AddAccount account secret) state = if has_account account state then Taken else Done None
order_reply (order.DisableAccount account) state = if has_account account state then Done None else Unknown
order_reply (order.ApproveRequest n) state = on_request (approved_reply state) (request_at n state.requests)
order_reply (order.RejectRequest n) state = on_request (λ row. Done None) (request_at n state.requests)

-- the change that it makes, unless it is refused
unfoldable pub order_change : Order → State → Option OrderChange
order_change (order.AddAccount account secret) state =
    if has_account account state then None else Some (change.AddAccount (record { account = account; secret = secret }))
order_change (order.DisableAccount account) state =
    if has_account account state then Some (change.DisableAccount account) else None
order_change (order.ApproveRequest n) state = option_map (approval state n) (waiting_request n state)
order_change (order.RejectRequest n) state = option_map (λ row. change.Reject n) (waiting_request n state)

abbrev pub state_after_order : Option OrderChange → State → State
state_after_order None state = state
state_after_order (Some it) state = after_order_state it state

abbrev pub content_after_order : Option OrderChange → Content → Content
content_after_order None c = c
content_after_order (Some it) c = after_order it c

-- the records after an order
abbrev pub order_effect : Order → State → State
order_effect it state = state_after_order (order_change it state) state

-- and what is kept of them
abbrev pub content_order_effect : Order → Content → Content
content_order_effect it c = content_after_order (order_change it (state_of c)) c

-- what is said of an order that is done, of one that is refused, and of one that is unavailable
abbrev pub ByReply : OrderReply → Type 0 → Type 0 → Type 0 → Type 0
ByReply (Done approved) P Q R = P
ByReply Taken P Q R = Q
ByReply Unknown P Q R = Q
ByReply NotInitial P Q R = Q
ByReply Unavailable P Q R = R

module _ {T : Type 0} (meaning : Meaning T) where
  open meaning use {stands, is_open, is_clean, leaves}

  abbrev pub Answers : OrderReply → T → T → Order → Type 0
  Answers reply old new it = is_open new → (c : Content) → AreWellNumbered c → stands old c
      → (reply ≡ order_reply it (state_of c)) × stands new (content_order_effect it c)

  abbrev pub Settles : T → T → Order → Type 0
  Settles old new it =
      is_clean new → is_open old → (c d : Content) → AreWellNumbered c → stands old c
      → leaves new (content_order_effect it c) d

  abbrev pub Stays : T → T → Type 0
  Stays old new = is_open new → (c : Content) → stands old c → stands new c

  -- For every content that the tables stand for: the order is answered, and the content after its effect stands; or it
  -- is unavailable, and all stands as it did. A crash finds the effect of what was answered; and of what was
  -- unavailable, what there was or that with the effect.
  pub record Orders (reply : OrderReply) (old new : T) (it : Order) : Type 0 where
    pub was_open : is_open new → is_open old
    pub was_clean : is_clean new → is_clean old
    pub answered : ByReply reply (Answers reply old new it) (Answers reply old new it) ⊤
    pub same : ByReply reply ⊤ (Stays old new) (Stays old new)
    pub settled : ByReply reply (Settles old new it) (Settles old new it)
        (is_clean new → is_open old → (c : Content) → AreWellNumbered c → stands old c
        → leaves new c (content_order_effect it c))
    -- unless it is unavailable, the tables were open and stay so, and where it is refused a crash finds what it found
    -- before
    pub stays_open : ByReply reply (is_clean new → is_open old × is_open new)
        (is_clean new → is_open old × is_open new) ⊤
    pub kept : ByReply reply ⊤ (is_clean new → (c d : Content) → leaves old c d → leaves new c d) ⊤
    -- of tables that were shut already a crash finds what it found, whatever is answered
    pub shut : is_clean new → (is_open old → ⊥) → (c d : Content) → leaves old c d → leaves new c d
