-- What an approval rests on. A certification may be approved if its session, its vector sets and its parts stand as
-- every run leaves them while its request waits.
use Rattle.std.specs.Prelude.{◌≡◌, ◌⊎◌, ℕ, List, length, Bool, true, not, ◌==◌, ◌&&◌, Some, is_some, ⊤}
use Rattle.std.specs.List.{list_all}
use Rattle.acvp_policy.specs.Conditions.{is_some_and}
use Rattle.acvp_registry.specs.declared.kind.Kind.TheVariants.{Module, Environment}
use Rattle.acvp_tables.specs.Content.{Content, live_sets, purpose_of, request_at, session_at}
use Rattle.acvp_tables.specs.Counted.{answers_passed}
use Rattle.acvp_tables.specs.Meaning.{Meaning}
use Rattle.acvp_tables.specs.State.{of_all, AreWellNumbered}
use Rattle.acvp_tables.specs.declared.rows.Certification.{Certification}
use Rattle.acvp_tables.specs.declared.rows.ObjectRow.{ObjectRow}
use Rattle.acvp_tables.specs.declared.rows.RequestRow.{RequestRow}
use Rattle.acvp_tables.specs.declared.rows.SessionRow.{SessionRow}
use Rattle.acvp_tables.specs.declared.rows.SetRow.{SetRow}
use Rattle.acvp_tables.specs.declared.summary.RequestPurpose.{RequestPurpose}
use Rattle.acvp_tables.specs.declared.summary.RequestPurpose.TheVariants as asks
use Rattle.acvp_tables.specs.declared.tables.StoreFault.{StoreFault}
use Rattle.acvp_desk.specs.Certifications.{is_last_of, may_be_certified}
use Rattle.acvp_desk.specs.Orders.{ByReply, is_initial}
use Rattle.acvp_desk.specs.Registries.{own_object}
use Rattle.acvp_desk.specs.declared.order.Order.{Order}
use Rattle.acvp_desk.specs.declared.order.Order.TheVariants as order
use Rattle.acvp_desk.specs.declared.order.OrderReply.{OrderReply}

-- there are so many vector sets, and all have passed
abbrev pub have_passed : ℕ → List SetRow → Bool
have_passed live sets = (length sets == live) && list_all (λ set. answers_passed set.graded) sets

-- a session is the account's, names the request as its last and may be certified; its vector sets that aren't cancelled
-- are these, as many as it says, and all have passed
abbrev pub is_ready : ℕ → ℕ → List SetRow → SessionRow → Bool
is_ready n u sets row =
    (row.account == u) && is_last_of n (Some row) && may_be_certified row && have_passed row.live sets

abbrev pub has_ready_session : ℕ → ℕ → ℕ → Content → Bool
has_ready_session n u session c =
    is_some_and (session_at session c.sessions) (is_ready n u (live_sets session c.sets))

-- the module and the environment are the account's
abbrev pub has_certified_parts : ℕ → Certification → List ObjectRow → Bool
has_certified_parts u it objects =
    is_some (own_object Module u it.«module» objects) && is_some (own_object Environment u it.environment objects)

-- what an account's request of a number asks for may be approved; a registration always may
abbrev pub may_be_approved : ℕ → ℕ → RequestPurpose → Content → Bool
may_be_approved n u (asks.Registration kind) c = true
may_be_approved n u (asks.Certification it) c =
    has_ready_session n u it.session c && has_certified_parts u it c.objects

abbrev pub may_approve : ℕ → Content → RequestRow → Bool
may_approve n c row = may_be_approved n row.account (purpose_of row.body) c

-- a request waits, and may not be approved
abbrev pub waits_in_vain : ℕ → Content → RequestRow → Bool
waits_in_vain n c row = is_initial row.status && not (may_approve n c row)

module _ {T : Type 0} (meaning : Meaning T) where
  open meaning use {stands, is_open}

  abbrev pub RestsOnRecords : T → T → ℕ → Type 0
  RestsOnRecords old new n = is_open new → (c : Content) → AreWellNumbered c → stands old c
      → of_all (may_approve n c) (request_at n c.requests) ≡ true

  abbrev pub IsRefused : T → T → ℕ → Type 0
  IsRefused old new n = is_open new → (c : Content) → AreWellNumbered c → stands old c
      → is_some_and (request_at n c.requests) (waits_in_vain n c) ≡ true

  -- if an order approves a request, it might be approved by what the tables stood for
  abbrev pub IsSoundApproval : OrderReply → T → T → Order → Type 0
  IsSoundApproval reply old new (order.ApproveRequest n) = ByReply reply (RestsOnRecords old new n) ⊤ ⊤
  IsSoundApproval reply old new (order.AddAccount account secret) = ⊤
  IsSoundApproval reply old new (order.DisableAccount account) = ⊤
  IsSoundApproval reply old new (order.RejectRequest n) = ⊤

  abbrev pub RefusesApproval : T → T → Order → Type 0
  RefusesApproval old new (order.ApproveRequest n) = IsRefused old new n
  RefusesApproval old new (order.AddAccount account secret) = ⊥
  RefusesApproval old new (order.DisableAccount account) = ⊥
  RefusesApproval old new (order.RejectRequest n) = ⊥

  -- an order is unavailable only if a call of the tables failed, or if it is to approve a request that waits in vain
  abbrev pub IsExcused : (StoreFault → Type 0) → OrderReply → T → T → Order → Type 0
  IsExcused faults reply old new it =
      ByReply reply ⊤ ⊤ (((fault : StoreFault) × faults fault) ⊎ RefusesApproval old new it)
