-- Whose a request or an order is, what it makes of each account's own rows, and by what its account is told.
use Rattle.std.specs.Prelude.{◌≡◌, ◌⊎◌, ℕ, ◌/◌, Bool, true, false, ◌==◌, List, Option, None, Some}
use Rattle.std.specs.Prelude.{if◌then◌else◌, Result, ⊤}
use Rattle.acvp_json.specs.Data.{Data}
use Rattle.acvp_policy.specs.declared.rule.Rule.{Rule}
use Rattle.acvp_policy.specs.declared.rule.Rule.TheVariants as rule
use Rattle.acvp_tables.specs.Content.{Content, is_reviewer}
use Rattle.acvp_tables.specs.Meaning.{Meaning}
use Rattle.acvp_tables.specs.State.{State, AreWellNumbered, IsWellNumbered, live_records, may_see, own, owner_of}
use Rattle.acvp_tables.specs.State.{session_record_at, set_record_at, state_of}
use Rattle.acvp_desk.specs.Answer.{answer, effect, who_of, Gives, Refuses}
use Rattle.acvp_desk.specs.Kept.{IsKept}
use Rattle.acvp_desk.specs.Serves.{Holds}
use Rattle.acvp_desk.specs.Orders.{ByReply, order_effect}
use Rattle.acvp_desk.specs.Request.{RequestValue}
use Rattle.acvp_desk.specs.Reviewers.{reviewer_at}
use Rattle.acvp_desk.specs.declared.desk.DeskReply.{DeskReply}
use Rattle.acvp_desk.specs.declared.desk.DeskReply.TheVariants.{Given, Denied}
use Rattle.acvp_desk.specs.declared.keys.Keys.{Keys}
use Rattle.acvp_desk.specs.declared.order.Order.{Order}
use Rattle.acvp_desk.specs.declared.order.Order.TheVariants as order
use Rattle.acvp_desk.specs.declared.order.OrderReply.{OrderReply}
use Rattle.acvp_desk.specs.declared.request.Ask.{Ask}
use Rattle.acvp_desk.specs.declared.request.Ask.TheVariants.{Caller}
use Rattle.acvp_desk.specs.declared.wish.Wish.TheVariants.{Session}
use Rattle.acvp_desk.specs.declared.wish.SessionWish.TheVariants.{AddReviewer}

-- the account that an order is of: the one that it names, or that whose request it names
abbrev pub account_of_asked : Order → ℕ
account_of_asked (order.AddAccount account secret) = account
account_of_asked (order.DisableAccount account) = account
account_of_asked (order.ApproveRequest n) = owner_of n
account_of_asked (order.RejectRequest n) = owner_of n

-- whether it is this account
abbrev pub is_who : Option ℕ → ℕ → Bool
is_who None v = false
is_who (Some u) v = u == v

-- what a request leaves of the rows that an account owns, as far as they alone tell: of the account that it is of, what
-- it makes of them; and of every other one the same
abbrev pub own_after_request : Keys → ℕ → RequestValue → ℕ → State → State
own_after_request keys moment r v mine = if is_who (who_of keys moment r) v then effect keys moment r mine else mine

-- what an order leaves of the rows that an account owns, as far as they alone tell: of the account that it is of, what
-- it makes of them; and of every other one the same
abbrev pub own_after_order : Order → ℕ → State → State
own_after_order it u mine = if account_of_asked it == u then order_effect it mine else mine

-- An account sees the same in both: it owns the same rows and reviews the same sessions, and each session that it may
-- see has the same row and vector sets.
pub record SeesTheSame (u : ℕ) (one other : State) : Type 0 where
  pub owned : own u one ≡ own u other
  pub reviews : (s : ℕ) → is_reviewer s u one.reviewers ≡ is_reviewer s u other.reviewers
  pub session : (s : ℕ) → may_see u (owner_of s) s one ≡ true
      → session_record_at s one.sessions ≡ session_record_at s other.sessions
  pub live_sets : (s : ℕ) → may_see u (owner_of s) s one ≡ true → live_records s one.sets ≡ live_records s other.sets
  pub set : (v : ℕ) → may_see u (owner_of (v / 100)) (v / 100) one ≡ true
      → set_record_at v one.sets ≡ set_record_at v other.sets

-- so does the account of a request; to nobody all records are alike
abbrev pub SeesAlike : Option ℕ → State → State → Type 0
SeesAlike None one other = ⊤
SeesAlike (Some u) one other = SeesTheSame u one other

-- whom a request asks to add as a reviewer
abbrev pub reviewer_asked_by : Ask → List ℕ → Option ℕ
reviewer_asked_by (Caller (Session n AddReviewer)) body = reviewer_at body
reviewer_asked_by _ body = None

abbrev pub reviewer_asked : RequestValue → Option ℕ
reviewer_asked r = reviewer_asked_by r.ask r.body

-- what is replied is the object of this answer, or its rule; or it is unavailable
abbrev pub IsReplyBy : DeskReply → Result (Option Data) Rule → Type 0
IsReplyBy (Given reply) it = Gives reply.items it
IsReplyBy (Denied broken) it = Refuses broken it

abbrev pub IsUnavailable : DeskReply → Type 0
IsUnavailable (Given reply) = ⊥
IsUnavailable (Denied broken) = broken ≡ rule.Unavailable

module _ {T : Type 0} (meaning : Meaning T) where
  open meaning use {stands, is_open, is_clean}

  -- For every content that the tables stood for they stand for one in which each account owns what the order leaves of
  -- its own rows.
  abbrev pub LeavesApart : T → T → Order → Type 0
  LeavesApart old new it = is_open new → (c : Content) → AreWellNumbered c → stands old c
      → (d : Content) × stands new d × ((u : ℕ) → own u (state_of d) ≡ own_after_order it u (own u (state_of c)))

  -- It is so unless the order is unavailable.
  abbrev pub IsOrderedApart : OrderReply → T → T → Order → Type 0
  IsOrderedApart reply old new it = ByReply reply (LeavesApart old new it) (LeavesApart old new it) ⊤

  -- The same of a request while the disk is clean; or the request is unavailable, and all stays.
  abbrev pub IsServedApart : DeskReply → T → T → Keys → ℕ → RequestValue → Type 0
  IsServedApart reply old new keys moment r = is_clean new → (c : Content) → IsKept keys.seed c → Holds meaning old c
      → (IsUnavailable reply × Holds meaning new c)
      ⊎ ((d : Content) × Holds meaning new d
      × ((v : ℕ) → own v (state_of d) ≡ own_after_request keys moment r v (own v (state_of c))))

  -- What is replied is what any well numbered records give in which the account that asks sees the same as in those
  -- that the tables stood for.
  abbrev pub IsToldBySeen : DeskReply → T → T → Keys → ℕ → RequestValue → Type 0
  IsToldBySeen reply old new keys moment r = is_clean new → (c : Content) → IsKept keys.seed c → Holds meaning old c
      → (state : State) → IsWellNumbered state → SeesAlike (who_of keys moment r) (state_of c) state
      → IsReplyBy reply (answer keys moment r state)
