-- The exits of an order, each once for all orders.
use Rattle.std.proofs.Common.{◌≡◌, ℕ, List, Bool, true, false, Option, None, Some, Ok, Err, refl, sym, ap, ◌∙◌, subst}
use Rattle.std.specs.Prelude.{Result, not, option_map, if◌then◌else◌}
use Rattle.acvp_registry.specs.declared.kind.Kind.{Kind}
use Rattle.acvp_tables.specs.Calls.{Reads, Changes}
use Rattle.acvp_tables.specs.Changes.{after_order}
use Rattle.acvp_tables.specs.Content.{Content, account_at, request_at, request_summary}
use Rattle.acvp_tables.specs.Meaning.{Meaning}
use Rattle.acvp_tables.specs.State.{AreWellNumbered, state_of}
use Rattle.acvp_tables.specs.declared.change.OrderChange.{OrderChange}
use Rattle.acvp_tables.specs.declared.change.OrderChange.TheVariants as change
use Rattle.acvp_tables.specs.declared.rows.AccountRow.{AccountRow}
use Rattle.acvp_tables.specs.declared.rows.RequestRow.{RequestRow}
use Rattle.acvp_tables.specs.declared.summary.RequestSummary.{RequestSummary}
use Rattle.acvp_tables.specs.declared.tables.StoreFault.{StoreFault}
use Rattle.acvp_desk.specs.Private.Waiting.{waiting_in}
use Rattle.acvp_desk.specs.declared.order.Waiting.{Waiting}
use Rattle.acvp_desk.specs.Orders.{is_initial, order_reply, order_change, content_after_order, content_order_effect}
use Rattle.acvp_desk.specs.Orders.{Orders}
use Rattle.acvp_desk.specs.Registries.{kind_asked}
use Rattle.acvp_desk.specs.Serves.{Looks}
use Rattle.acvp_desk.specs.declared.order.Order.{Order}
use Rattle.acvp_desk.specs.declared.order.Order.TheVariants as order
use Rattle.acvp_desk.specs.declared.order.OrderReply.{OrderReply}
use Rattle.acvp_desk.specs.declared.order.OrderReply.TheVariants.{Done, Taken, Unknown, NotInitial, Unavailable}

pub not_true : (b : Bool) → not b ≡ true → b ≡ false
not_true true e = absurd (cc)
not_true false e = refl

pub not_false : (b : Bool) → not b ≡ false → b ≡ true
not_false true e = refl
not_false false e = absurd (cc)

-- ---- what an order is answered, and what it changes

pub record IsDecided (it : Order) (reply : OrderReply) (made : Option OrderChange) (c : Content) : Type 0 where
  pub reply_is : order_reply it (state_of c) ≡ reply
  pub change_is : order_change it (state_of c) ≡ made

pub taken : (a : ℕ) (secret : List ℕ) (row : AccountRow) (c : Content) → Some row ≡ account_at a c.accounts
    → IsDecided (order.AddAccount a secret) Taken None c
unfolding order_reply order_change state_of
taken a secret row c is = record { reply_is = rw (← is) refl; change_is = rw (← is) refl }

pub added : (a : ℕ) (secret : List ℕ) (c : Content) → None ≡ account_at a c.accounts
    → IsDecided (order.AddAccount a secret) (Done None)
    (Some (change.AddAccount (record { account = a; secret = secret }))) c
unfolding order_reply order_change state_of
added a secret c is = record { reply_is = rw (← is) refl; change_is = rw (← is) refl }

pub unknown : (a : ℕ) (c : Content) → None ≡ account_at a c.accounts → IsDecided (order.DisableAccount a) Unknown None c
unfolding order_reply order_change state_of
unknown a c is = record { reply_is = rw (← is) refl; change_is = rw (← is) refl }

pub disabled : (a : ℕ) (row : AccountRow) (c : Content) → Some row ≡ account_at a c.accounts
    → IsDecided (order.DisableAccount a) (Done None) (Some (change.DisableAccount a)) c
unfolding order_reply order_change state_of
disabled a row c is = record { reply_is = rw (← is) refl; change_is = rw (← is) refl }

pub no_request : (n : ℕ) (c : Content) → None ≡ option_map (waiting_in (state_of c)) (request_at n c.requests)
    → IsDecided (order.ApproveRequest n) Unknown None c
unfolding order_reply order_change state_of
no_request n c is = go (request_at n c.requests) refl is
  where
    go : (found : Option RequestRow) → request_at n c.requests ≡ found
        → None ≡ option_map (waiting_in (state_of c)) found → IsDecided (order.ApproveRequest n) Unknown None c
    go None e is = record { reply_is = rw e refl; change_is = rw e refl }
    go (Some row) e is = absurd (cc)

-- a request that was decided isn't approved
pub decided_before : (n : ℕ) (w : Waiting) (c : Content)
    → Some w ≡ option_map (waiting_in (state_of c)) (request_at n c.requests) → w.initial ≡ false
    → IsDecided (order.ApproveRequest n) NotInitial None c
unfolding order_reply order_change state_of
decided_before n w c is late = go (request_at n c.requests) refl is
  where
    at : (row : RequestRow) (b : Bool) → is_initial row.status ≡ b → request_at n c.requests ≡ Some row → b ≡ false
        → IsDecided (order.ApproveRequest n) NotInitial None c
    at row false i e late = record { reply_is = rw (e, i) refl; change_is = rw (e, i) refl }
    at row true i e late = absurd (cc)

    go : (found : Option RequestRow) → request_at n c.requests ≡ found
        → Some w ≡ option_map (waiting_in (state_of c)) found → IsDecided (order.ApproveRequest n) NotInitial None c
    go None e is = absurd (cc)
    go (Some row) e is =
        let same : w ≡ waiting_in (state_of c) row = cc in
        at row (is_initial row.status) refl e (ap (λ (w : Waiting). w.initial) (sym same) ∙ late)

pub approved : (n : ℕ) (w : Waiting) (c : Content)
    → Some w ≡ option_map (waiting_in (state_of c)) (request_at n c.requests) → w.initial ≡ true
    → IsDecided (order.ApproveRequest n) (Done (Some (kind_asked w.purpose, w.approved)))
    (Some (change.Approve (record { request = n; approved = w.approved }))) c
unfolding order_reply order_change state_of
approved n w c is waits = go (request_at n c.requests) refl is
  where
    at : (row : RequestRow) (b : Bool) → is_initial row.status ≡ b → request_at n c.requests ≡ Some row → b ≡ true
        → w ≡ waiting_in (state_of c) row
        → IsDecided (order.ApproveRequest n) (Done (Some (kind_asked w.purpose, w.approved)))
        (Some (change.Approve (record { request = n; approved = w.approved }))) c
    at row true i e waits same = rw same (record { reply_is = rw (e, i) refl; change_is = rw (e, i) refl })
    at row false i e waits same = absurd (cc)

    go : (found : Option RequestRow) → request_at n c.requests ≡ found
        → Some w ≡ option_map (waiting_in (state_of c)) found
        → IsDecided (order.ApproveRequest n) (Done (Some (kind_asked w.purpose, w.approved)))
        (Some (change.Approve (record { request = n; approved = w.approved }))) c
    go None e is = absurd (cc)
    go (Some row) e is =
        let same : w ≡ waiting_in (state_of c) row = cc in
        at row (is_initial row.status) refl e (ap (λ (w : Waiting). w.initial) (sym same) ∙ waits) same

pub none_rejected : (n : ℕ) (c : Content) → None ≡ option_map request_summary (request_at n c.requests)
    → IsDecided (order.RejectRequest n) Unknown None c
unfolding order_reply order_change state_of
none_rejected n c is = go (request_at n c.requests) refl is
  where
    go : (found : Option RequestRow) → request_at n c.requests ≡ found → None ≡ option_map request_summary found
        → IsDecided (order.RejectRequest n) Unknown None c
    go None e is = record { reply_is = rw e refl; change_is = rw e refl }
    go (Some row) e is = absurd (cc)

pub rejected_by : (n : ℕ) (found : RequestSummary) (b : Bool) (c : Content)
    → Some found ≡ option_map request_summary (request_at n c.requests) → is_initial found.status ≡ b
    → IsDecided (order.RejectRequest n) (if b then Done None else NotInitial)
    (if b then Some (change.Reject n) else None) c
unfolding order_reply order_change state_of
rejected_by n found b c is waits = go (request_at n c.requests) refl is
  where
    at : (row : RequestRow) (b : Bool) → is_initial row.status ≡ b → request_at n c.requests ≡ Some row
        → IsDecided (order.RejectRequest n) (if b then Done None else NotInitial)
        (if b then Some (change.Reject n) else None) c
    at row true i e = record { reply_is = rw (e, i) refl; change_is = rw (e, i) refl }
    at row false i e = record { reply_is = rw (e, i) refl; change_is = rw (e, i) refl }

    go : (there : Option RequestRow) → request_at n c.requests ≡ there → Some found ≡ option_map request_summary there
        → IsDecided (order.RejectRequest n) (if b then Done None else NotInitial)
        (if b then Some (change.Reject n) else None) c
    go None e is = absurd (cc)
    go (Some row) e is =
        let same : found ≡ request_summary row = cc in
        at row b (ap (λ (r : RequestSummary). is_initial r.status) (sym same) ∙ waits) e

-- ---- the exits

module _ {T : Type 0} (faults : StoreFault → Type 0) (meaning : Meaning T) (it : Order) where
  open meaning use {stands, is_open, is_clean, leaves}

  abbrev Decides : T → T → OrderReply → Option OrderChange → Type 0
  Decides old mid reply made = is_open mid → (c : Content) → AreWellNumbered c → stands old c
      → IsDecided it reply made c

  becomes : (made : Option OrderChange) (reply : OrderReply) (c : Content) → IsDecided it reply made c
      → content_order_effect it c ≡ content_after_order made c
  becomes made reply c decided = ap (λ x. content_after_order x c) decided.change_is

  -- answered without a change
  pub left_alone : {X : Type 0} (x : X) (old new : T) (told : OrderReply) → Reads faults meaning {X = X} (Ok x) old new
      → Decides old new told None
      → (is_open new → (c : Content) → AreWellNumbered c → stands old c → (told ≡ order_reply it (state_of c))
      × stands new (content_order_effect it c))
      × (is_clean new → is_open old → (c d : Content) → AreWellNumbered c → stands old c
      → leaves new (content_order_effect it c) d)
  left_alone x old new told reads decides = (
    λ live c sound h. let decided = decides live c sound h in
        (sym decided.reply_is, subst (λ d. stands new d) (sym (becomes None told c decided)) (reads.same live c h)),
    λ clean live c d sound h. let decided = decides (reads.stays_open clean).1 c sound h in
        subst (λ e. leaves new e d) (sym (becomes None told c decided)) (reads.left clean live c d h),
  )

  -- a read and a look are one read
  pub read_further : {X Y : Type 0} (x : X) (y : Y) (old mid new : T) → Reads faults meaning {X = X} (Ok x) old mid
      → Looks meaning {X = Y} {E = StoreFault} (Ok y) mid new → Reads faults meaning {X = Y} (Ok y) old new
  read_further x y old mid new reads looks = record {
    fault = tt;
    was_open = λ live. reads.was_open (looks.was_open live);
    was_clean = λ clean. reads.was_clean (looks.was_clean clean);
    stays_open = λ clean. let read = reads.stays_open (looks.was_clean clean) in
        (read.0, looks.stays_open clean read.1);
    same = λ live c h. looks.same live c (reads.same (looks.was_open live) c h);
    left = λ clean live c d h. let up = (reads.stays_open (looks.was_clean clean)).1 in
        looks.left clean up c d (reads.same up c h);
    kept = λ clean c d left. looks.kept clean c d (reads.kept (looks.was_clean clean) c d left);
  }

  -- what was read in vain
  pub unavailable_after : {X Y : Type 0} (x : X) (found : Result Y StoreFault) (old mid new : T)
      → Reads faults meaning {X = X} (Ok x) old mid → Looks meaning {X = Y} {E = StoreFault} found mid new
      → Orders meaning Unavailable old new it
  unavailable_after x found old mid new reads looks = record {
    was_open = λ live. reads.was_open (looks.was_open live);
    was_clean = λ clean. reads.was_clean (looks.was_clean clean);
    answered = tt;
    same = λ live c h. looks.same live c (reads.same (looks.was_open live) c h);
    stays_open = tt;
    kept = tt;
    settled = λ clean live c sound h. let up = (reads.stays_open (looks.was_clean clean)).1 in
        looks.left clean up c (content_order_effect it c) (reads.same up c h);
    shut = λ clean off. absurd (off (reads.stays_open (looks.was_clean clean)).0);
  }

  module _ {X Y : Type 0} (x : X) (old mid new : T) (ch : OrderChange)
      (reads : Reads faults meaning {X = X} (Ok x) old mid)
      (approval : Option (Kind × ℕ)) (decides : Decides old mid (Done approval) (Some ch)) where
    -- carried out
    pub carried_out : (y : Y) → Changes faults meaning {X = Y} (Ok y) mid new (after_order ch)
        → Orders meaning (Done approval) old new it
    carried_out y changes = record {
      was_open = λ live. reads.was_open (changes.was_open live);
      was_clean = λ clean. reads.was_clean (changes.was_clean clean);
      same = tt;
      stays_open = λ clean. let read = reads.stays_open (changes.was_clean clean) in
          (read.0, changes.stays_open clean read.1);
      kept = tt;
      shut = λ clean off. absurd (off (reads.stays_open (changes.was_clean clean)).0);
      answered = λ live c sound h. let up = changes.was_open live in
          let decided = decides up c sound h in (
            sym decided.reply_is,
            subst (λ d. stands new d) (sym (becomes (Some ch) (Done approval) c decided))
                (changes.ok live c sound (reads.same up c h)),
          );
      settled = λ clean live c d sound h. let up = (reads.stays_open (changes.was_clean clean)).1 in
          subst (λ e. leaves new e d) (sym (becomes (Some ch) (Done approval) c (decides up c sound h)))
          (changes.settled clean up c d sound (reads.same up c h));
    }

    -- the change failed
    pub failed : (e : StoreFault) → Changes faults meaning {X = Y} (Err e) mid new (after_order ch)
        → Orders meaning Unavailable old new it
    failed e changes = record {
      was_open = λ live. reads.was_open (changes.was_open live);
      was_clean = λ clean. reads.was_clean (changes.was_clean clean);
      answered = tt;
      same = λ live c h. changes.err live c (reads.same (changes.was_open live) c h);
      stays_open = tt;
      kept = tt;
      shut = λ clean off. absurd (off (reads.stays_open (changes.was_clean clean)).0);
      settled = λ clean live c sound h. let up = (reads.stays_open (changes.was_clean clean)).1 in
          subst (λ e. leaves new c e) (sym (becomes (Some ch) (Done approval) c (decides up c sound h)))
          (changes.unsettled clean up c sound (reads.same up c h));
    }
