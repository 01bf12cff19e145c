-- A run as the headline tells it: each turn over the state that the accepted ones before it left.
use Rattle.std.proofs.Common.{◌≡◌, inl, inr, ℕ, suc, List, [], ◌∷◌, ◌++◌, Bool, true, false, Option, None, Some, Result}
use Rattle.std.proofs.Common.{Ok, Err, refl, sym, ap, subst, ◌∙◌, if◌then◌else◌}
use Rattle.std.specs.Prelude.{option_map, option_and_then}
use Rattle.acvp_policy.specs.declared.rule.Rule.{Rule}
use Rattle.acvp_tables.specs.Content.{Content, request_at}
use Rattle.acvp_tables.specs.State.{State, state_of}
use Rattle.acvp_tables.specs.declared.rows.RequestRow.{RequestRow}
use Rattle.acvp_tables.specs.declared.change.OrderChange.{OrderChange}
use Rattle.acvp_desk.specs.Answer.{answer, accepted_change, asker_of, conditions, content_effect, effect, reply_to}
use Rattle.acvp_desk.specs.Conditions.{first_broken, unless}
use Rattle.acvp_desk.specs.Data.{Data}
use Rattle.acvp_desk.specs.Orders.{order_reply, order_change, order_effect, content_order_effect, has_account}
use Rattle.acvp_desk.specs.Orders.{on_request, approved_reply, if_initial, is_initial}
use Rattle.acvp_desk.specs.Request.{RequestValue}
use Rattle.acvp_desk.specs.declared.keys.Keys.{Keys}
use Rattle.acvp_desk.specs.declared.order.Order.{Order}
use Rattle.acvp_desk.specs.declared.order.Order.TheVariants as it
use Rattle.acvp_desk.specs.declared.order.OrderReply.{OrderReply}
use Rattle.acvp_desk.specs.declared.order.OrderReply.TheVariants.{Done, Taken, Unknown, NotInitial}
use Rattle.acvp_http.specs.Event.{Event, request, order, EventAnswer, replied, ordered, Turn}
use Rattle.acvp_http.specs.Reply.{IsDateOf}
use Rattle.acvp_http.specs.Serve.{AsksTheDesk, IsReplied, Runs, Takes}
use Rattle.acvp_http.specs.Headline.{AnswersTurn, IsAnswered, LeftBy, is_done}

-- ---- conditions

unless_ok : {F X : Type 0} (fault : Option F) (value x : X) → unless fault value ≡ Ok x → (fault ≡ None) × (value ≡ x)
unless_ok None value x is = let same : value ≡ x = cc in (refl, same)
unless_ok (Some f) value x is = absurd (cc)

unless_err : {F X : Type 0} (fault : Option F) (value : X) (f : F) → unless fault value ≡ Err f → fault ≡ Some f
unless_err None value f is = absurd (cc)
unless_err (Some g) value f is = let same : g ≡ f = cc in cc

-- ---- orders

not_added : (b : Bool) (change : OrderChange) → is_done (if b then Taken else Done None) ≡ false
    → (if b then None else Some change) ≡ None
not_added true change refused = refl
not_added false change refused = absurd (cc)

not_disabled : (b : Bool) (change : OrderChange) → is_done (if b then Done None else Unknown) ≡ false
    → (if b then Some change else None) ≡ None
not_disabled true change refused = absurd (cc)
not_disabled false change refused = refl

not_initial : (f : RequestRow → OrderChange) (decide : RequestRow → OrderReply) (row : RequestRow) (b : Bool)
    → is_done (decide row) ≡ true
    → is_done (if b then decide row else NotInitial) ≡ false → option_map f (if b then Some row else None) ≡ None
not_initial f decide row true done refused = absurd (cc)
not_initial f decide row false done refused = refl

not_decided : (f : RequestRow → OrderChange) (decide : RequestRow → OrderReply) (found : Option RequestRow)
    → ((row : RequestRow) → is_done (decide row) ≡ true) → is_done (on_request decide found) ≡ false
    → option_map f (option_and_then if_initial found) ≡ None
not_decided f decide None done refused = refl
not_decided f decide (Some row) done refused = not_initial f decide row (is_initial row.status) (done row) refused

-- a refused order makes no change
refused_stays : (o : Order) (state : State) → is_done (order_reply o state) ≡ false → order_change o state ≡ None
unfolding order_reply order_change
refused_stays (it.AddAccount account secret) state refused = not_added (has_account account state) _ refused
refused_stays (it.DisableAccount account) state refused = not_disabled (has_account account state) _ refused
refused_stays (it.ApproveRequest n) state refused =
    not_decided _ (approved_reply state) (request_at n state.requests) (λ row. refl) refused
refused_stays (it.RejectRequest n) state refused =
    not_decided _ (λ row. Done None) (request_at n state.requests) (λ row. refl) refused

module _ (follow_request : (keys : Keys) (m : ℕ) (r : RequestValue) (c : Content)
    → state_of (content_effect keys m r c) ≡ effect keys m r (state_of c))
    (follow_order : (o : Order) (c : Content) → state_of (content_order_effect o c) ≡ order_effect o (state_of c))
    (keys : Keys) where
  -- ---- one turn

  abbrev AnsweredAs : Turn → Content → Content → EventAnswer → Type 0
  AnsweredAs turn c next told = IsAnswered keys turn (state_of c) (state_of next) told

  denied_stays : (m : ℕ) (r : RequestValue) (c : Content) (rule : Rule) → answer keys m r (state_of c) ≡ Err rule
      → content_effect keys m r c ≡ c
  unfolding accepted_change
  denied_stays m r c rule is = rw is refl

  decided : (m : ℕ) (bytes reply : List ℕ) (r : RequestValue) (date : List ℕ) (c next : Content)
      (result : Result (Option Data) Rule)
      → answer keys m r (state_of c) ≡ result → AsksTheDesk m bytes r → IsDateOf m date
      → next ≡ content_effect keys m r c → IsReplied date result reply
      → AnsweredAs (record { event = request m bytes; unavailable = false }) c next (replied reply)
  unfolding answer
  decided m bytes reply r date c next (Err rule) is asks dated left told =
      inl (
        ap state_of (left ∙ denied_stays m r c rule is),
        inr (
          r,
          rule,
          date,
          asks,
          unless_err (first_broken (conditions keys m r (state_of c)))
              (reply_to keys m r (asker_of keys m r) (state_of c)) rule is,
          dated,
          told,
        ),
      )
  decided m bytes reply r date c next (Ok None) is asks dated left told = absurd told
  decided m bytes reply r date c next (Ok (Some shown)) is asks dated left told =
      let held = unless_ok (first_broken (conditions keys m r (state_of c)))
      (reply_to keys m r (asker_of keys m r) (state_of c)) (Some shown) is in
      inr (r, shown, date, asks, held.0, held.1, dated, told, ap state_of left ∙ follow_request keys m r c)

  ordered_by : (m : ℕ) (o : Order) (reply : OrderReply) (c next : Content) (b : Bool) → is_done reply ≡ b
      → reply ≡ order_reply o (state_of c)
      → next ≡ content_order_effect o c
      → AnsweredAs (record { event = order m o; unavailable = false }) c next (ordered reply)
  ordered_by m o reply c next true done is left = inr (is, done, ap state_of left ∙ follow_order o c)
  ordered_by m o reply c next false done is left =
      let none : order_change o (state_of c) ≡ None = refused_stays o (state_of c) (sym (ap is_done is) ∙ done) in
      let stays : content_order_effect o c ≡ c = rw none refl in
      inl (ap state_of (left ∙ stays), (is, done))

  turn_answered : (event : Event) (unavailable : Bool) (c next : Content) (told : EventAnswer)
      → Takes keys (record { event = event; unavailable = unavailable }) c next told
      → AnsweredAs (record { event = event; unavailable = unavailable }) c next told
  turn_answered (request m bytes) true c next (replied reply) (same, put_off) = (ap state_of same, put_off)
  turn_answered (request m bytes) true c next (ordered reply) takes = absurd takes
  turn_answered (order m o) true c next (replied reply) takes = absurd takes
  turn_answered (order m o) true c next (ordered reply) (same, is) = (ap state_of same, is)
  turn_answered (request m bytes) false c next (replied reply) takes = elim takes [
    | inl (same, refuses) ↦ inl (ap state_of same, inl refuses)
    | inr (r, asks, (date, dated, left, told)) ↦ decided m bytes reply r date c next
        (answer keys m r (state_of c)) refl asks dated left told
  ]
  turn_answered (request m bytes) false c next (ordered reply) takes = absurd takes
  turn_answered (order m o) false c next (replied reply) takes = absurd takes
  turn_answered (order m o) false c next (ordered reply) (left, is) =
      ordered_by m o reply c next (is_done reply) refl is left

  -- ---- a run

  left_more : (event : Event) (unavailable : Bool) (turns : List Turn) (state next now : State) (told : EventAnswer)
      → IsAnswered keys (record { event = event; unavailable = unavailable }) state next told
      → LeftBy keys turns next now
      → LeftBy keys (record { event = event; unavailable = unavailable } ∷ turns) state now
  left_more event true turns state next now told (same, put_off) left =
      inr (inl refl, subst (λ (s : State). LeftBy keys turns s now) same left)
  left_more event false turns state next now told answered left = elim answered [
    | inl (same, denied) ↦ inr (inr (told, denied), subst (λ (s : State). LeftBy keys turns s now) same left)
    | inr accepted ↦ inl (next, told, refl, accepted, left)
  ]

  pub tells : (earlier later : List Turn) (turn : Turn) (old new : Content) (answers : List EventAnswer)
      → Runs keys (earlier ++ turn ∷ later) old new answers
      → AnswersTurn keys earlier turn (state_of old) answers
  tells [] later turn old new [] runs = absurd runs
  tells [] later turn old new (a ∷ answers) (next, takes, rest) = (
    [],
    a,
    answers,
    state_of old,
    state_of next,
    refl,
    refl,
    refl,
    turn_answered turn.event turn.unavailable old next a takes,
  )
  tells (t ∷ earlier) later turn old new [] runs = absurd runs
  tells (t ∷ earlier) later turn old new (a ∷ answers) (mid, takes, rest) =
      let (told, answer, after, now, next, is, long, left, answered) = tells earlier later turn mid new answers rest in (
        a ∷ told,
        answer,
        after,
        now,
        next,
        ap (λ l. a ∷ l) is,
        ap suc long,
        left_more t.event t.unavailable earlier (state_of old) (state_of mid) now a
            (turn_answered t.event t.unavailable old mid a takes) left,
        answered,
      )

  -- and what it leaves
  pub leaves : (turns : List Turn) (old new : Content) (answers : List EventAnswer) → Runs keys turns old new answers
      → LeftBy keys turns (state_of old) (state_of new)
  leaves [] old new [] runs = ap state_of runs
  leaves [] old new (a ∷ answers) runs = absurd runs
  leaves (t ∷ turns) old new [] runs = absurd runs
  leaves (t ∷ turns) old new (a ∷ answers) (mid, takes, rest) =
      left_more t.event t.unavailable turns (state_of old) (state_of mid) (state_of new) a
      (turn_answered t.event t.unavailable old mid a takes) (leaves turns mid new answers rest)
