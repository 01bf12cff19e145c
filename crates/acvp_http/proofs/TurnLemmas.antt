-- Lemmas on one turn that is an order, for any tables.
use Rattle.std.proofs.Common.{ℕ, Bool, true, false, inl, inr, refl}
use Rattle.acvp_tables.specs.Content.{Content}
use Rattle.acvp_tables.specs.Meaning.{Meaning}
use Rattle.acvp_desk.specs.Kept.{IsKept}
use Rattle.acvp_desk.specs.Orders.{Answers, Orders, Settles, content_order_effect}
use Rattle.acvp_desk.specs.declared.keys.Keys.{Keys}
use Rattle.acvp_desk.specs.declared.order.Order.{Order}
use Rattle.acvp_desk.specs.declared.order.OrderReply.{OrderReply}
use Rattle.acvp_desk.specs.declared.order.OrderReply.TheVariants.{Done, Taken, Unknown, NotInitial, Unavailable}
use Rattle.acvp_http.specs.Event.{order, ordered}
use Rattle.acvp_http.specs.Serve.{HandlesTurn, LeavesShut, ShowsEvent}

module _ {T : Type 0} (meaning : Meaning T)
    (keys : Keys) (m : ℕ) (o : Order) (old new : T)
    (stay : (c : Content) → IsKept keys.seed c → IsKept keys.seed (content_order_effect o c)) where
  open meaning use {is_open, is_clean}

  -- it is done or refused, or it is unavailable
  abbrev pub Turned : OrderReply → Type 0
  Turned reply = (unavailable : Bool)
      × HandlesTurn meaning keys (record { event = order m o; unavailable = unavailable }) (ordered reply) old new

  answered : {reply : OrderReply} → (is_open new → is_open old) → (is_clean new → is_clean old)
      → (is_clean new → is_open old × is_open new)
      → Answers meaning reply old new o → Settles meaning old new o → LeavesShut meaning old new
      → ShowsEvent meaning (order m o) (ordered reply) old new
      → Turned reply
  answered was_open was_clean lasting said settles shut shown = (
    false,
    record {
      was_open = was_open;
      was_clean = was_clean;
      stays_open = inr (λ clean live. (lasting clean).1);
      shown = shown;
      taken = λ clean c kept h.
          let up = lasting clean in
          let (is, stands_after) = said up.1 c kept.sound (h up.0) in
          (content_order_effect o c, (refl, is), λ _. stands_after, stay c kept);
      left = λ clean live c kept h.
          let (is, stands_after) = said (lasting clean).1 c kept.sound h in
          (content_order_effect o c, (refl, is), stay c kept, λ d. settles clean live c d kept.sound h);
      shut = shut;
      idle = λ clean off c kept. absurd (off (lasting clean).0);
    },
  )

  -- an order that is carried out is a turn
  pub order_taken : (reply : OrderReply) → Orders meaning reply old new o → Turned reply
  order_taken (Done approved) it = answered it.was_open it.was_clean it.stays_open it.answered it.settled it.shut tt
  order_taken Taken it = answered it.was_open it.was_clean it.stays_open it.answered it.settled it.shut
      (it.same, it.kept)
  order_taken Unknown it = answered it.was_open it.was_clean it.stays_open it.answered it.settled it.shut
      (it.same, it.kept)
  order_taken NotInitial it = answered it.was_open it.was_clean it.stays_open it.answered it.settled it.shut
      (it.same, it.kept)
  order_taken Unavailable it = (
    true,
    record {
      was_open = it.was_open;
      was_clean = it.was_clean;
      stays_open = inl refl;
      shown = it.same;
      taken = λ clean c kept h. (c, (refl, refl), λ live. it.same live c (h (it.was_open live)), kept);
      left = λ clean live c kept h.
          (c, (refl, refl), kept, (content_order_effect o c, refl, it.settled clean live c kept.sound h));
      shut = it.shut;
      idle = λ clean off c kept. (refl, refl);
    },
  )
