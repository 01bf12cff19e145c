use Rattle.std.proofs.Common.{[], ◌∷◌, false, inl, inr, refl}
use Rattle.std.proofs.lemmas.List.Elements.{All-cons, All-nil}
use Rattle.acvp_http.specs.Event.{CanHappen, EventAnswer, Turn, order, ordered}
use Rattle.acvp_commands.proofs.serving.order_at.Goals as goal

pub returns-in-None-clause-turn : goal.returns-in-None-clause-turn
returns-in-None-clause-turn g c = (
  record {
    is_connection = false;
    turns = [];
    answers = [];
  },
  refl,
  inr (rw c.in-None.is at c.order_in.ensures.said, refl, (refl, refl)),
  refl,
  All-nil (λ (turn : Turn). CanHappen turn.event),
)

pub returns-in-Some-clause-turn : goal.returns-in-Some-clause-turn
returns-in-Some-clause-turn g c =
    let written = rw c.in-Some.is at c.order_in.ensures.said in
    let happens = rw c.in-Some.is at c.order_in.ensures.happens in
    let (unavailable, handled) = c.handle_order-reply.ensures.turn in
    let turn : Turn = record {
      event = order c.in-Some.moment c.in-Some.order;
      unavailable = unavailable;
    } in
    let answer : EventAnswer = ordered c.handle_order-reply.result in (
      record {
        is_connection = false;
        turns = turn ∷ [];
        answers = answer ∷ [];
      },
      refl,
      inl (
        c.in-Some.moment,
        c.in-Some.order,
        c.handle_order-reply.result,
        unavailable,
        written,
        c.outcome_of.ensures,
        (refl, refl),
      ),
      (c.handle_order-reply.new.desk.tables, handled, refl),
      All-cons (λ (turn : Turn). CanHappen turn.event) turn [] happens
          (All-nil (λ (turn : Turn). CanHappen turn.event)),
    )
