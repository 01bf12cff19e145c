use Rattle.acvp_http.proofs.TurnLemmas.{order_taken}
use Rattle.acvp_http.proofs.life.orders_are_turns.Goals as goal

pub returns : goal.returns
returns g c =
    λ keys moment it reply old new can done.
    order_taken g.T.Tables.meaning keys moment it old new
    (λ content kept. c.records_are_kept.ensures.order keys.seed it content can.0 can.1 kept) reply done
