use Rattle.acvp_http.proofs.TurnLemmas.{order_taken}
use Rattle.acvp_http.proofs.running.handle_order.Goals as goal

pub returns-clause-turn : goal.returns-clause-turn
returns-clause-turn g c =
    order_taken g.T.Tables.meaning c.args.desk.now.keys c.args.moment c.args.order.now c.args.desk.now.tables
    c.order.new.self.tables
    (λ content kept. c.records_are_kept.ensures.order c.args.desk.now.keys.seed c.args.order.now content
    c.requires.0 c.requires.1 kept)
    c.order.result c.order.ensures.answered
