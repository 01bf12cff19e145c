use Rattle.acvp_commands.proofs.VisitLemmas.{came_to}
use Rattle.acvp_commands.proofs.serving.serve_request.Goals as goal

pub returns-clause-turn : goal.returns-clause-turn
returns-clause-turn g c =
    came_to g.T.Tables.meaning c.args.desk.now.keys c.args.moment (g.S.Source.stream c.args.input.now)
    (g.S.Source.stream c.serve_one.new.reader) (g.K.Sink.stream c.args.output.now)
    (g.K.Sink.stream c.serve_one.new.writer)
    c.args.desk.now.tables c.serve_one.new.desk.tables c.serve_one.ensures.was_open c.serve_one.ensures.was_clean
    c.serve_one.ensures.shut c.serve_one.result.result c.serve_one.ensures.serves
