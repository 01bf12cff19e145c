use Rattle.acvp_commands.proofs.FileRunLemmas.{task_runs}
use Rattle.acvp_commands.proofs.life.commands_run_over_files.Goals as goal

pub returns : goal.returns
returns g c = λ keys moment closed it first last connection back outcome can done clean.
    task_runs g.H.Host.hosting g.H.Port.Listener.listening g.H.Port.Input.Source.stream g.H.Port.Output.Sink.stream
    c.orders_are_turns.ensures
    keys moment closed it first last connection back outcome can done clean
