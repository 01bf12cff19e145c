use Rattle.acvp_commands.proofs.ClosedFiles.{shows_committed, was_open}
use Rattle.acvp_commands.proofs.life.closed_files_are_found.Goals as goal

pub returns : goal.returns
returns g c = λ before connection finds. (was_open before connection finds, shows_committed before connection finds)
