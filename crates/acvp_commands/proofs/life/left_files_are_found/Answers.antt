use Rattle.acvp_commands.proofs.LeftFiles.{shows_left}
use Rattle.acvp_commands.proofs.life.left_files_are_found.Goals as goal

pub returns : goal.returns
returns g c = λ before connection finds. shows_left before connection finds
