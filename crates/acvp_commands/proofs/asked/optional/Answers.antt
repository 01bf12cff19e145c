use Rattle.std.proofs.Common.{rules}
use Rattle.clap.specs.Words.{found_of}
use Rattle.clap.proofs.WalkLemmas.{first_value-rows}
use Rattle.acvp_commands.proofs.asked.optional.Goals as goal

pub returns : goal.returns
returns c = rw (← first_value-rows (found_of c.args.matches.now) c.args.option.now) (search rules)
