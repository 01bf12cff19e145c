use Rattle.std.proofs.Common.{rules}
use Rattle.acvp_commands.proofs.AskedLemmas.{value_read}
use Rattle.acvp_commands.proofs.asked.value.Goals as goal

pub returns : goal.returns
returns c = rw (← value_read c.args.matches.now c.args.option.now) (search rules)
