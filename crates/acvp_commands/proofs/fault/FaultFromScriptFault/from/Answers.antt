use Rattle.acvp_commands.specs.Faults.{fault_of_run}
use Rattle.std.proofs.Common.{rules}
use Rattle.acvp_commands.proofs.fault.FaultFromScriptFault.from.Goals as goal

pub returns-in-Read : goal.returns-in-Read
unfolding fault_of_run
returns-in-Read c = grind (rules)

pub returns-in-Write : goal.returns-in-Write
unfolding fault_of_run
returns-in-Write c = grind (rules)

pub returns-in-Syntax : goal.returns-in-Syntax
unfolding fault_of_run
returns-in-Syntax c = grind (rules)

pub returns-in-Limit : goal.returns-in-Limit
unfolding fault_of_run
returns-in-Limit c = grind (rules)

pub returns-in-Memory : goal.returns-in-Memory
unfolding fault_of_run
returns-in-Memory c = grind (rules)
