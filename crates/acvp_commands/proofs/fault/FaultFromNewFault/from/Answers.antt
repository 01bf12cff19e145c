use Rattle.acvp_commands.specs.Faults.{fault_of_desk}
use Rattle.std.proofs.Common.{rules}
use Rattle.acvp_commands.proofs.fault.FaultFromNewFault.from.Goals as goal

pub returns-in-Memory : goal.returns-in-Memory
unfolding fault_of_desk
returns-in-Memory c = grind (rules)

pub returns-in-Epoch : goal.returns-in-Epoch
unfolding fault_of_desk
returns-in-Epoch c = grind (rules)

pub returns-in-Store : goal.returns-in-Store
unfolding fault_of_desk
returns-in-Store c = grind (rules)
