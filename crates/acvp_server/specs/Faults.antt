-- The faults of files and of what is shown, and why a database isn't opened, as a command tells them.
use Rattle.acvp_commands.specs.declared.fault.Fault.{Fault}
use Rattle.acvp_commands.specs.declared.fault.Fault.TheVariants.{Keys, Memory, Schema, Taken, Unavailable, Unknown}
use Rattle.acvp_commands.specs.declared.fault.Fault.TheVariants.{Write}
use Rattle.acvp_connections.specs.declared.fault.FileFault.{FileFault}
use Rattle.acvp_connections.specs.declared.fault.FileFault.TheVariants as files
use Rattle.acvp_connections.specs.declared.connection.Unopened.{Unopened as FileUnopened}
use Rattle.acvp_connections.specs.declared.connection.Unopened.TheVariants as file
use Rattle.acvp_opening.specs.declared.databases.Unopened.{Unopened}
use Rattle.acvp_opening.specs.declared.databases.Unopened.TheVariants as opening
use Rattle.acvp_view.specs.declared.fault.ViewFault.{ViewFault}
use Rattle.acvp_view.specs.declared.fault.ViewFault.TheVariants as view

-- each fault of a database's files keeps its name, but that a broken one is unavailable
abbrev pub fault_of_files : FileFault → Fault
fault_of_files files.Taken = Taken
fault_of_files files.Unavailable = Unavailable
fault_of_files files.Broken = Unavailable
fault_of_files files.Schema = Schema
fault_of_files files.Memory = Memory

-- a database that another process has stays that; a fault is told as that of the files
abbrev pub why_unopened : FileUnopened → Unopened
why_unopened file.Taken = opening.Taken
why_unopened (file.Failed fault) = opening.Failed (fault_of_files fault)

-- a vector set whose seed isn't among the keys is a fault of the keys
abbrev pub fault_of_view : ViewFault → Fault
fault_of_view view.Unknown = Unknown
fault_of_view view.Refused = Unavailable
fault_of_view view.Seed = Keys
fault_of_view view.Write = Write
fault_of_view view.Memory = Memory
