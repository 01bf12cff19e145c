-- The fault that a command tells of what stopped it.
use Rattle.std.specs.declared.io.ErrorKind.{ErrorKind}
use Rattle.std.specs.declared.io.ErrorKind.TheVariants as kind
use Rattle.acvp_http.specs.declared.script.ScriptFault.{ScriptFault}
use Rattle.acvp_http.specs.declared.script.ScriptFault.TheVariants.{Read as run-read, Write as run-write}
use Rattle.acvp_http.specs.declared.script.ScriptFault.TheVariants.{Syntax as run-syntax, Limit as run-limit}
use Rattle.acvp_http.specs.declared.script.ScriptFault.TheVariants.{Memory as run-memory}
use Rattle.acvp_desk.specs.declared.desk.NewFault.{NewFault}
use Rattle.acvp_desk.specs.declared.desk.NewFault.TheVariants as refused
use Rattle.acvp_store.specs.declared.fault.AdoptFault.{AdoptFault}
use Rattle.acvp_store.specs.declared.fault.AdoptFault.TheVariants as adopted
use Rattle.acvp_tables.specs.declared.tables.StoreFault.{StoreFault}
use Rattle.acvp_tables.specs.declared.tables.StoreFault.TheVariants as store
use Rattle.acvp_commands.specs.declared.fault.Fault.{Fault}
use Rattle.acvp_commands.specs.declared.fault.Fault.TheVariants.{Keys, Read, Write, Syntax, Limit, Memory, Unavailable}
use Rattle.acvp_commands.specs.declared.fault.Fault.TheVariants.{Schema}

-- each fault of a run keeps its name
unfoldable pub fault_of_run : ScriptFault → Fault
fault_of_run run-read = Read
fault_of_run run-write = Write
fault_of_run run-syntax = Syntax
fault_of_run run-limit = Limit
fault_of_run run-memory = Memory

-- a vector set whose epoch has no seed is a fault of the keys
unfoldable pub fault_of_desk : NewFault → Fault
fault_of_desk refused.Memory = Memory
fault_of_desk refused.Epoch = Keys
fault_of_desk refused.Store = Unavailable

-- the store refused a statement, or memory
abbrev pub fault_of_store : StoreFault → Fault
fault_of_store store.Refused = Unavailable
fault_of_store store.Memory = Memory

-- only tables that are others are a fault of the schema
abbrev pub fault_of_adopt : AdoptFault → Fault
fault_of_adopt adopted.Schema = Schema
fault_of_adopt adopted.Refused = Unavailable
fault_of_adopt adopted.Memory = Memory

-- what the system refuses is the fault that was to be told of it, but for want of memory
abbrev pub fault_of_kind : Fault → ErrorKind → Fault
fault_of_kind fault kind.OutOfMemory = Memory
fault_of_kind fault _ = fault
