-- Why a database isn't opened, or isn't copied.
use Rattle.std.specs.declared.io.ErrorKind.{ErrorKind}
use Rattle.std.specs.declared.io.ErrorKind.TheVariants as kind
use Rattle.sqlite.specs.declared.error.Error.{Error}
use Rattle.sqlite.specs.declared.error.Error.TheVariants.{SqliteFailure}
use Rattle.sqlite.specs.declared.error.ErrorCode.TheVariants.{DatabaseCorrupt, NotADatabase, OutOfMemory}
use Rattle.sqlite_std_file.specs.declared.pair.OpenError.{OpenError}
use Rattle.sqlite_std_file.specs.declared.pair.OpenError.TheVariants as files
use Rattle.std.specs.IoError.{error_kind}
use Rattle.acvp_store.specs.declared.fault.AdoptFault.{AdoptFault}
use Rattle.acvp_store.specs.declared.fault.AdoptFault.TheVariants as adopted
use Rattle.acvp_tables.specs.declared.tables.StoreFault.{StoreFault}
use Rattle.acvp_tables.specs.declared.tables.StoreFault.TheVariants as made
use Rattle.acvp_causes.specs.declared.cause.Cause.{Cause}
use Rattle.acvp_causes.specs.declared.cause.Cause.TheVariants as cause
use Rattle.acvp_connections.specs.declared.connection.Unopened.{Unopened}
use Rattle.acvp_connections.specs.declared.connection.Unopened.TheVariants.{Failed, Taken}
use Rattle.acvp_connections.specs.declared.fault.FileFault.{FileFault}
use Rattle.acvp_connections.specs.declared.fault.FileFault.TheVariants.{Broken, Memory, Schema, Unavailable}

-- a database whose form the store doesn't read, or whose rows or pages aren't those of its tables, is broken; one that
-- can't be opened, for whatever else, is unavailable
abbrev pub fault_of_open : Error → FileFault
fault_of_open (SqliteFailure OutOfMemory) = Memory
fault_of_open (SqliteFailure NotADatabase) = Broken
fault_of_open (SqliteFailure DatabaseCorrupt) = Broken
fault_of_open _ = Unavailable

-- only tables that are others are a fault of the schema
abbrev pub fault_of_adopt : AdoptFault → FileFault
fault_of_adopt adopted.Schema = Schema
fault_of_adopt adopted.Refused = Unavailable
fault_of_adopt adopted.Memory = Memory

-- tables that can't be made
abbrev pub fault_of_store : StoreFault → FileFault
fault_of_store made.Refused = Unavailable
fault_of_store made.Memory = Memory

-- what the system refuses, for whatever else than want of memory, is unavailable
abbrev pub fault_of_kind : ErrorKind → FileFault
fault_of_kind kind.OutOfMemory = Memory
fault_of_kind _ = Unavailable

-- a file that isn't taken, for whatever else than want of memory, is unavailable
abbrev pub fault_of_cause : Cause → FileFault
fault_of_cause cause.Memory = Memory
fault_of_cause _ = Unavailable

-- files that another process has are taken; else the system refuses one, or a journal is left beside them
abbrev pub why_unfound : OpenError → Unopened
why_unfound files.Busy = Taken
why_unfound files.OutOfMemory = Failed Memory
why_unfound (files.Io error) = Failed (fault_of_kind (error_kind error))
why_unfound files.HotJournal = Failed Unavailable
