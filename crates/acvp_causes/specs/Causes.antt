-- Why a file can't be looked at, and what is wrong with its length.
use Rattle.std.specs.Prelude.{ℕ, Option, Some, None, if◌then◌else◌, nat_lt}
use Rattle.std.specs.declared.io.ErrorKind.{ErrorKind}
use Rattle.std.specs.declared.io.ErrorKind.TheVariants.{NotFound}
use Rattle.std.specs.declared.io.Error.{Error}
use Rattle.std.specs.IoError.{error_kind}
use Rattle.acvp_causes.specs.declared.cause.Cause.{Cause}
use Rattle.acvp_causes.specs.declared.cause.Cause.TheVariants as cause

-- by the error's kind there is no file, or the system refuses
abbrev pub cause_of_kind : ErrorKind → Error → Cause
cause_of_kind NotFound error = cause.Missing
cause_of_kind _ error = cause.Refused error

abbrev pub cause_of_error : Error → Cause
cause_of_error error = cause_of_kind (error_kind error) error

-- a file that has fewer bytes than its header tells is cut
abbrev pub cause_of_length : ℕ → Option ℕ → Option Cause
cause_of_length length None = None
cause_of_length length (Some told) = if nat_lt length told then Some (cause.Cut length told) else None
