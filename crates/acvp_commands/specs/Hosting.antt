-- What a command asks of the machine, beside its files.
use Rattle.acvp_commands.specs.declared.fault.Fault.{Fault}
use Rattle.acvp_commands.specs.declared.host.Service.{Service}
use Rattle.acvp_commands.specs.declared.lines.Message.{Message}

-- What it is to open a port of a machine, to finish it, and to print a line, in which state the machine then is. Of
-- these nothing can be said here; but whoever serves can show only by its calls that they were done, once and in this
-- order.
pub record Hosting (H P : Type 0) : Type 1 where
  pub opens : H → H → Service → P → Type 0
  -- the port can't be opened
  pub refuses : H → H → Service → Fault → Type 0
  pub prints : H → H → Message → Type 0
  -- the line can't be printed
  pub fails : H → H → Message → Fault → Type 0
  pub finishes : H → H → P → P → Type 0
