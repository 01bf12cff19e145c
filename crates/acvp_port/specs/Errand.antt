-- What a client asks for.
use Rattle.std.specs.Prelude.{◌≡◌, ℕ, List, [], Bool, false, Option, Some, None}
use Rattle.acvp_port.specs.declared.client.Errand.{Errand}
use Rattle.acvp_port.specs.declared.client.Errand.TheVariants.{Request, Order}
use Rattle.acvp_port.specs.declared.client.Outgoing.{Outgoing}
use Rattle.acvp_port.specs.declared.client.Wire.{Wire}
use Rattle.acvp_port.specs.declared.client.Wire.TheVariants as wire
use Rattle.acvp_port.specs.Incoming.{bytes_of}
use Rattle.acvp_port.specs.Outgoing.{waiting}

-- the bytes of it that came; none of a request whose connection is broken
abbrev pub bytes_asked : Errand → Option (List ℕ)
bytes_asked (Request input output) = bytes_of input
bytes_asked (Order line output) = Some line.items

-- where its answer goes
abbrev pub output_of : Errand → Outgoing
output_of (Request input output) = output
output_of (Order line output) = output

-- nothing of its answer waits
abbrev pub IsUnanswered : Errand → Type 0
IsUnanswered errand = waiting (output_of errand) ≡ []

-- a request that isn't whole is of a connection that is broken; a line of an order is what came of it
abbrev pub asked_of : Wire → List ℕ → Bool → Option (List ℕ)
asked_of (wire.Request stream) bytes false = None
asked_of _ bytes _ = Some bytes
