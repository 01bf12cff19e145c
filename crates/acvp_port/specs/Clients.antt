-- The places of clients.
use Rattle.std.specs.Prelude.{◌≡◌, ℕ, Some, None, slice_get}
use Rattle.acvp_port.specs.declared.clients.Clients.{Clients}

-- the place is one of theirs, and nobody has it
abbrev pub IsFree : Clients → ℕ → Type 0
IsFree clients place = slice_get clients.visits.items place ≡ Some None
