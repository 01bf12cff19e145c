-- The bytes that a reply keeps.
use Rattle.std.specs.Prelude.{◌≤◌, ℕ, List, drop, length, ⊤}
use Rattle.acvp_http.specs.declared.reply.Bytes.{Bytes}
use Rattle.acvp_http.specs.declared.reply.Bytes.TheVariants.{Short, Long}

abbrev pub bytes_of : Bytes → List ℕ
bytes_of (Short text) = text
bytes_of (Long buffer start) = drop start buffer.items

-- the place is within the buffer
abbrev pub IsCut : Bytes → Type 0
IsCut (Short text) = ⊤
IsCut (Long buffer start) = start ≤ length buffer.items
