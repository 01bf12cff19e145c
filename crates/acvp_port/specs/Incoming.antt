-- What came of a connection.
use Rattle.std.specs.Prelude.{ℕ, List, [], Option, Some, None}
use Rattle.std.specs.Io.Cursor.{cursor_inner, cursor_remaining}
use Rattle.acvp_port.specs.declared.client.Incoming.{Incoming}
use Rattle.acvp_port.specs.declared.client.Incoming.TheVariants.{Bytes, Broken}

-- all the bytes that came, also those that were read; none of a connection that is broken
abbrev pub bytes_of : Incoming → Option (List ℕ)
bytes_of (Bytes cursor) = Some (cursor_inner cursor).items
bytes_of Broken = None

-- the bytes that are still to be read
abbrev pub bytes_left : Incoming → Option (List ℕ)
bytes_left (Bytes cursor) = cursor_remaining (λ bytes. Some bytes.items) cursor
bytes_left Broken = Some []
