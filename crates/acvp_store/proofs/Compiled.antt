-- What a text is understood as, by what it is compiled to.
use Rattle.std.proofs.Common.{◌≡◌, refl, [], None, Ok, Err, List, ℕ, false}
use Rattle.sqlite.specs.Listing.{understood}
use Rattle.sqlite_resolve.specs.Compile.{compiled}
use Rattle.sqlite_resolve.specs.Lowering.{Checked}
use Rattle.sqlite_resolve.specs.declared.compiled.Compiled.{Compiled}
use Rattle.acvp_store.proofs.Words.{Command, command_of, IsPlain, reads_listing, Schema}

-- the command, without RETURNING, and which doesn't read the time
abbrev pub IsCompiled : Checked Compiled → Command → Type 0
IsCompiled (Ok c) command = (c.command ≡ command) × (c.returning ≡ None) × (c.formats ≡ [])
IsCompiled (Err e) command = ⊥

-- a text is understood so under a schema, and reads its own tables
abbrev pub IsUnderstood : Schema → List ℕ → Command → Type 0
IsUnderstood schema text command = ((command_of (understood schema text) ≡ command)
    × IsPlain (understood schema text)) × (reads_listing schema text ≡ false)

pub as_compiled : (schema : Schema) (text : List ℕ) (command : Command) → IsCompiled (compiled schema text) command
    → IsUnderstood schema text command
unfolding understood
as_compiled schema text command h = by (compiled schema text) refl h
  where
    by : (r : Checked Compiled) → compiled schema text ≡ r → IsCompiled r command → IsUnderstood schema text command
    by (Ok c) is h = rw is ((h.0, (h.1, h.2)), refl)
    by (Err e) is h = absurd h
