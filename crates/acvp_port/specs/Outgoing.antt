-- Where an answer goes.
use Rattle.std.specs.Prelude.{◌≡◌, ◌≤◌, ◌++◌, ◌⊎◌, ℕ, List, [], length}
use Rattle.acvp_port.specs.declared.client.Outgoing.{Outgoing}

-- the bytes that the client hasn't taken yet
abbrev pub waiting : Outgoing → List ℕ
waiting output = output.rest.items

-- so many of these bytes are taken: all, to go behind those that wait; or as many as go at once, where none waits
abbrev pub Takes : Outgoing → List ℕ → ℕ → Outgoing → Type 0
Takes old bytes count new = ((count ≡ length bytes) × (waiting new ≡ waiting old ++ bytes))
    ⊎ ((count ≤ length bytes) × (waiting old ≡ []) × (waiting new ≡ []))
