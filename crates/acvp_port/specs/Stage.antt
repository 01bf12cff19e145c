-- How far a client is.
use Rattle.std.specs.Prelude.{ℕ, List, [], Bool, true, false}
use Rattle.acvp_port.specs.declared.client.Stage.{Stage}
use Rattle.acvp_port.specs.declared.client.Stage.TheVariants.{Coming, Ended}

-- what it asks for still comes
abbrev pub is_coming : Stage → Bool
is_coming (Coming bytes needed) = true
is_coming _ = false

-- its answer is out
abbrev pub is_ended : Stage → Bool
is_ended (Ended dropped) = true
is_ended _ = false

-- what came of what it asks for
abbrev pub bytes_coming : Stage → List ℕ
bytes_coming (Coming bytes needed) = bytes.items
bytes_coming _ = []
