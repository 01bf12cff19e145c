-- The kit's civil time of a moment.
use Rattle.std.specs.Prelude.{◌≡◌, ℕ, ◌*◌, pos}
use Rattle.jiff.specs.Words.{civil_nanos}
use Rattle.jiff.specs.Types.{DateTime}

-- as many seconds after the start of 1970 as the moment says, on a clock without leap seconds
abbrev pub IsCivilTimeOf : ℕ → DateTime → Type 0
IsCivilTimeOf moment time = civil_nanos time ≡ pos (moment * 1000000000)
