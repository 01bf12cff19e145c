-- Spaces at the end of a text.
use Rattle.std.specs.Prelude.{ℕ, List, reverse}
use Rattle.acvp_http.specs.Asks.{skip_spaces}

-- the bytes up to the last that is no space
abbrev pub skip_last_spaces : List ℕ → List ℕ
skip_last_spaces bytes = reverse (skip_spaces (reverse bytes))
