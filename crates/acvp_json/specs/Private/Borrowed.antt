-- Texts that are borrowed.
use Rattle.std.specs.Prelude.{ℕ, List, map, Option, option_map, Vec}
use Rattle.std.specs.Borrow.{Bor}
use Rattle.std.specs.Global.{Global}

abbrev pub texts : Option (Bor (List ℕ)) → Option (List ℕ)
texts text = option_map (λ s. s.now) text

abbrev pub bytes_of : Vec (Bor (List ℕ)) Global → List (List ℕ)
bytes_of texts = map (λ s. s.now) texts.items
