-- The whole numbers of the command line.
use Rattle.std.specs.Prelude.{◌≡◌, ◌≤◌, ℕ, List, decimal}

abbrev pub most_account : ℕ
most_account = 9999

abbrev pub most_request : ℕ
most_request = 9999999999

abbrev pub most_port : ℕ
most_port = 65535

abbrev pub most_count : ℕ
most_count = 1000000

abbrev pub most_patience : ℕ
most_patience = 3600

-- the text is the decimal of this number, without a sign and without leading zeros, and the number is from 1 to the
-- most
abbrev pub IsNumber : ℕ → List ℕ → ℕ → Type 0
IsNumber most text n = (1 ≤ n) × (n ≤ most) × (text ≡ decimal n)
