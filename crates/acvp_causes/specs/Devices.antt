-- The number of a device, as Linux packs it (makedev(3)): the minor number's lowest eight bits, twelve of the major
-- one, the rest of the minor one, and the rest of the major one.
use Rattle.std.specs.Prelude.{ℕ, ◌+◌, ◌*◌, ◌/◌, ◌%◌, ◌^◌}

abbrev pub major_of : ℕ → ℕ
major_of device = device / 2 ^ 8 % 2 ^ 12 + device / 2 ^ 44 * 2 ^ 12

abbrev pub minor_of : ℕ → ℕ
minor_of device = device % 2 ^ 8 + device / 2 ^ 20 % 2 ^ 24 * 2 ^ 8
