-- The items of a domain: single numbers and ranges.
use Rattle.std.specs.Prelude.{ℕ, ◌-◌, ◌%◌, ◌==◌, ◌&&◌, max, Bool, true, nat_le}
use Rattle.acvp_caps.specs.declared.item.Item.{Item}
use Rattle.acvp_caps.specs.declared.item.Item.TheVariants.{Single, Range}

-- Whether an item has a number: the number itself, or min, min + increment and so on up to max, which
-- need not be met.
abbrev pub has : Item → ℕ → Bool
has (Single value) n = value == n
has (Range min max increment) n = nat_le min n && nat_le n max && ((n - min) % increment == 0)

-- an item has no number above this one
abbrev pub bound : Item → ℕ
bound (Single value) = value
bound (Range min max increment) = max

-- the least number of an item
abbrev pub first : Item → ℕ
first (Single value) = value
first (Range min max increment) = min

-- the greatest number of an item that has the form
abbrev pub last : Item → ℕ
last (Single value) = value
last (Range min max increment) = max - (max - min) % increment

-- a range is not empty, and goes up
abbrev pub is_formed : Item → Bool
is_formed (Single value) = true
is_formed (Range min max increment) = nat_le min max && nat_le 1 increment

-- every number of the item is one of whole bytes, as bits
abbrev pub is_byte_oriented : Item → Bool
is_byte_oriented (Single value) = value % 8 == 0
is_byte_oriented (Range min max increment) = (min % 8 == 0) && (increment % 8 == 0)

-- no number of the item is below the first limit or above the second
abbrev pub item_within : ℕ → ℕ → Item → Bool
item_within low high i = nat_le low (first i) && nat_le (last i) high
