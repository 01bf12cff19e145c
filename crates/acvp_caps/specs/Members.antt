-- The members of a domain.
use Rattle.std.specs.Prelude.{ℕ, suc, max, ◌&&◌, List, [], ◌∷◌, filter, Bool, nat_le}
use Rattle.std.specs.List.{list_any, list_all, range_with_len}
use Rattle.acvp_caps.specs.declared.item.Item.{Item}
use Rattle.acvp_caps.specs.Items.{has, bound}

-- whether some item has the number
abbrev pub is_member : List Item → ℕ → Bool
is_member items n = list_any (λ i. has i n) items

-- no item has a number above this one
abbrev pub greatest_bound : List Item → ℕ
greatest_bound [] = 0
greatest_bound (i ∷ is) = max (bound i) (greatest_bound is)

-- all numbers that some item has, ascending, each once
unfoldable pub members : List Item → List ℕ
members items = filter (is_member items) (range_with_len 0 (suc (greatest_bound items)))

-- whether no member is below the first limit or above the second
abbrev pub all_within : ℕ → ℕ → List ℕ → Bool
all_within low high xs = list_all (λ n. nat_le low n && nat_le n high) xs
