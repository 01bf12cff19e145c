-- What is kept of a domain.
use Rattle.std.specs.Prelude.{◌≡◌, ◌≤◌, List, length, true}
use Rattle.std.specs.List.{list_all}
use Rattle.acvp_caps.specs.declared.item.Item.{Item}
use Rattle.acvp_caps.specs.Items.{is_byte_oriented}
use Rattle.acvp_caps.specs.Private.Walk.{AllFormed, AllBounded}

-- one item at least and 32 at most, each of them whole bytes
pub record AreDomainItems (items : List Item) : Type 0 where
  pub some : 1 ≤ length items
  pub most : length items ≤ 32
  pub formed : AllFormed items
  pub bounded : AllBounded items
  pub whole_bytes : list_all is_byte_oriented items ≡ true
