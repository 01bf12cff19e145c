-- Capabilities as JSON values, for private clauses.
use Rattle.std.specs.Prelude.{◌≡◌, ℕ, ◌≤◌, List, codes, map, Some, Ok}
use Rattle.serde_json.specs.Data.{Data, number, unsigned, string, array, object, member, no_members, depth}
use Rattle.serde_json.specs.Read.{max_depth}
use Rattle.serde_json.specs.View.{items_of}
use Rattle.acvp_caps.specs.declared.item.Item.{Item}
use Rattle.acvp_caps.specs.declared.item.Item.TheVariants.{Single, Range}
use Rattle.acvp_caps.specs.Capability.{CapabilityValue}
use Rattle.acvp_caps.specs.Registered.{registered_capability}

abbrev pub number_data : ℕ → Data
number_data n = number (unsigned n)

abbrev pub item_data : Item → Data
item_data (Single value) = number_data value
item_data (Range min max increment) =
    object (member (codes "increment") (number_data increment)
    (member (codes "max") (number_data max) (member (codes "min") (number_data min) no_members)))

abbrev pub domain_data : List Item → Data
domain_data items = array (items_of (map item_data items))

-- the value of a capability with this name and these domains
abbrev pub hash_data : List ℕ → Data → Data
hash_data name message =
    object (member (codes "algorithm") (string name)
    (member (codes "messageLength") message (member (codes "revision") (string (codes "1.0")) no_members)))

abbrev pub hmac_data : List ℕ → Data → Data → Data
hmac_data name key mac =
    object (member (codes "algorithm") (string name)
    (member (codes "keyLen") key
    (member (codes "macLen") mac (member (codes "revision") (string (codes "1.0")) no_members))))

-- the value is read as this capability, and its text is not too deep to be read
pub record IsCapabilityData (c : CapabilityValue) (d : Data) : Type 0 where
  pub reads : registered_capability d ≡ Ok (Some c)
  pub shallow : depth d ≤ max_depth
