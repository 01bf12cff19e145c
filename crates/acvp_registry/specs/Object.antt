-- What is kept of a vendor, a module or an operational environment, and which JSON values are kept.
use Rattle.std.specs.Prelude.{ℕ, List, [], ◌∷◌, length, codes, Bool, true, false, not, ◌&&◌, nat_le, find, is_some}
use Rattle.std.specs.Prelude.{Option, Some, None, option_map, option_and_then, unwrap_or}
use Rattle.serde_json.specs.Data.{Data, null, boolean, number, string, array, object, put, depth}
use Rattle.serde_json.specs.Written.{has_float, compact_text}
use Rattle.acvp_registry.specs.declared.fault.RegFault.{RegFault}
use Rattle.acvp_registry.specs.declared.fault.RegFault.TheVariants.{Field, NoReference}
use Rattle.acvp_registry.specs.declared.kind.Kind.{Kind}
use Rattle.acvp_registry.specs.declared.kind.Kind.TheVariants.{Vendor, Module, Environment, Certification}
use Rattle.acvp_registry.specs.Json.{text_member}
use Rattle.acvp_registry.specs.Url.{url_of, url_number_of}

-- what is kept: the kind, and the whole JSON value that a request gave
pub record KeptObject : Type 0 where
  pub kind : Kind
  pub value : Data

-- ---- what it says

-- its text, which is compact
unfoldable pub object_text : KeptObject → List ℕ
object_text o = compact_text o.value

-- the text of its member `name`
unfoldable pub object_name : KeptObject → List ℕ
object_name o = unwrap_or (text_member (codes "name") o.value) []

-- the number of the vendor that a module's `vendorUrl` is the URL of
abbrev pub vendor_of : Kind → Data → Option ℕ
vendor_of Vendor d = None
vendor_of Module d = option_and_then (url_number_of Vendor) (text_member (codes "vendorUrl") d)
vendor_of Environment d = None
vendor_of Certification d = None

-- a module's vendor
unfoldable pub object_vendor : KeptObject → Option ℕ
object_vendor o = vendor_of o.kind o.value

-- ---- which values are kept

-- a certification isn't registered
abbrev pub is_registered : Kind → Bool
is_registered Vendor = true
is_registered Module = true
is_registered Environment = true
is_registered Certification = false

abbrev pub is_filled : Option (List ℕ) → Bool
is_filled None = false
is_filled (Some text) = nat_le 1 (length text)

-- an object with a text of at least one byte as its `name`
abbrev pub has_name : Data → Bool
has_name d = is_filled (text_member (codes "name") d)

-- of a module, `vendorUrl` is a text
abbrev pub has_vendor_url : Kind → Data → Bool
has_vendor_url Vendor d = true
has_vendor_url Module d = is_some (text_member (codes "vendorUrl") d)
has_vendor_url Environment d = true
has_vendor_url Certification d = true

-- the members that an object of this kind needs, each of its kind
abbrev pub has_fields : Kind → Data → Bool
has_fields kind d = is_registered kind && has_name d && has_vendor_url kind d

-- no number is kept as a float, and arrays and objects nest at most as deep as texts are read
abbrev pub is_readable : Data → Bool
is_readable d = not (has_float d) && nat_le (depth d) 127

-- the compact text has at most 16384 bytes
abbrev pub is_short : Data → Bool
is_short d = nat_le (length (compact_text d)) 16384

-- it has the fields of its kind, and a text that can be kept
unfoldable pub is_fit : Kind → Data → Bool
is_fit kind d = has_fields kind d && is_readable d && is_short d

-- of a module, `vendorUrl` is the URL of a vendor
unfoldable pub names_vendor : Kind → Data → Bool
names_vendor Vendor d = true
names_vendor Module d = is_some (vendor_of Module d)
names_vendor Environment d = true
names_vendor Certification d = true

-- the conditions of what is kept, in their order, each with the fault where it doesn't hold
abbrev pub object_conditions : Kind → Data → List (Bool × RegFault)
object_conditions kind d = (is_fit kind d, Field) ∷ (names_vendor kind d, NoReference) ∷ []

-- the fault of the first condition that doesn't hold; none where the value is kept
unfoldable pub object_fault : Kind → Data → Option RegFault
object_fault kind d = option_map (λ c. c.1) (find (λ c. not c.0) (object_conditions kind d))

-- ---- with its own URL

-- the value with a text at `url`, in the place of the member that was there
abbrev pub put_url : List ℕ → Data → Data
put_url url null = null
put_url url (boolean b) = boolean b
put_url url (number n) = number n
put_url url (string s) = string s
put_url url (array ds) = array ds
put_url url (object ms) = object (put (codes "url") (string url) ms)

-- the object's value with `url` set to the URL of its kind and this number
unfoldable pub with_url_data : KeptObject → ℕ → Data
with_url_data o n = unwrap_or (option_map (λ url. put_url url o.value) (url_of o.kind n)) o.value
