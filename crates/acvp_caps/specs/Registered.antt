-- What a registration says: the conditions on its JSON value in their order, each with its fault.
use Rattle.std.specs.Prelude.{ℕ, ◌==◌, ◌&&◌, List, [], ◌∷◌, ◌++◌, length, codes, Bool, false, not, nat_le}
use Rattle.std.specs.Prelude.{if◌then◌else◌, Option, None, Some, is_some, option_map, option_and_then, unwrap_or}
use Rattle.std.specs.Prelude.{Result, Err}
use Rattle.std.specs.List.{list_all, filter_map, flat_map}
use Rattle.serde_json.specs.Data.{Data}
use Rattle.serde_json.specs.Find.{get}
use Rattle.serde_json.specs.Read.{read}
use Rattle.acvp_caps.specs.declared.algorithm.Algorithm.{Algorithm}
use Rattle.acvp_caps.specs.declared.capability.Domains.{Domains}
use Rattle.acvp_caps.specs.declared.capability.Domains.TheVariants.{Message, KeyAndMac}
use Rattle.acvp_caps.specs.declared.given.Given.{Given}
use Rattle.acvp_caps.specs.declared.given.Given.TheVariants.{MessageItems, KeyAndMacItems}
use Rattle.acvp_caps.specs.declared.item.Item.{Item}
use Rattle.acvp_caps.specs.declared.item.Item.TheVariants.{Single, Range}
use Rattle.acvp_caps.specs.declared.CapFault.{CapFault}
use Rattle.acvp_caps.specs.declared.CapFault.TheVariants.{Field, NotByteOriented, OutOfRange, Unsupported}
use Rattle.acvp_caps.specs.Algorithms.{is_hmac_of, named}
use Rattle.acvp_caps.specs.Items.{is_formed, is_byte_oriented}
use Rattle.acvp_caps.specs.Members.{members, all_within}
use Rattle.acvp_caps.specs.Capability.{CapabilityValue, digest_bits}
use Rattle.acvp_caps.specs.Registration.{RegistrationValue}
use Rattle.acvp_caps.specs.Json.{whole_number, number_at, text_at, is_text, flag, elements, is_optional_array}
use Rattle.acvp_mac.specs.Conditions.{Condition, judged}

-- ---- a domain

-- the item, where it has the form
abbrev pub if_formed : Item → Option Item
if_formed i = if is_formed i then Some i else None

abbrev pub range_of : Data → Option Item
range_of d =
    option_and_then (λ min. option_and_then (λ max. option_and_then (λ increment. if_formed (Range min max increment))
    (number_at (codes "increment") d)) (number_at (codes "max") d)) (number_at (codes "min") d)

abbrev pub single_or : Option Item → Option ℕ → Option Item
single_or range None = range
single_or range (Some n) = Some (Single n)

-- an item: a whole number, or an object with the three numbers of a range
abbrev pub item_of : Data → Option Item
item_of d = single_or (range_of d) (whole_number d)

abbrev pub is_item : Data → Bool
is_item d = is_some (item_of d)

abbrev pub items_at : Option Data → List Item
items_at member = filter_map item_of (elements member)

-- the form of a domain: an array of 1 to 32 items
abbrev pub is_domain : List Data → Bool
is_domain given = nat_le 1 (length given) && nat_le (length given) 32 && list_all is_item given

-- the conditions of lengths that have to lie between two limits
abbrev pub length_conditions : ℕ → ℕ → List Item → List (Condition CapFault)
length_conditions low high items =
    (list_all is_byte_oriented items, NotByteOriented)
    ∷ (all_within low high (members items), OutOfRange)
    ∷ []

-- the conditions of a domain
abbrev pub domain_conditions : ℕ → ℕ → Option Data → List (Condition CapFault)
domain_conditions low high member = (is_domain (elements member), Field) ∷ length_conditions low high (items_at member)

abbrev pub domain_of : Option Data → List ℕ
domain_of member = members (items_at member)

-- ---- a capability

abbrev pub algorithm_at : Data → Option Algorithm
algorithm_at d = option_and_then named (text_at (codes "algorithm") d)

-- no test of large messages is asked for
abbrev pub large_data_conditions : Option Data → List (Condition CapFault)
large_data_conditions member =
    (is_optional_array member, Field)
    ∷ (length (elements member) == 0, Unsupported)
    ∷ []

-- the conditions of an algorithm's parameters
abbrev pub parameter_conditions : Data → Algorithm → List (Condition CapFault)
parameter_conditions d a =
    if is_hmac_of a
    then domain_conditions 8 524288 (get (codes "keyLen") d)
    ++ domain_conditions 32 (digest_bits a) (get (codes "macLen") d)
    else large_data_conditions (get (codes "performLargeDataTest") d)
    ++ domain_conditions 0 65536 (get (codes "messageLength") d)

abbrev pub algorithm_conditions : Data → Option Algorithm → List (Condition CapFault)
algorithm_conditions d None = []
algorithm_conditions d (Some a) = parameter_conditions d a

-- the conditions of one capability
abbrev pub capability_conditions : Data → List (Condition CapFault)
capability_conditions d =
    (is_some (text_at (codes "algorithm") d) && is_some (text_at (codes "revision") d), Field)
    ∷ (is_some (algorithm_at d) && is_text (codes "1.0") (text_at (codes "revision") d), Unsupported)
    ∷ algorithm_conditions d (algorithm_at d)

abbrev pub domains_at : Data → Algorithm → Domains
domains_at d a =
    if is_hmac_of a
    then KeyAndMac (domain_of (get (codes "keyLen") d)) (domain_of (get (codes "macLen") d))
    else Message (domain_of (get (codes "messageLength") d))

-- the items by which they are given
abbrev pub given_at : Data → Algorithm → Given
given_at d a =
    if is_hmac_of a
    then KeyAndMacItems (items_at (get (codes "keyLen") d)) (items_at (get (codes "macLen") d))
    else MessageItems (items_at (get (codes "messageLength") d))

abbrev pub capability_at : Data → Option CapabilityValue
capability_at d =
    option_map (λ a. record { algorithm = a; domains = domains_at d a; given = given_at d a }) (algorithm_at d)

-- the capability that a JSON value is (there is one wherever every condition holds), or the fault of the first broken
-- one
abbrev pub registered_capability : Data → Result (Option CapabilityValue) CapFault
registered_capability d = judged (capability_conditions d) (capability_at d)

abbrev pub if_json : Option Data → Result (Option CapabilityValue) CapFault
if_json None = Err Field
if_json (Some d) = registered_capability d

-- the capability that a JSON text is, or its first fault
unfoldable pub registered_text : List ℕ → Result (Option CapabilityValue) CapFault
registered_text text = if_json (read text)

-- ---- a registration

abbrev pub capabilities_at : Data → List Data
capabilities_at d = elements (get (codes "algorithms") d)

abbrev pub sample_at : Data → Option Bool
sample_at d = flag (get (codes "isSample") d)

abbrev pub encryption_at : Data → Option Bool
encryption_at d = flag (get (codes "encryptAtRest") d)

-- the conditions of a registration
abbrev pub registration_conditions : Data → List (Condition CapFault)
registration_conditions d =
    (nat_le 1 (length (capabilities_at d)) && nat_le (length (capabilities_at d)) 20, Field)
    ∷ (is_some (sample_at d), Field)
    ∷ (is_some (encryption_at d), Field)
    ∷ (not (unwrap_or (encryption_at d) false), Unsupported)
    ∷ flat_map capability_conditions (capabilities_at d)

abbrev pub registration_at : Data → RegistrationValue
registration_at d = record {
  sample = unwrap_or (sample_at d) false;
  capabilities = filter_map capability_at (capabilities_at d);
}

-- the registration that a JSON value is, or its first fault
unfoldable pub registered : Data → Result RegistrationValue CapFault
registered d = judged (registration_conditions d) (registration_at d)
