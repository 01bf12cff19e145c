-- The URLs of vendors, modules and operational environments.
use Rattle.std.specs.Prelude.{◌≡◌, ◌<◌, ◌^◌, ℕ, List, ◌++◌, length, take, drop, codes, decimal, Option, Some, None}
use Rattle.std.specs.Prelude.{option_map, option_and_then, if◌then◌else◌}
use Rattle.std.specs.Str.{bytes_eq}
use Rattle.acvp_registry.specs.declared.kind.Kind.{Kind}
use Rattle.acvp_registry.specs.declared.kind.Kind.TheVariants.{Vendor, Module, Environment, Certification}
use Rattle.acvp_registry.specs.Number.{plain_number_of}

-- what stands before the number in the URLs of a kind, where it has any
abbrev pub url_front : Kind → Option (List ℕ)
url_front Vendor = Some (codes "/acvp/v1/vendors/")
url_front Module = Some (codes "/acvp/v1/modules/")
url_front Environment = Some (codes "/acvp/v1/oes/")
url_front Certification = None

-- The text is the URL of the object of this kind and number: the kind's place, and the number in at most 19 digits.
abbrev pub IsUrl : Kind → ℕ → List ℕ → Type 0
IsUrl kind number text = (place : List ℕ) × (url_front kind ≡ Some place) × (number < 10 ^ 19)
    × (text ≡ place ++ decimal number)

-- what stands after the place, where the text begins with it
abbrev pub behind : List ℕ → List ℕ → Option (List ℕ)
behind text place = if bytes_eq (take (length place) text) place then Some (drop (length place) text) else None

-- the same as a value: the number behind the kind's place
abbrev pub url_number_of : Kind → List ℕ → Option ℕ
url_number_of kind text = option_and_then plain_number_of (option_and_then (behind text) (url_front kind))

-- the URL of the object of a kind and number: the kind's place, and the number in decimal
abbrev pub url_of : Kind → ℕ → Option (List ℕ)
url_of kind number = option_map (λ place. place ++ decimal number) (url_front kind)
