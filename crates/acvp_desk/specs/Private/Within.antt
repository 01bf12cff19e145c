-- That what is found is of what was asked for: what the draft of a reply needs.
use Rattle.std.specs.Prelude.{Ok, ◌/◌, Bool, true, not, ◌||◌, ◌==◌, nat_le, is_some}
use Rattle.acvp_tables.specs.Content.{is_kind}
use Rattle.acvp_desk.specs.Registries.{kind_of}
use Rattle.acvp_desk.specs.declared.found.Found.{Found}
use Rattle.acvp_desk.specs.declared.found.Found.TheVariants as found
use Rattle.acvp_desk.specs.declared.found.Place.{Place}
use Rattle.acvp_desk.specs.declared.found.Place.TheVariants as place
use Rattle.acvp_desk.specs.declared.found.RegistryPlace.{RegistryPlace}
use Rattle.acvp_desk.specs.declared.found.RegistryPlace.TheVariants as in_registry

-- what is to be registered is of the kind that the registry holds
abbrev pub is_of_registry : RegistryPlace → Bool
is_of_registry (in_registry.New of (Ok object) asked) = is_kind object.kind (kind_of of)
is_of_registry _ = true

-- the number of a reviewer that is found is an account's, that of a vector set names its session, and what is to be
-- registered is of its registry
abbrev pub is_within : Place → Bool
is_within (place.Reviewer n m found accounts) = not (is_some found) || nat_le m 9999
is_within (place.Set session n found it) = not (is_some found) || ((n / 100) == session)
is_within (place.CancelSet session n found sets) = not (is_some found) || ((n / 100) == session)
is_within (place.Registry it) = is_of_registry it
is_within _ = true

-- what is found of a caller is of what the path names
abbrev pub is_fit : Found → Bool
is_fit (found.Login login account) = true
is_fit (found.Caller it) = is_within it.place
