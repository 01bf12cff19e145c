-- The keys that tokens are signed under: one key, or a ring of keys of which a header names one by its `kid` (RFC 7515,
-- section 4.1.4).
use Rattle.std.specs.Prelude.{ℕ, ◌-◌, ◌≤◌, List, [], Bool, false, ◌==◌, Option, None, Some, IsSome, option_and_then}
use Rattle.std.specs.Prelude.{unwrap_or, length, slice_get, codes, decimal}
use Rattle.std.specs.List.{find, enumerate_from}
use Rattle.std.specs.Str.{bytes_eq}
use Rattle.serde_json.specs.Data.{Data}
use Rattle.serde_json.specs.Find.{get, as_str}

-- which key the JSON value of a header names
abbrev pub Keys : Type 0
Keys = Data → Option (List ℕ)

-- one key, whatever the header says
abbrev pub one_key : List ℕ → Keys
one_key key header = Some key

-- the entries of a ring by their places from 0 on: a key, or nothing where it is retired
abbrev pub Ring : Type 0
Ring = List (Option (List ℕ))

-- the key at a place of a ring, unless it is retired or missing
abbrev pub key_at : Ring → ℕ → Option (List ℕ)
key_at ring place = option_and_then (λ entry. entry) (slice_get ring place)

-- the place of the last entry
abbrev pub last_place : Ring → ℕ
last_place ring = length ring - 1

-- a ring has 1 to 16 entries, and the last is a key
pub record IsKeyRing (ring : Ring) : Type 0 where
  pub least : 1 ≤ length ring
  pub most : length ring ≤ 16
  pub last : IsSome (key_at ring (last_place ring))

-- the key that signs, which is the last one
abbrev pub signing_key : Ring → List ℕ
signing_key ring = unwrap_or (key_at ring (last_place ring)) []

-- whether the text of a member is there and is this one
abbrev pub is_member_text : List ℕ → Option (List ℕ) → Bool
is_member_text wanted None = false
is_member_text wanted (Some s) = bytes_eq s wanted

-- whether a `kid` names a place: it is a text, the plain decimal of the place. Without a `kid`, place 0 is named
abbrev pub is_kid_of : Option Data → ℕ → Bool
is_kid_of None place = place == 0
is_kid_of (Some kid) place = is_member_text (decimal place) (as_str kid)

-- the key at the place of a ring that a header names, which is one place at most
unfoldable pub named_key : Ring → Keys
named_key ring header =
    option_and_then (λ entry. entry.1)
    (find (λ entry. is_kid_of (get (codes "kid") header) entry.0) (enumerate_from 0 ring))
