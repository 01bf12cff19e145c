-- Which page of a list a query asks for.
use Rattle.std.specs.Prelude.{◌≢◌, ℕ, List, [], ◌∷◌, All, length, take, drop, filter_map, Bool, ◌==◌, ◌&&◌, nat_le}
use Rattle.std.specs.Prelude.{codes, if◌then◌else◌, Option, Some, None, option_map, option_and_then}
use Rattle.std.specs.List.{list_all}
use Rattle.std.specs.Str.{bytes_eq}
use Rattle.acvp_json.specs.declared.page.Page.{Page}
use Rattle.acvp_registry.specs.Number.{plain_number_of}
use Rattle.acvp_desk.specs.declared.page.Pair.{Pair}
use Rattle.acvp_desk.specs.declared.page.Pair.TheVariants as pair

-- ---- the pairs

abbrev pub with_first : ℕ → List (List ℕ) → List (List ℕ)
with_first c [] = (c ∷ []) ∷ []
with_first c (part ∷ parts) = (c ∷ part) ∷ parts

-- the parts of a text between its ampersands
abbrev pub parts_of : List ℕ → List (List ℕ)
parts_of [] = [] ∷ []
parts_of (c ∷ text) = if c == 38 then [] ∷ parts_of text else with_first c (parts_of text)

-- no byte of the text is an ampersand
abbrev pub HasNoAmpersand : List ℕ → Type 0
HasNoAmpersand text = All (λ b. b ≢ 38) text

-- 1 to 10 digits without leading zeros
abbrev pub short_number : List ℕ → Option ℕ
short_number text = if nat_le (length text) 10 then plain_number_of text else None

-- what stands behind a name
abbrev pub number_behind : List ℕ → List ℕ → Option ℕ
number_behind name part = short_number (drop (length name) part)

abbrev pub begins : List ℕ → List ℕ → Bool
begins name part = bytes_eq (take (length name) part) name

-- what a pair says
unfoldable pub pair_of : List ℕ → Option Pair
pair_of part =
    if begins (codes "offset=") part then option_map pair.Offset (number_behind (codes "offset=") part)
    else if begins (codes "limit=") part then option_map pair.Limit (number_behind (codes "limit=") part)
    else None

abbrev pub and_others : Option Pair → Option (List Pair) → Option (List Pair)
and_others (Some first) (Some others) = Some (first ∷ others)
and_others _ _ = None

-- what the parts say, where each is a pair
abbrev pub pairs_of : List (List ℕ) → Option (List Pair)
pairs_of [] = Some []
pairs_of (part ∷ parts) = and_others (pair_of part) (pairs_of parts)

-- an empty query has no pairs
abbrev pub pairs_in : List ℕ → Option (List Pair)
pairs_in [] = Some []
pairs_in query = pairs_of (parts_of query)

-- ---- the page

abbrev pub offset_in : Pair → Option ℕ
offset_in (pair.Offset n) = Some n
offset_in (pair.Limit n) = None

abbrev pub limit_in : Pair → Option ℕ
limit_in (pair.Offset n) = None
limit_in (pair.Limit n) = Some n

abbrev pub first_or : ℕ → List ℕ → ℕ
first_or default [] = default
first_or default (n ∷ numbers) = n

-- each name stands there at most once, and the limit is from 1 to 100
abbrev pub is_page : List Pair → Bool
is_page pairs =
    nat_le (length (filter_map offset_in pairs)) 1 && nat_le (length (filter_map limit_in pairs)) 1
    && list_all (λ n. nat_le 1 n && nat_le n 100) (filter_map limit_in pairs)

-- what isn't named is the first row, and 20 of them
abbrev pub page_by : List Pair → Option Page
page_by pairs =
    if is_page pairs then Some (record {
      offset = first_or 0 (filter_map offset_in pairs);
      limit = first_or 20 (filter_map limit_in pairs);
    }) else None

-- the page that a query asks for
unfoldable pub page_of : List ℕ → Option Page
page_of query = option_and_then page_by (pairs_in query)
