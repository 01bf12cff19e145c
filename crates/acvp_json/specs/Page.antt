-- A page of a list: its rows, and the links to other pages.
use Rattle.std.specs.Prelude.{ℕ, ◌+◌, ◌-◌, ◌*◌, ◌/◌, ◌==◌, nat_lt, List, ◌++◌, codes, decimal, if◌then◌else◌, is_some}
use Rattle.std.specs.Prelude.{Option, None, Some}
use Rattle.serde_json.specs.Data.{Data, null, boolean, string, object, no_members, member}
use Rattle.acvp_json.specs.declared.page.Page.{Page}
use Rattle.acvp_json.specs.Values.{count, array_of}

-- where the next page begins, unless this one reaches the end of a list of `total` rows
abbrev pub next_offset : Page → ℕ → Option ℕ
next_offset page total = if nat_lt (page.offset + page.limit) total then Some (page.offset + page.limit) else None

-- where the page before begins, unless this one is the first: never before the first row
abbrev pub prev_offset : Page → Option ℕ
prev_offset page = if page.offset == 0 then None else Some (page.offset - page.limit)

-- where the last page begins: the greatest multiple of the limit below the total, and 0 of an empty list
abbrev pub last_offset : Page → ℕ → ℕ
last_offset page total = if total == 0 then 0 else page.limit * ((total - 1) / page.limit)

-- the URL of the list's page from an offset on
abbrev pub page_url : List ℕ → ℕ → ℕ → List ℕ
page_url path limit offset = path ++ codes "?offset=" ++ decimal offset ++ codes "&limit=" ++ decimal limit

abbrev pub link_data : List ℕ → ℕ → Option ℕ → Data
link_data path limit None = null
link_data path limit (Some offset) = string (page_url path limit offset)

abbrev pub links_data : List ℕ → Page → ℕ → Data
links_data path page total =
    object (member (codes "first") (link_data path page.limit (Some 0))
    (member (codes "last") (link_data path page.limit (Some (last_offset page total)))
    (member (codes "next") (link_data path page.limit (next_offset page total))
    (member (codes "prev") (link_data path page.limit (prev_offset page)) no_members))))

-- a page of the list at a path, which has `total` rows in all, with these rows
abbrev pub page_data : {X : Type 0} → (X → Data) → List ℕ → Page → ℕ → List X → Data
page_data data_of path page total rows =
    object (member (codes "data") (array_of data_of rows)
    (member (codes "incomplete") (boolean (is_some (next_offset page total)))
    (member (codes "links") (links_data path page total)
    (member (codes "totalCount") (count total) no_members))))
