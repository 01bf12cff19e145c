-- The target of a request: its path and its query (RFC 3986, section 3).
use Rattle.std.specs.Prelude.{ℕ, ◌+◌, List, take, drop, length, position, ◌==◌, unwrap_or}

-- where the first question mark of a target stands, or its end
abbrev pub path_length : List ℕ → ℕ
path_length target = unwrap_or (position (λ b. b == 63) target) (length target)

-- the path stands before it, and the query behind it
abbrev pub path_of : List ℕ → List ℕ
path_of target = take (path_length target) target

abbrev pub query_of : List ℕ → List ℕ
query_of target = drop (path_length target + 1) target
