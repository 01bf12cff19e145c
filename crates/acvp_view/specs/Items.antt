-- The lines of a JSON array: a mark and an item each, and the end.
use Rattle.std.specs.Prelude.{ℕ, List, [], ◌∷◌, ◌++◌, Bool, true, false, codes}

-- what stands before the first item, and before another
abbrev pub mark_of : Bool → List ℕ
mark_of true = codes "["
mark_of false = codes ","

-- what stands behind the last item, or alone where there is none
abbrev pub end_of : Bool → List ℕ
end_of true = codes "[]"
end_of false = codes "]"

-- the lines of these items, of which the first is the array's first or isn't
unfoldable pub item_lines : Bool → List (List ℕ) → List (List ℕ)
item_lines is_first [] = end_of is_first ∷ []
item_lines is_first (item ∷ items) = (mark_of is_first ++ item) ∷ item_lines false items

-- the lines of an array of these items
abbrev pub array_lines : List (List ℕ) → List (List ℕ)
array_lines items = item_lines true items
