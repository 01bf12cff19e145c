-- The members of an object, put one by one.
use Rattle.std.specs.Prelude.{ℕ, List, [], ◌∷◌}
use Rattle.serde_json.specs.Data.{Data, string, Members, put}

-- these texts put into an object's members by their names, the first first
abbrev pub with_texts : List (List ℕ × List ℕ) → Members → Members
with_texts [] ms = ms
with_texts (t ∷ ts) ms = with_texts ts (put t.0 (string t.1) ms)

-- these values put into an object's members under these names, the last first
abbrev pub placed : List Data → List (List ℕ) → Members → Members
placed [] names ms = ms
placed (d ∷ ds) [] ms = ms
placed (d ∷ ds) (name ∷ names) ms = put name d (placed ds names ms)
