-- Places of a ring that headers name, for the private clauses of the code that looks them up.
use Rattle.std.specs.Prelude.{◌≡◌, ℕ, ◌<◌, List, true, codes, decimal}
use Rattle.serde_json.specs.Data.{Data}
use Rattle.serde_json.specs.Find.{get}
use Rattle.acvp_token.specs.Keys.{is_kid_of}

-- the text is the plain decimal of a place that a ring may have
pub record IsPlaceText (text : List ℕ) (place : ℕ) : Type 0 where
  pub within : place < 16
  pub same : text ≡ decimal place

-- a header names this place, which a ring may have
pub record NamesPlace (header : Data) (place : ℕ) : Type 0 where
  pub within : place < 16
  pub named : is_kid_of (get (codes "kid") header) place ≡ true

-- the text is the plain decimal of no place that a ring may have
abbrev pub IsNoPlaceText : List ℕ → Type 0
IsNoPlaceText text = (place : ℕ) → ¬ IsPlaceText text place

-- a header names no place that a ring may have
abbrev pub NamesNoPlace : Data → Type 0
NamesNoPlace header = (place : ℕ) → ¬ NamesPlace header place
