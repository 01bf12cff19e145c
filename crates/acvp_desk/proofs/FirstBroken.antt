-- What is judged, and the first condition that doesn't hold.
use Rattle.std.proofs.Common.{◌≡◌, ◌⊎◌, List, [], ◌∷◌, ◌++◌, Bool, true, false, Option, None, Some, Ok, Err, inl, inr}
use Rattle.std.proofs.Common.{refl, ◌∙◌}
use Rattle.acvp_mac.specs.Conditions.{Condition, first_broken, judged, unless}

pub broken : {F X : Type 0} (conditions : List (Condition F)) (value : X) (fault : F)
    → judged conditions value ≡ Err fault → first_broken conditions ≡ Some fault
broken {F = F} conditions value fault is = go (first_broken conditions) is
  where
    go : (b : Option F) → unless b value ≡ Err fault → b ≡ Some fault
    go None e = absurd (cc)
    go (Some f) e = cc

pub held : {F X : Type 0} (conditions : List (Condition F)) (value x : X) → judged conditions value ≡ Ok x
    → first_broken conditions ≡ None
held {F = F} conditions value x is = go (first_broken conditions) is
  where
    go : (b : Option F) → unless b value ≡ Ok x → b ≡ None
    go None e = refl
    go (Some f) e = absurd (cc)

-- conditions after one another
pub front_broken : {F : Type 0} (front rest : List (Condition F)) (fault : F) → first_broken front ≡ Some fault
    → first_broken (front ++ rest) ≡ Some fault
front_broken [] rest fault e = absurd (cc)
front_broken {F = F} (c ∷ front) rest fault e = go c.0 (front_broken front rest fault) e
  where
    go : (b : Bool) → (first_broken front ≡ Some fault → first_broken (front ++ rest) ≡ Some fault)
        → first_broken ((b, c.1) ∷ front) ≡ Some fault
        → first_broken ((b, c.1) ∷ front ++ rest) ≡ Some fault
    go true later e = later e
    go false later e = e

pub denied_first : {F : Type 0} (front rest : List (Condition F)) (unavailable fault : F)
    → (fault ≡ unavailable) ⊎ (first_broken front ≡ Some fault) → (fault ≡ unavailable)
    ⊎ (first_broken (front ++ rest) ≡ Some fault)
denied_first front rest unavailable fault why =
    elim why [ inl e ↦ inl e | inr broken ↦ inr (front_broken front rest fault broken) ]

pub front_held : {F : Type 0} (front rest : List (Condition F)) → first_broken front ≡ None
    → first_broken (front ++ rest) ≡ first_broken rest
front_held [] rest e = refl
front_held {F = F} (c ∷ front) rest e = go c.0 (front_held front rest) e
  where
    go : (b : Bool) → (first_broken front ≡ None → first_broken (front ++ rest) ≡ first_broken rest)
        → first_broken ((b, c.1) ∷ front) ≡ None
        → first_broken ((b, c.1) ∷ front ++ rest) ≡ first_broken rest
    go true later e = later e
    go false later e = absurd (cc)

pub whole_held : {F : Type 0} (front rest : List (Condition F)) → first_broken (front ++ rest) ≡ None
    → first_broken front ≡ None
whole_held [] rest e = refl
whole_held {F = F} (c ∷ front) rest e = go c.0 (whole_held front rest) e
  where
    go : (b : Bool) → (first_broken (front ++ rest) ≡ None → first_broken front ≡ None)
        → first_broken ((b, c.1) ∷ front ++ rest) ≡ None → first_broken ((b, c.1) ∷ front) ≡ None
    go true later e = later e
    go false later e = absurd (cc)

pub back_held : {F : Type 0} (front rest : List (Condition F)) → first_broken (front ++ rest) ≡ None
    → first_broken rest ≡ None
back_held [] rest e = e
back_held {F = F} (c ∷ front) rest e = go c.0 (back_held front rest) e
  where
    go : (b : Bool) → (first_broken (front ++ rest) ≡ None → first_broken rest ≡ None)
        → first_broken ((b, c.1) ∷ front ++ rest) ≡ None → first_broken rest ≡ None
    go true later e = later e
    go false later e = absurd (cc)

pub first_held : {F : Type 0} (b : Bool) (fault : F) (rest : List (Condition F))
    → first_broken ((b, fault) ∷ rest) ≡ None → b ≡ true
first_held true fault rest e = refl
first_held false fault rest e = absurd (cc)

-- ---- both hold, or the second is broken

pub all_hold : {F : Type 0} (front rest : List (Condition F)) → first_broken front ≡ None → first_broken rest ≡ None
    → first_broken (front ++ rest) ≡ None
all_hold front rest held none = front_held front rest held ∙ none

pub denied_later : {F : Type 0} (front rest : List (Condition F)) (unavailable rule : F) → first_broken front ≡ None
    → (rule ≡ unavailable) ⊎ (first_broken rest ≡ Some rule) → (rule ≡ unavailable)
    ⊎ (first_broken (front ++ rest) ≡ Some rule)
denied_later front rest unavailable rule held why =
    elim why [ inl fault ↦ inl fault | inr broken ↦ inr (front_held front rest held ∙ broken) ]
