-- The first broken condition of lists after one another, and where faults are told as others.
use Rattle.std.proofs.Common.{◌≡◌, ℕ, zero, suc, ◌+◌, ◌<◌, List, [], ◌∷◌, ◌++◌, length, get_or, take, true, false}
use Rattle.std.proofs.Common.{Option, None, Some, refl, sym, ◌∙◌, ap, arith}
use Rattle.std.specs.Prelude.{map, option_map}
use Rattle.std.specs.Option.{option_or}
use Rattle.std.specs.List.{flat_map}
use Rattle.std.proofs.lemmas.List.{take_more, map-append}
use Rattle.std.proofs.lemmas.List.Concat.{flat_map-append}
use Rattle.acvp_mac.specs.Conditions.{Condition, first_broken, with_fault}

pub first_broken-append : {F : Type 0} (xs ys : List (Condition F)) →
    first_broken (xs ++ ys) ≡ option_or (first_broken xs) (first_broken ys)
first_broken-append [] ys = refl
first_broken-append ((true, fault) ∷ xs) ys = first_broken-append xs ys
first_broken-append ((false, fault) ∷ xs) ys = refl

pub first_broken-map : {F G : Type 0} (f : F → G) (xs : List (Condition F)) →
    first_broken (map (with_fault f) xs) ≡ option_map f (first_broken xs)
first_broken-map f [] = refl
first_broken-map f ((true, fault) ∷ xs) = first_broken-map f xs
first_broken-map f ((false, fault) ∷ xs) = refl

-- where no condition of the first list is broken, the second list decides
pub after : {F : Type 0} (xs ys : List (Condition F)) → first_broken xs ≡ None
    → first_broken (xs ++ ys) ≡ first_broken ys
after xs ys h = rw (first_broken-append xs ys, h) refl

-- where one of the first list is broken, it decides
pub front : {F : Type 0} (xs ys : List (Condition F)) (f : F) → first_broken xs ≡ Some f
    → first_broken (xs ++ ys) ≡ Some f
front xs ys f h = rw (first_broken-append xs ys, h) refl

-- where none of both lists is broken, none of the first is
pub front-holds : {F : Type 0} (xs ys : List (Condition F)) → first_broken (xs ++ ys) ≡ None → first_broken xs ≡ None
front-holds {F} xs ys h = at (first_broken xs) refl
  where
    at : (o : Option F) → first_broken xs ≡ o → first_broken xs ≡ None
    at None e = e
    at (Some f) e = let both_ways : Some f ≡ None = sym (front xs ys f e) ∙ h in cc

-- the conditions of a list of values, in turn
pub holds-more : {F V D : Type 0} (conditions : D → List (Condition F)) (f : V → D) (vs : List V) (k : ℕ) (v : V)
    → k < length vs → v ≡ get_or vs k v
    → first_broken (flat_map conditions (map f (take k vs))) ≡ None → first_broken (conditions (f v)) ≡ None
    → first_broken (flat_map conditions (map f (take (k + 1) vs))) ≡ None
holds-more conditions f vs k v within is old now =
    rw (
      take_more vs k v within,
      map-append f (take k vs) (get_or vs k v ∷ []),
      flat_map-append conditions (map f (take k vs)) (f (get_or vs k v) ∷ []),
      ← is,
    )
    (after (flat_map conditions (map f (take k vs))) (conditions (f v) ++ []) old ∙ after (conditions (f v)) [] now)

fault-at : {F V D : Type 0} (conditions : D → List (Condition F)) (f : V → D) (v : V) (vs : List V) (k : ℕ) (fault : F)
    → k < length vs
    → first_broken (flat_map conditions (map f (take k vs))) ≡ None
    → first_broken (conditions (f (get_or vs k v))) ≡ Some fault
    → first_broken (flat_map conditions (map f vs)) ≡ Some fault
fault-at conditions f v [] k fault within old now = absurd (omega arith)
fault-at conditions f v (x ∷ xs) zero fault within old now =
    front (conditions (f x)) (flat_map conditions (map f xs)) fault now
fault-at conditions f v (x ∷ xs) (suc k) fault within old now =
    let here = front-holds (conditions (f x)) (flat_map conditions (map f (take k xs))) old in
    let rest : first_broken (flat_map conditions (map f (take k xs))) ≡ None =
    sym (after (conditions (f x)) (flat_map conditions (map f (take k xs))) here) ∙ old in
    after (conditions (f x)) (flat_map conditions (map f xs)) here
    ∙ fault-at conditions f v xs k fault (omega arith) rest now

pub first-fault : {F V D : Type 0} (conditions : D → List (Condition F)) (f : V → D) (vs : List V) (k : ℕ) (v : V)
    (fault : F) → k < length vs → v ≡ get_or vs k v
    → first_broken (flat_map conditions (map f (take k vs))) ≡ None → first_broken (conditions (f v)) ≡ Some fault
    → first_broken (flat_map conditions (map f vs)) ≡ Some fault
first-fault conditions f vs k v fault within is old now =
    fault-at conditions f v vs k fault within old (ap (λ w. first_broken (conditions (f w))) (sym is) ∙ now)
