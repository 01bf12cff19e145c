-- Lemmas on the text of a certificate.
use Rattle.std.proofs.Common.{◌≡◌, refl, ap, sym, List, [], ◌∷◌, ◌++◌, map}
use Rattle.std.specs.List.{join_by}
use Rattle.std.proofs.lemmas.List.Folds.{flat_map-map}

-- what pieces are joined to is what their texts are
pub join_by-map : {X A : Type 0} (f : X → List A) (separator : List A) (xs : List X)
    → join_by f separator xs ≡ join_by (λ ys. ys) separator (map f xs)
join_by-map f separator [] = refl
join_by-map f separator (x ∷ xs) = ap (λ rest. f x ++ rest) (sym (flat_map-map (λ y. separator ++ y) f xs))
