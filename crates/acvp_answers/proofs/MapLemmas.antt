-- Lemmas on the entries of a map, whose values are shown otherwise.
use Rattle.std.proofs.Common.{◌≡◌, ℕ, List, [], ◌∷◌, map, Bool, true, false, cond, Some, option_map, refl, ap}
use Rattle.std.specs.BTreeMap.{insert_entry}
use Rattle.std.specs.Map.{keys_of, lookup}
use Rattle.std.specs.Ordering.{nat_cmp, match_ordering}
use Rattle.std.specs.declared.cmp.Ordering.{Ordering}
use Rattle.std.specs.declared.cmp.Ordering.TheVariants.{Less, Equal, Greater}

pub keys_same : {X Y : Type 0} (f : X → Y) (es : List (ℕ × X)) → keys_of (map (λ e. (e.0, f e.1)) es) ≡ keys_of es
keys_same f [] = refl
keys_same f (e ∷ es) = ap (λ ks. e.0 ∷ ks) (keys_same f es)

-- one step of an insertion, by how the keys compare
placed : {X Y : Type 0} (f : X → Y) (e : ℕ × X) (es : List (ℕ × X)) (k : ℕ) (v : X)
    → map (λ e. (e.0, f e.1)) (insert_entry nat_cmp es k v) ≡ insert_entry nat_cmp (map (λ e. (e.0, f e.1)) es) k (f v)
    → (o : Ordering) →
    map (λ e. (e.0, f e.1)) (match_ordering o ((k, v) ∷ e ∷ es) ((e.0, v) ∷ es) (e ∷ insert_entry nat_cmp es k v))
    ≡ match_ordering o ((k, f v) ∷ (e.0, f e.1) ∷ map (λ e. (e.0, f e.1)) es) ((e.0, f v) ∷ map (λ e. (e.0, f e.1)) es)
    ((e.0, f e.1) ∷ insert_entry nat_cmp (map (λ e. (e.0, f e.1)) es) k (f v))
placed f e es k v more Less = refl
placed f e es k v more Equal = refl
placed f e es k v more Greater = ap (λ rest. (e.0, f e.1) ∷ rest) more

pub insert_same : {X Y : Type 0} (f : X → Y) (es : List (ℕ × X)) (k : ℕ) (v : X)
    → map (λ e. (e.0, f e.1)) (insert_entry nat_cmp es k v) ≡ insert_entry nat_cmp (map (λ e. (e.0, f e.1)) es) k (f v)
insert_same f [] k v = refl
insert_same f (e ∷ es) k v = placed f e es k v (insert_same f es k v) (nat_cmp k e.0)

found : {X Y : Type 0} (f : X → Y) (e : ℕ × X) (es : List (ℕ × X)) (p : ℕ → Bool)
    → lookup p (map (λ e. (e.0, f e.1)) es) ≡ option_map f (lookup p es) → (b : Bool) →
    cond b (Some (f e.1)) (lookup p (map (λ e. (e.0, f e.1)) es)) ≡ option_map f (cond b (Some e.1) (lookup p es))
found f e es p more true = refl
found f e es p more false = more

pub lookup_same : {X Y : Type 0} (f : X → Y) (p : ℕ → Bool) (es : List (ℕ × X))
    → lookup p (map (λ e. (e.0, f e.1)) es) ≡ option_map f (lookup p es)
lookup_same f p [] = refl
lookup_same f p (e ∷ es) = found f e es p (lookup_same f p es) (p e.0)
