-- Lemmas on keys that are retired.
use Rattle.std.proofs.Common.{◌≡◌, ◌<◌, ◌≤◌, ◌+◌, ◌++◌, ◌∷◌, ℕ, List, [], Option, None, Some, true, false, length, take}
use Rattle.std.proofs.Common.{take_all, drop, get_or, ap, refl, sym, ◌∙◌, slice_set}
use Rattle.std.proofs.lemmas.List.{take-append-drop, take-set, drop-set, set-get_or, take_more}
use Rattle.std.specs.Option.{is_some}
use Rattle.acvp_token.specs.Keys.{Ring}
use Rattle.acvp_keys.specs.Changes.{with_oldest_retired}

-- all entries are of retired keys
abbrev pub AreRetired : Ring → Type 0
AreRetired [] = Unit {0}
AreRetired (None ∷ ring) = AreRetired ring
AreRetired (Some key ∷ ring) = ⊥

-- then none is retired
pub all_retired : (ring : Ring) → AreRetired ring → ring ≡ with_oldest_retired ring
all_retired [] all = refl
all_retired (None ∷ ring) all = ap (λ (r : Ring). None ∷ r) (all_retired ring all)
all_retired (Some key ∷ ring) all = absurd all

one_more : (front : Ring) → AreRetired front → AreRetired (front ++ None ∷ [])
one_more [] all = tt
one_more (None ∷ front) all = one_more front all
one_more (Some key ∷ front) all = absurd all

first_key : (front rest : Ring) (key : List ℕ) → AreRetired front
    → with_oldest_retired (front ++ Some key ∷ rest) ≡ front ++ None ∷ rest
first_key [] rest key all = refl
first_key (None ∷ front) rest key all = ap (λ (r : Ring). None ∷ r) (first_key front rest key all)
first_key (Some other ∷ front) rest key all = absurd all

no_entry : (entry : Option (List ℕ)) → false ≡ is_some entry → entry ≡ None
no_entry None none = refl
no_entry (Some key) none = absurd (cc none)

-- a retired key more
pub more_retired : (ring : Ring) (n : ℕ) → n < length ring → AreRetired (take n ring)
    → false ≡ is_some (get_or ring n None) → AreRetired (take (n + 1) ring)
more_retired ring n small all none =
    rw (take_more ring n None small, no_entry (get_or ring n None) none) (one_more (take n ring) all)

-- the first that isn't retired
retired_key : (ring : Ring) (n : ℕ) (entry : Option (List ℕ)) → n < length ring → AreRetired (take n ring)
    → get_or ring n None ≡ entry → true ≡ is_some entry → slice_set ring n None ≡ with_oldest_retired ring
retired_key ring n None small all is some = absurd (cc some)
retired_key ring n (Some key) small all is some =
    let behind : drop n ring ≡ Some key ∷ drop (n + 1) ring =
    sym (ap (drop n) (set-get_or ring n None))
    ∙ (drop-set ring n (get_or ring n None) small ∙ ap (λ (e : Option (List ℕ)). e ∷ drop (n + 1) ring) is) in
    let whole : ring ≡ take n ring ++ Some key ∷ drop (n + 1) ring =
    sym (take-append-drop n ring) ∙ ap (λ (r : Ring). take n ring ++ r) behind in
    let new : slice_set ring n None ≡ take n ring ++ None ∷ drop (n + 1) ring =
    sym (take-append-drop n (slice_set ring n None))
    ∙ rw (take-set ring n None, drop-set ring n None small) refl in
    new ∙ sym (ap with_oldest_retired whole ∙ first_key (take n ring) (drop (n + 1) ring) key all)

pub retired : (ring : Ring) (n : ℕ) → n < length ring → AreRetired (take n ring)
    → true ≡ is_some (get_or ring n None) → slice_set ring n None ≡ with_oldest_retired ring
retired ring n small all some = retired_key ring n (get_or ring n None) small all refl some

-- none was found
pub none_left : (ring : Ring) (n : ℕ) → length ring ≤ n → AreRetired (take n ring) → ring ≡ with_oldest_retired ring
none_left ring n past all = all_retired ring (rw (take_all n ring past) at all)
