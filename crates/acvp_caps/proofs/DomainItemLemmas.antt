-- The items of a domain as they are read.
use Rattle.std.proofs.Common.{◌≡◌, ℕ, zero, suc, ◌+◌, ◌-◌, ◌*◌, ◌/◌, ◌%◌, ◌<◌, ◌≤◌, List, [], ◌∷◌, ◌++◌, length, get_or}
use Rattle.std.proofs.Common.{take, Bool, true, false, cond, ◌&&◌, Option, None, Some, refl, sym, ◌∙◌, ap, subst, arith}
use Rattle.std.specs.Prelude.{map, nat_le, option_and_then, codes, nat_eq}
use Rattle.std.specs.List.{list_all, filter_map, cons_option}
use Rattle.std.proofs.Math.Nat.{mod-add-div, mul-mod_right, mul_assoc}
use Rattle.std.proofs.lemmas.List.{take_more, map-append}
use Rattle.std.proofs.lemmas.List.Elements.{filter_map-append}
use Rattle.std.proofs.lemmas.List.Folds.{list_all-append, list_any-from_Any}
use Rattle.std.proofs.lemmas.List.Sums.{AllPass-from_list_all, list_all-from_AllPass}
use Rattle.std.proofs.lemmas.Bool.Decides.{nat_tests}
use Rattle.serde_json.specs.Data.{Data}
use Rattle.serde_json.specs.View.{view}
use Rattle.serde_json.specs.declared.value.Value.{Value}
use Rattle.acvp_caps.specs.declared.item.Item.{Item}
use Rattle.acvp_caps.specs.declared.item.Item.TheVariants.{Single, Range}
use Rattle.acvp_caps.specs.declared.CapFault.TheVariants.{NotByteOriented, OutOfRange}
use Rattle.acvp_caps.specs.Items.{has, first, last, is_formed, is_byte_oriented, item_within}
use Rattle.acvp_caps.specs.Json.{whole_number, number_at}
use Rattle.acvp_caps.specs.Members.{is_member, members, all_within}
use Rattle.acvp_caps.specs.Private.Walk.{AllFormed, AllBounded}
use Rattle.acvp_caps.specs.Capability.{AreLengths}
use Rattle.acvp_caps.specs.Registered.{item_of, range_of, if_formed, single_or, is_item, length_conditions}
use Rattle.acvp_mac.specs.Conditions.{first_broken}
use Rattle.acvp_caps.proofs.MembersLemmas.{members-list, has-first, has-last, has-above_first, has-below_last, item-of}
use Rattle.acvp_caps.proofs.DomainLemmas.{first-member}
use Rattle.acvp_caps.proofs.Ranges.{range-has}
use Rattle.acvp_caps.proofs.Steps.{IsListOf, passes-at, place-of}

-- ---- one item more

pub filter_map-more : {V D I : Type 0} (h : D → Option I) (f : V → D) (vs : List V) (k : ℕ) (v : V) → k < length vs
    → v ≡ get_or vs k v
    → filter_map h (map f (take (k + 1) vs)) ≡ filter_map h (map f (take k vs)) ++ cons_option (h (f v)) []
filter_map-more h f vs k v within is =
    rw (
      take_more vs k v within,
      map-append f (take k vs) (get_or vs k v ∷ []),
      filter_map-append h (map f (take k vs)) (f (get_or vs k v) ∷ []),
      ← is,
    ) refl

and_true : (a b : Bool) → (a && (b && true)) ≡ (a && b)
and_true a true = refl
and_true a false = refl

pub list_all-more : {V D : Type 0} (p : D → Bool) (f : V → D) (vs : List V) (k : ℕ) (v : V) → k < length vs
    → v ≡ get_or vs k v
    → list_all p (map f (take (k + 1) vs)) ≡ (list_all p (map f (take k vs)) && p (f v))
list_all-more p f vs k v within is =
    rw (
      take_more vs k v within,
      map-append f (take k vs) (get_or vs k v ∷ []),
      list_all-append p (map f (take k vs)) (f (get_or vs k v) ∷ []),
      ← is,
    )
    (and_true (list_all p (map f (take k vs))) (p (f v)))

and_false : (a b : Bool) → b ≡ false → (a && b) ≡ false
and_false true b h = h
and_false false b h = refl

fails-at : {V D : Type 0} (p : D → Bool) (f : V → D) (v : V) (vs : List V) (k : ℕ) → k < length vs
    → p (f (get_or vs k v)) ≡ false → list_all p (map f vs) ≡ false
fails-at p f v [] k within h = absurd (omega arith)
fails-at p f v (x ∷ xs) zero within h = rw h refl
fails-at p f v (x ∷ xs) (suc k) within h =
    and_false (p (f x)) (list_all p (map f xs)) (fails-at p f v xs k (omega arith) h)

-- an element that fails
pub list_all-fails : {V D : Type 0} (p : D → Bool) (f : V → D) (vs : List V) (k : ℕ) (v : V) → k < length vs
    → v ≡ get_or vs k v
    → p (f v) ≡ false → list_all p (map f vs) ≡ false
list_all-fails p f vs k v within is fails = fails-at p f v vs k within (ap (λ w. p (f w)) (sym is) ∙ fails)

-- what is read so far, with one more
pub kept-more : {V D I : Type 0} (h : D → Option I) (f : V → D) (vs : List V) (k : ℕ) (v : V) (items new : List I)
    (i : I) → k < length vs → v ≡ get_or vs k v
    → items ≡ filter_map h (map f (take k vs)) → h (f v) ≡ Some i → new ≡ items ++ i ∷ []
    → new ≡ filter_map h (map f (take (k + 1) vs))
kept-more {V} {D} {I} h f vs k v items new i within is old read after =
    after ∙ ap (λ (js : List I). js ++ i ∷ []) old
    ∙ ap (λ (o : Option I). filter_map h (map f (take k vs)) ++ cons_option o []) (sym read)
    ∙ sym (filter_map-more h f vs k v within is)

pub all-more : (vs : List Value) (k : ℕ) (v : Value) (i : Item) → k < length vs → v ≡ get_or vs k v
    → list_all is_item (map view (take k vs)) ≡ true → item_of (view v) ≡ Some i
    → list_all is_item (map view (take (k + 1) vs)) ≡ true
all-more vs k v i within is old read =
    list_all-more is_item view vs k v within is ∙ rw (old, read) refl

-- ---- items that are read have the form

formed-if : (i j : Item) (b : Bool) → is_formed i ≡ b → cond b (Some i) None ≡ Some j → is_formed j ≡ true
formed-if i j true e h = ap is_formed (sym (same h)) ∙ e
  where
    same : Some i ≡ Some j → i ≡ j
    same g = cc
formed-if i j false e h = cc

formed-range : (o p q : Option ℕ) (j : Item)
    → option_and_then (λ min. option_and_then
    (λ max. option_and_then (λ increment. if_formed (Range min max increment)) q) p) o ≡ Some j → is_formed j ≡ true
formed-range None p q j h = cc
formed-range (Some min) None q j h = cc
formed-range (Some min) (Some max) None j h = cc
formed-range (Some min) (Some max) (Some increment) j h =
    formed-if (Range min max increment) j (is_formed (Range min max increment)) refl h

formed-single : (range : Option Item) (o : Option ℕ) (j : Item) → (range ≡ Some j → is_formed j ≡ true)
    → single_or range o ≡ Some j → is_formed j ≡ true
formed-single range None j form h = form h
formed-single range (Some n) j form h = ap is_formed (sym (same h))
  where
    same : Some (Single n) ≡ Some j → Single n ≡ j
    same g = cc

formed-item : (d : Data) (j : Item) → item_of d ≡ Some j → is_formed j ≡ true
formed-item d j h = formed-single (range_of d) (whole_number d) j
    (λ e. formed-range (number_at (codes "min") d) (number_at (codes "max") d) (number_at (codes "increment") d) j e) h

all-formed-cons : (o : Option Item) (is : List Item) → ((j : Item) → o ≡ Some j → is_formed j ≡ true)
    → list_all is_formed is ≡ true → list_all is_formed (cons_option o is) ≡ true
all-formed-cons None is h rest = rest
all-formed-cons (Some i) is h rest = rw (h i refl, rest) refl

all-formed : (ds : List Data) → list_all is_formed (filter_map item_of ds) ≡ true
all-formed [] = refl
all-formed (d ∷ ds) = all-formed-cons (item_of d) (filter_map item_of ds) (formed-item d) (all-formed ds)

pub formed-items : (ds : List Data) → AllFormed (filter_map item_of ds)
formed-items ds = AllPass-from_list_all is_formed (filter_map item_of ds) (all-formed ds)

-- ---- within two limits

get-same : {X : Type 0} (xs : List X) (k : ℕ) (d e : X) → k < length xs → get_or xs k d ≡ get_or xs k e
get-same [] k d e within = absurd (omega arith)
get-same (x ∷ xs) zero d e within = refl
get-same (x ∷ xs) (suc k) d e within = get-same xs k d e (omega arith)

same_truth : (a b : Bool) → (a ≡ true → b ≡ true) → (b ≡ true → a ≡ true) → a ≡ b
same_truth true b to from = sym (to refl)
same_truth false true to from = from refl
same_truth false false to from = refl

pub record IsWithin (low high n : ℕ) : Type 0 where
  pub least : low ≤ n
  pub most : n ≤ high

from_eq : (a b : ℕ) → nat_eq a b ≡ true → a ≡ b
from_eq a b h = grind (arith, nat_tests)

from_le : (a b : ℕ) → nat_le a b ≡ true → a ≤ b
from_le a b h = grind (arith, nat_tests)

both : (a b : Bool) → (a && b) ≡ true → (a ≡ true) × (b ≡ true)
both true b h = (refl, h)
both false b h = cc

pub within-means : (low high n : ℕ) → (nat_le low n && nat_le n high) ≡ true → IsWithin low high n
within-means low high n h =
    let parts = both (nat_le low n) (nat_le n high) h in
    record { least = from_le low n parts.0; most = from_le n high parts.1 }

to_within : (low high m n : ℕ) → low ≤ m → n ≤ high → (nat_le low m && nat_le n high) ≡ true
to_within low high m n least most = grind (arith, nat_tests)

-- each number that passes lies within, where all of the list do
pub passing-within : (p : ℕ → Bool) (xs : List ℕ) (low high n : ℕ) → IsListOf p xs → all_within low high xs ≡ true
    → p n ≡ true → IsWithin low high n
passing-within p xs low high n l all there =
    let at = place-of p xs l n there in
    let h = AllPass-from_list_all (λ m. nat_le low m && nat_le m high) xs all at.place 0 at.within in
    subst (λ m. IsWithin low high m) at.number (within-means low high (get_or xs at.place 0) h)

items-from : (low high : ℕ) (items : List Item) → AllFormed items → all_within low high (members items) ≡ true
    → list_all (item_within low high) items ≡ true
items-from low high items formed all = list_all-from_AllPass (item_within low high) items (λ k d within.
    let i = get_or items k d in
    let form : is_formed i ≡ true = formed k d within in
    let here : get_or items k i ≡ i = get-same items k i d within in
    let low_one = passing-within (is_member items) (members items) low high (first i) (members-list items) all
    (list_any-from_Any (λ j. has j (first i)) items (k, i, within, here, has-first i form)) in
    let high_one = passing-within (is_member items) (members items) low high (last i) (members-list items) all
    (list_any-from_Any (λ j. has j (last i)) items (k, i, within, here, has-last i form)) in
    to_within low high (first i) (last i) low_one.least high_one.most)

items-to : (low high : ℕ) (items : List Item) → AllFormed items → list_all (item_within low high) items ≡ true
    → all_within low high (members items) ≡ true
items-to low high items formed all =
    list_all-from_AllPass (λ n. nat_le low n && nat_le n high) (members items) (λ k d within.
    let same : get_or (members items) k d ≡ get_or (members items) k 0 = get-same (members items) k d 0 within in
    let n = get_or (members items) k 0 in
    let there : is_member items n ≡ true = passes-at (is_member items) (members items) (members-list items) k within in
    let i = item-of items n there in
    let form : is_formed i.item ≡ true = ap is_formed (sym i.here) ∙ formed i.place i.item i.within in
    let h : item_within low high i.item ≡ true = ap (item_within low high) (sym i.here)
    ∙ AllPass-from_list_all (item_within low high) items all i.place i.item i.within in
    let parts = both (nat_le low (first i.item)) (nat_le (last i.item) high) h in
    let least : low ≤ n = omega (arith, from_le low (first i.item) parts.0, has-above_first i.item n i.there) in
    let most : n ≤ high = omega (arith, from_le (last i.item) high parts.1, has-below_last i.item n form i.there) in
    ap (λ m. nat_le low m && nat_le m high) same ∙ to_within low high n n least most)

-- all members lie within exactly where each item begins and ends within
pub within-members : (low high : ℕ) (items : List Item) → AllFormed items
    → all_within low high (members items) ≡ list_all (item_within low high) items
within-members low high items formed =
    same_truth (all_within low high (members items)) (list_all (item_within low high) items)
    (items-from low high items formed) (items-to low high items formed)

pub bounded-items : (low high : ℕ) (items : List Item) → high ≤ 524288 → list_all (item_within low high) items ≡ true
    → AllBounded items
bounded-items low high items limit all = λ k d within.
    let h = AllPass-from_list_all (item_within low high) items all k d within in
    let most = (both (nat_le low (first (get_or items k d))) (nat_le (last (get_or items k d)) high) h).1 in
    omega (arith, from_le (last (get_or items k d)) high most)

-- ---- the tests of a domain

pub lengths-outcome : (low high : ℕ) (items : List Item) (whole inside : Bool) → AllFormed items
    → whole ≡ list_all is_byte_oriented items → inside ≡ list_all (item_within low high) items
    → first_broken (length_conditions low high items) ≡ first_broken ((whole, NotByteOriented) ∷ (inside, OutOfRange)
    ∷ [])
lengths-outcome low high items whole inside formed w i = rw (within-members low high items formed, ← w, ← i) refl

-- ---- lengths

whole_has : (i : Item) (n : ℕ) → is_byte_oriented i ≡ true → has i n ≡ true → n % 8 ≡ 0
whole_has (Single value) n whole there = ap (λ m. m % 8) (sym (from_eq value n there)) ∙ from_eq (value % 8) 0 whole
whole_has (Range min max increment) n whole there =
    let parts = both (nat_eq (min % 8) 0) (nat_eq (increment % 8) 0) whole in
    let in_range = range-has min max increment n there in
    stepped min increment n (from_eq (min % 8) 0 parts.0)
    (from_eq (increment % 8) 0 parts.1) in_range.low in_range.whole
  where
    stepped : (min increment n : ℕ) → min % 8 ≡ 0 → increment % 8 ≡ 0 → min ≤ n → (n - min) % increment ≡ 0 → n % 8 ≡ 0
    stepped min increment n e f le g =
        let j = increment / 8 in
        let q = (n - min) / increment in
        let whole_increment : increment ≡ 8 * j = omega (arith, mod-add-div increment 8) in
        let step : increment * q ≡ 8 * (j * q) = ap (λ k. k * q) whole_increment ∙ mul_assoc 8 j q in
        let sum : n ≡ 8 * (min / 8 + j * q) = omega (arith, mod-add-div min 8, mod-add-div (n - min) increment, step) in
        ap (λ m. m % 8) sum ∙ mul-mod_right 8 (min / 8 + j * q)

-- the members of whole-byte items within two limits are lengths
pub are-lengths : (low high : ℕ) (items : List Item) → AllFormed items → 1 ≤ length items
    → list_all is_byte_oriented items ≡ true
    → list_all (item_within low high) items ≡ true → AreLengths low high (members items)
are-lengths low high items formed some whole inside = record {
  some =
      let at = place-of (is_member items) (members items) (members-list items) (first (get_or items 0 (Single 0)))
      (first-member items formed some) in
      omega (arith, at.within);
  ascending = (members-list items).ascending;
  within = λ k d lt.
      let same = get-same (members items) k d 0 lt in
      let n = passing-within (is_member items) (members items) low high (get_or (members items) k 0)
      (members-list items) (items-to low high items formed inside)
      (passes-at (is_member items) (members items) (members-list items) k lt) in
      (omega (arith, same, n.least), omega (arith, same, n.most));
  whole_bytes = λ k d lt.
      let same = get-same (members items) k d 0 lt in
      let i = item-of items (get_or (members items) k 0)
      (passes-at (is_member items) (members items) (members-list items) k lt) in
      let form : is_byte_oriented i.item ≡ true = ap is_byte_oriented (sym i.here)
      ∙ AllPass-from_list_all is_byte_oriented items whole i.place i.item i.within in
      ap (λ m. m % 8) same ∙ whole_has i.item (get_or (members items) k 0) form i.there;
}
