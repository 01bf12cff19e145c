-- The members of a domain.
use Rattle.std.proofs.Common.{◌≡◌, ℕ, zero, suc, ◌+◌, ◌-◌, ◌*◌, ◌/◌, ◌%◌, ◌<◌, ◌≤◌, List, [], ◌∷◌, ◌++◌, length, get_or}
use Rattle.std.proofs.Common.{take, max, inl, inr, Bool, true, false, nat_eq, ◌&&◌, ◌||◌, Option, None, Some, refl, sym}
use Rattle.std.proofs.Common.{◌∙◌, ap, subst, cond, arith}
use Rattle.std.specs.Prelude.{◌⊎◌, nat_le, nat_lt, filter, option_map, unwrap_or}
use Rattle.std.specs.List.{list_any, slice_get, range_with_len}
use Rattle.std.specs.List.Sorted.{IsStrictlyIncreasing}
use Rattle.std.proofs.Math.Nat.{mod-add-div, mod-le, mul-le-mul_left, mul-mod_right, zero-mod}
use Rattle.std.proofs.lemmas.List.{take_more}
use Rattle.std.proofs.lemmas.List.Kept.{IsStrictlyIncreasing-filter}
use Rattle.std.proofs.lemmas.List.Folds.{Any-from_list_any, list_any-append}
use Rattle.std.proofs.lemmas.List.FromFn.{length-range_with_len, get_or-range_with_len}
use Rattle.std.proofs.lemmas.Option.{slice_get_within, get_or_from_slice_get, slice_get-get_or, slice_get_past}
use Rattle.std.proofs.lemmas.Bool.Decides.{nat_tests}
use Rattle.acvp_caps.specs.declared.item.Item.{Item}
use Rattle.acvp_caps.specs.declared.item.Item.TheVariants.{Single, Range}
use Rattle.acvp_caps.specs.Items.{has, bound, first, last, is_formed}
use Rattle.acvp_caps.specs.Members.{is_member, greatest_bound, members}
use Rattle.acvp_caps.specs.Private.Walk.{AllFormed, AllBounded, IsNextMember, IsGreatest}
use Rattle.acvp_caps.proofs.Ranges.{range-has, has-range}
use Rattle.acvp_caps.proofs.Steps.{IsListOf, passes-at, place-below, next-first, next-more}

-- ---- the list

same_number : (a b : ℕ) → nat_eq a b ≡ true → a ≡ b
same_number a b h = grind (arith, nat_tests)

itself : (a : ℕ) → nat_eq a a ≡ true
itself a = grind (arith, nat_tests)

has-bound : (i : Item) (n : ℕ) → has i n ≡ true → n ≤ bound i
has-bound (Single value) n h = omega (arith, same_number value n h)
has-bound (Range min max increment) n h = (range-has min max increment n h).high

or_cases : (a b : Bool) → (a || b) ≡ true → (a ≡ false → b ≡ true)
or_cases true b h e = cc
or_cases false b h e = h

member-bound : (items : List Item) (n : ℕ) → is_member items n ≡ true → n ≤ greatest_bound items
member-bound [] n h = cc
member-bound (i ∷ is) n h = at (has i n) refl (member-bound is n)
  where
    at : (b : Bool) → has i n ≡ b → (is_member is n ≡ true → n ≤ greatest_bound is)
        → n ≤ max (bound i) (greatest_bound is)
    at true e rest = omega (arith, has-bound i n e)
    at false e rest = omega (arith, rest (or_cases (has i n) (is_member is n) h e))

any-range : (n a k : ℕ) → list_any (λ m. nat_eq m n) (range_with_len a k) ≡ (nat_le a n && nat_lt n (a + k))
any-range n a zero = grind (arith, nat_tests)
any-range n a (suc k) = rw (any-range n (a + 1) k) (grind (arith, nat_tests))

filter_step : (px same pn inside out : Bool) → (same ≡ true → pn ≡ px) → out ≡ (pn && inside)
    → cond px (same || out) out ≡ (pn && (same || inside))
filter_step true true true inside out agree h = refl
filter_step true true false inside out agree h = absurd (no (agree refl))
  where
    no : false ≡ true → ⊥
    no e = cc
filter_step true false true inside out agree h = h
filter_step true false false inside out agree h = h
filter_step false true true inside out agree h = absurd (no (agree refl))
  where
    no : true ≡ false → ⊥
    no e = cc
filter_step false true false inside out agree h = h
filter_step false false true inside out agree h = h
filter_step false false false inside out agree h = h

any-filter : (p : ℕ → Bool) (n : ℕ) (xs : List ℕ)
    → list_any (λ m. nat_eq m n) (filter p xs) ≡ (p n && list_any (λ m. nat_eq m n) xs)
any-filter p n [] = at (p n)
  where
    at : (b : Bool) → false ≡ (b && false)
    at true = refl
    at false = refl
any-filter p n (x ∷ xs) =
    split (p x) ∙ filter_step (p x) (nat_eq x n) (p n) (list_any (λ m. nat_eq m n) xs)
    (list_any (λ m. nat_eq m n) (filter p xs)) agree (any-filter p n xs)
  where
    agree : nat_eq x n ≡ true → p n ≡ p x
    agree e = ap p (sym (same_number x n e))

    split : (b : Bool) → list_any (λ m. nat_eq m n) (cond b (x ∷ filter p xs) (filter p xs))
        ≡ cond b (nat_eq x n || list_any (λ m. nat_eq m n) (filter p xs)) (list_any (λ m. nat_eq m n) (filter p xs))
    split true = refl
    split false = refl

in_range : (n bound : ℕ) → n ≤ bound → (nat_le 0 n && nat_lt n (0 + suc bound)) ≡ true
in_range n bound h = grind (arith, nat_tests)

range-ascending : (a n : ℕ) → IsStrictlyIncreasing (range_with_len a n)
range-ascending a n = λ k within.
    let short : k + 1 < n = omega (arith, length-range_with_len a n) in
    omega (arith, get_or-range_with_len a n k 0 (omega arith), get_or-range_with_len a n (k + 1) 0 short)

-- the members are exactly the numbers that some item has, ascending
pub members-list : (items : List Item) → IsListOf (is_member items) (members items)
unfolding members
members-list items = record {
  ascending = IsStrictlyIncreasing-filter (is_member items) (range_with_len 0 (suc (greatest_bound items)))
      (range-ascending 0 (suc (greatest_bound items)));
  exact = λ n. any-filter (is_member items) n (range_with_len 0 (suc (greatest_bound items))) ∙ exact n;
}
  where
    at : (n : ℕ) (b : Bool) → is_member items n ≡ b
        → (b && list_any (λ m. nat_eq m n) (range_with_len 0 (suc (greatest_bound items)))) ≡ b
    at n true e = any-range n 0 (suc (greatest_bound items))
        ∙ in_range n (greatest_bound items) (member-bound items n e)
    at n false e = refl

    exact : (n : ℕ) → (is_member items n && list_any (λ m. nat_eq m n) (range_with_len 0 (suc (greatest_bound items))))
        ≡ is_member items n
    exact n = at n (is_member items n) refl

-- ---- the last number of an item

-- the greatest multiple of k up to d
whole_part : (d k : ℕ) → d - d % k ≡ k * (d / k)
whole_part d k = omega (arith, mod-add-div d k)

pub multiple_below : (m d k : ℕ) → m ≤ d → m % k ≡ 0 → d % k < k → m ≤ d - d % k
multiple_below m d k le whole part =
    let no : d / k < m / k → ⊥ = λ more.
    let wide : k * (d / k + 1) ≤ k * (m / k) = mul-le-mul_left k (omega arith) in
    omega (arith, mod-add-div d k, mod-add-div m k) in
    let narrow : k * (m / k) ≤ k * (d / k) = mul-le-mul_left k (omega (arith, no)) in
    omega (arith, mod-add-div d k, mod-add-div m k)

pub record IsRange (min max increment : ℕ) : Type 0 where
  pub ordered : min ≤ max
  pub rising : 1 ≤ increment

from_le : (a b : ℕ) → nat_le a b ≡ true → a ≤ b
from_le a b h = grind (arith, nat_tests)

both : (a b : Bool) → (a && b) ≡ true → (a ≡ true) × (b ≡ true)
both true b h = (refl, h)
both false b h = cc

pub formed-range : (min max increment : ℕ) → is_formed (Range min max increment) ≡ true → IsRange min max increment
formed-range min max increment h =
    let parts = both (nat_le min max) (nat_le 1 increment) h in
    record { ordered = from_le min max parts.0; rising = from_le 1 increment parts.1 }

range-last : (min max increment : ℕ) → min ≤ max → 1 ≤ increment
    → has (Range min max increment) (max - (max - min) % increment) ≡ true
range-last min max increment ordered rising =
    let left : (max - min) % increment ≤ max - min = mod-le (max - min) increment in
    let e : max - (max - min) % increment - min ≡ increment * ((max - min) / increment) =
    omega (arith, mod-add-div (max - min) increment) in
    has-range min max increment (max - (max - min) % increment) (omega arith) (omega arith)
    (ap (λ n. n % increment) e ∙ mul-mod_right increment ((max - min) / increment))

pub has-last : (i : Item) → is_formed i ≡ true → has i (last i) ≡ true
has-last (Single value) h = itself value
has-last (Range min max increment) h =
    let parts = formed-range min max increment h in range-last min max increment parts.ordered parts.rising

range-below : (min max increment n : ℕ) → 1 ≤ increment → has (Range min max increment) n ≡ true
    → n ≤ max - (max - min) % increment
range-below min max increment n rising h =
    let parts = range-has min max increment n h in
    let low = parts.low in
    let high = parts.high in
    let below : n - min ≤ (max - min) - (max - min) % increment =
    multiple_below (n - min) (max - min) increment (omega arith) parts.whole (omega arith) in
    omega (arith, mod-le (max - min) increment)

pub has-below_last : (i : Item) (n : ℕ) → is_formed i ≡ true → has i n ≡ true → n ≤ last i
has-below_last (Single value) n h there = omega (arith, same_number value n there)
has-below_last (Range min max increment) n h there =
    range-below min max increment n (formed-range min max increment h).rising there

pub has-first : (i : Item) → is_formed i ≡ true → has i (first i) ≡ true
has-first (Single value) h = itself value
has-first (Range min max increment) h =
    let ordered = (formed-range min max increment h).ordered in
    has-range min max increment min (omega arith) ordered (first_whole min increment)
  where
    first_whole : (min increment : ℕ) → (min - min) % increment ≡ 0
    first_whole min increment = let e : min - min ≡ 0 = omega arith in ap (λ n. n % increment) e ∙ zero-mod increment

pub has-above_first : (i : Item) (n : ℕ) → has i n ≡ true → first i ≤ n
has-above_first (Single value) n there = omega (arith, same_number value n there)
has-above_first (Range min max increment) n there = (range-has min max increment n there).low

-- an item that has a member
pub record IsItemOf (items : List Item) (n : ℕ) : Type 0 where
  pub place : ℕ
  pub item : Item
  pub within : place < length items
  pub here : get_or items place item ≡ item
  pub there : has item n ≡ true

pub item-of : (items : List Item) (n : ℕ) → is_member items n ≡ true → IsItemOf items n
item-of items n h =
    let any = Any-from_list_any (λ i. has i n) items h in
    record { place = any.0; item = any.1; within = any.2; here = any.3; there = any.4 }

pub member-limit : (items : List Item) (n : ℕ) → AllFormed items → AllBounded items → is_member items n ≡ true
    → n ≤ 524288
member-limit items n formed bounded there =
    let i = item-of items n there in
    let form : is_formed i.item ≡ true = ap is_formed (sym i.here) ∙ formed i.place i.item i.within in
    let most : last i.item ≤ 524288 = subst (λ (j : Item). last j ≤ 524288) i.here (bounded i.place i.item i.within) in
    omega (arith, has-below_last i.item n form i.there)

-- the member at a place is not below that place, and is within the limit
pub record IsMemberAt (items : List Item) (k n : ℕ) : Type 0 where
  pub within : k < length (members items)
  pub place : k ≤ n
  pub limit : n ≤ 524288

pub member-at : (items : List Item) (k n : ℕ) → AllFormed items → AllBounded items
    → slice_get (members items) k ≡ Some n → IsMemberAt items k n
member-at items k n formed bounded at =
    let l = members-list items in
    let within : k < length (members items) = slice_get_within (members items) k n at in
    let here : get_or (members items) k 0 ≡ n = get_or_from_slice_get (members items) k n 0 at in
    let there : is_member items n ≡ true = ap (is_member items) (sym here)
    ∙ passes-at (is_member items) (members items) l k within in
    record {
      within = within;
      place = omega (arith, place-below (members items) l.ascending k within);
      limit = member-limit items n formed bounded there;
    }

-- ---- the steps of the walks

slice_get-none : (xs : List ℕ) (k : ℕ) → None ≡ slice_get xs k → length xs ≤ k
slice_get-none xs k h = at (nat_lt k (length xs)) refl
  where
    at : (b : Bool) → nat_lt k (length xs) ≡ b → length xs ≤ k
    at true e =
        let within : k < length xs = grind (arith, nat_tests) in
        let both_ways : None ≡ Some (get_or xs k 0) = h ∙ slice_get-get_or xs k 0 within in
        cc
    at false e = grind (arith, nat_tests)

-- there is nothing at a place, and so there are no more members than that
pub members-end : (items : List Item) (k : ℕ) (o : Option ℕ) → o ≡ slice_get (members items) k → o ≡ None
    → length (members items) ≤ k
members-end items k o at none = slice_get-none (members items) k (sym none ∙ at)

pub step-first : (items : List Item) (o : Option ℕ) → IsNextMember (is_member items) 0 o
    → o ≡ slice_get (members items) 0
step-first items o next = next-first (is_member items) (members items) (members-list items) o next

pub step-more : (items : List Item) (k n : ℕ) (at o : Option ℕ) → at ≡ slice_get (members items) k → at ≡ Some n
    → IsNextMember (is_member items) (n + 1) o → o ≡ slice_get (members items) (k + 1)
step-more items k n at o here is next =
    next-more (is_member items) (members items) (members-list items) k n o (sym here ∙ is) next

-- what is left above a member falls with each step
pub step-smaller : (p : ℕ → Bool) (n : ℕ) (o : Option ℕ) → n ≤ 524288 → IsNextMember p (n + 1) o
    → unwrap_or (option_map (λ m. 524289 - m) o) 0 < 524289 - n
step-smaller p n None limit next = omega arith
step-smaller p n (Some m) limit next = omega (arith, next.from_start)

-- nothing comes after a place with no member
pub members-past : (items : List Item) (k place : ℕ) → None ≡ slice_get (members items) k → k ≤ place
    → None ≡ slice_get (members items) place
members-past items k place none le =
    let short : length (members items) ≤ k = slice_get-none (members items) k none in
    sym (slice_get_past (members items) place (omega arith))

or_intro : (a b : Bool) → a ≡ true → (a || b) ≡ true
or_intro true b h = refl
or_intro false b h = cc

or_right : (a b : Bool) → b ≡ true → (a || b) ≡ true
or_right true b h = refl
or_right false b h = h

-- one item more
pub greatest-more : (xs : List Item) (i : Item) (g : ℕ) → is_formed i ≡ true → IsGreatest xs g
    → IsGreatest (xs ++ i ∷ []) (max g (last i))
greatest-more xs i g form old = record {
  above = λ m h. above m (is_member xs m) refl (sym (list_any-append (λ j. has j m) xs (i ∷ [])) ∙ h);
  here = here (nat_le g (last i)) refl;
}
  where
    above : (m : ℕ) (b : Bool) → is_member xs m ≡ b → (is_member xs m || (has i m || false)) ≡ true → m ≤ max g (last i)
    above m true e h = omega (arith, old.above m e)
    above m false e h =
        let there : has i m ≡ true = one (has i m) (or_cases (is_member xs m) (has i m || false) h e) in
        omega (arith, has-below_last i m form there)
      where
        one : (b : Bool) → (b || false) ≡ true → b ≡ true
        one true h = refl
        one false h = h

    here : (b : Bool) → nat_le g (last i) ≡ b → (is_member (xs ++ i ∷ []) (max g (last i)) ≡ true)
        ⊎ ((xs ++ i ∷ [] ≡ []) × (max g (last i) ≡ 0))
    here true e =
        let most : max g (last i) ≡ last i = grind (arith, nat_tests) in
        inl (ap (is_member (xs ++ i ∷ [])) most ∙ list_any-append (λ j. has j (last i)) xs (i ∷ [])
        ∙ or_right (is_member xs (last i)) (has i (last i) || false)
        (or_intro (has i (last i)) false (has-last i form)))
    here false e =
        let less : last i < g = grind (arith, nat_tests) in
        let most : max g (last i) ≡ g = omega arith in
        elim old.here [
          | inl h ↦ inl (ap (is_member (xs ++ i ∷ [])) most ∙ list_any-append (λ j. has j g) xs (i ∷ [])
              ∙ or_intro (is_member xs g) (has i g || false) h)
          | inr none ↦ absurd (omega (arith, none.1))
        ]

pub greatest-step : (items : List Item) (k : ℕ) (d : Item) (g m : ℕ) → k < length items → AllFormed items
    → IsGreatest (take k items) g → m ≡ max g (last (get_or items k d)) → IsGreatest (take (k + 1) items) m
greatest-step items k d g m within formed old is =
    rw (is, take_more items k d within) (greatest-more (take k items) (get_or items k d) g (formed k d within) old)
