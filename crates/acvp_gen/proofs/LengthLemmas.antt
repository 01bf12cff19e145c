-- Lemmas on the lengths that are tested.
use Rattle.std.proofs.Common.{◌≡◌, ℕ, zero, suc, ◌+◌, ◌-◌, ◌<◌, ◌≤◌, List, [], ◌∷◌, ◌++◌, length, get_or, inl, inr}
use Rattle.std.proofs.Common.{Bool, true, false, nat_eq, cond, Option, None, Some, refl, sym, ◌∙◌, ap, subst}
use Rattle.std.proofs.Common.{append_assoc, length-append, arith}
use Rattle.std.specs.Prelude.{filter, not, Contains}
use Rattle.std.specs.List.{filter_map, slice_get, range_with_len, dedup}
use Rattle.std.specs.List.Sorted.{IsStrictlyIncreasing, IsSorted, IsPermutation}
use Rattle.std.specs.Ordering.{nat_cmp}
use Rattle.std.proofs.lemmas.Bool.Decides.{nat_tests}
use Rattle.std.proofs.lemmas.Grind.{get_or_default_zero}
use Rattle.std.proofs.lemmas.List.Elements.{Contains-append_cases, Contains-append_left, Contains-append_right}
use Rattle.std.proofs.lemmas.List.Filters.{length-filter_both}
use Rattle.std.proofs.lemmas.List.Folds.{Any-from_list_any, list_any-from_Any}
use Rattle.std.proofs.lemmas.List.Kept.{AllPairs-from_increasing, Contains-dedup_nat, Contains-from_dedup}
use Rattle.std.proofs.lemmas.List.Kept.{IsStrictlyIncreasing-filter}
use Rattle.std.proofs.lemmas.List.Sorted.{Contains-permutation, IsPermutation-sym}
use Rattle.std.proofs.lemmas.Map.Keys.{IsStrictlyIncreasing-dedup}
use Rattle.std.proofs.lemmas.Map.Made.{Contains-tail}
use Rattle.std.proofs.lemmas.Option.{slice_get_within, get_or_from_slice_get}
use Rattle.acvp_gen.specs.Choice.{option_list, ends, has, ends_and_edges}
use Rattle.acvp_gen.specs.Private.Candidates.{candidates}

-- one draw more of those that are left
pub one_draw_more : (f : ℕ → Option ℕ) (done new total : List ℕ) (m next end : ℕ) → next < end → new ≡ done ++ m ∷ []
    → f next ≡ Some m →
    done ++ filter_map f (range_with_len next (end - next)) ≡ total
    → new ++ filter_map f (range_with_len (next + 1) (end - (next + 1))) ≡ total
one_draw_more f done new total m next end below made is so =
    let left : end - next ≡ suc (end - (next + 1)) = omega arith in
    let so' : done ++ filter_map f (next ∷ range_with_len (next + 1) (end - (next + 1))) ≡ total = rw left at so in
    let so'' : done ++ m ∷ filter_map f (range_with_len (next + 1) (end - (next + 1))) ≡ total = rw is at so' in
    rw made (append_assoc done (m ∷ []) (filter_map f (range_with_len (next + 1) (end - (next + 1)))) ∙ so'')

-- ---- strictly increasing lists of the same numbers

rises_behind : (x : ℕ) (xs : List ℕ) → IsStrictlyIncreasing (x ∷ xs) → IsStrictlyIncreasing xs
rises_behind x xs h = λ k within. let e : suc k + 1 ≡ suc (k + 1) = omega arith in
    subst (λ n. get_or xs k 0 < get_or (x ∷ xs) n 0) e (h (suc k) (omega arith))

above_first : (x : ℕ) (xs : List ℕ) (n : ℕ) → IsStrictlyIncreasing (x ∷ xs) → Contains xs n → x < n
above_first x xs n h c =
    omega (arith, AllPairs-from_increasing (x ∷ xs) h 0 (suc c.0) n (omega arith) (omega (arith, c.1)), c.2)

from_first_at : (x : ℕ) (xs : List ℕ) (n k : ℕ) → IsStrictlyIncreasing (x ∷ xs) → k < length (x ∷ xs)
    → get_or (x ∷ xs) k n ≡ n → x ≤ n
from_first_at x xs n zero h l e = omega (arith, e)
from_first_at x xs n (suc k) h l e = omega (arith, above_first x xs n h (k, omega arith, e))

from_first : (x : ℕ) (xs : List ℕ) (n : ℕ) → IsStrictlyIncreasing (x ∷ xs) → Contains (x ∷ xs) n → x ≤ n
from_first x xs n h c = from_first_at x xs n c.0 h c.1 c.2

pub here : (x : ℕ) (xs : List ℕ) → Contains (x ∷ xs) x
here x xs = (0, omega arith, refl)

pub later : (x : ℕ) (xs : List ℕ) (n : ℕ) → Contains xs n → Contains (x ∷ xs) n
later x xs n c = (suc c.0, omega (arith, c.1), c.2)

pub same_numbers : (xs ys : List ℕ) → IsStrictlyIncreasing xs → IsStrictlyIncreasing ys
    → ((n : ℕ) → Contains xs n → Contains ys n) → ((n : ℕ) → Contains ys n → Contains xs n) → xs ≡ ys
same_numbers [] [] rx ry to from = refl
same_numbers [] (y ∷ ys) rx ry to from = let none = from y (here y ys) in absurd (omega (arith, none.1))
same_numbers (x ∷ xs) [] rx ry to from = let none = to x (here x xs) in absurd (omega (arith, none.1))
same_numbers (x ∷ xs) (y ∷ ys) rx ry to from =
    let same : x ≡ y = omega (
      arith,
      from_first x xs y rx (from y (here y ys)),
      from_first y ys x ry (to x (here x xs)),
    ) in
    let rest : xs ≡ ys = same_numbers xs ys (rises_behind x xs rx) (rises_behind y ys ry)
    (λ n c. Contains-tail y ys n (λ e. omega (arith, e, same, above_first x xs n rx c)) (to n (later x xs n c)))
    (λ n c. Contains-tail x xs n (λ e. omega (arith, e, same, above_first y ys n ry c)) (from n (later y ys n c))) in
    rw (same, rest) refl

-- ---- what a filter keeps

kept_at : (p : ℕ → Bool) (x : ℕ) (xs : List ℕ) (n : ℕ) → p n ≡ true → (b : Bool) → p x ≡ b
    → (Contains xs n → Contains (filter p xs) n) → (k : ℕ) → k < length (x ∷ xs) → get_or (x ∷ xs) k n ≡ n
    → Contains (cond b (x ∷ filter p xs) (filter p xs)) n
kept_at p x xs n pass true is rest zero l e = (0, omega arith, e)
kept_at p x xs n pass true is rest (suc k) l e = later x (filter p xs) n (rest (k, omega arith, e))
kept_at p x xs n pass false is rest zero l e = let e' : x ≡ n = e in let is' : p n ≡ false = rw e' at is in cc
kept_at p x xs n pass false is rest (suc k) l e = rest (k, omega arith, e)

pub to_filter : (p : ℕ → Bool) (xs : List ℕ) (n : ℕ) → Contains xs n → p n ≡ true → Contains (filter p xs) n
to_filter p [] n c pass = absurd (omega (arith, c.1))
to_filter p (x ∷ xs) n c pass = kept_at p x xs n pass (p x) refl (λ i. to_filter p xs n i pass) c.0 c.1 c.2

first_kept_at : (p : ℕ → Bool) (x : ℕ) (xs : List ℕ) (n k : ℕ) → p x ≡ true → k < length (x ∷ filter p xs)
    → get_or (x ∷ filter p xs) k n ≡ n → (Contains (filter p xs) n → Contains xs n × (p n ≡ true))
    → Contains (x ∷ xs) n × (p n ≡ true)
first_kept_at p x xs n zero pass l e rest = let e' : x ≡ n = e in (rw e' (here n xs), rw e' at pass)
first_kept_at p x xs n (suc k) pass l e rest = let r = rest (k, omega arith, e) in (later x xs n r.0, r.1)

kept_from : (p : ℕ → Bool) (x : ℕ) (xs : List ℕ) (n : ℕ) → (Contains (filter p xs) n → Contains xs n × (p n ≡ true))
    → (b : Bool) → p x ≡ b → Contains (cond b (x ∷ filter p xs) (filter p xs)) n → Contains (x ∷ xs) n × (p n ≡ true)
kept_from p x xs n rest true is c = first_kept_at p x xs n c.0 is c.1 c.2 rest
kept_from p x xs n rest false is c = let r = rest c in (later x xs n r.0, r.1)

pub from_filter : (p : ℕ → Bool) (xs : List ℕ) (n : ℕ) → Contains (filter p xs) n → Contains xs n × (p n ≡ true)
from_filter p [] n c = absurd (omega (arith, c.1))
from_filter p (x ∷ xs) n c = kept_from p x xs n (λ i. from_filter p xs n i) (p x) refl c

-- ---- a number that a test finds

same_number : (a b : ℕ) → nat_eq a b ≡ true → a ≡ b
same_number a b h = grind (arith, nat_tests)

itself : (a b : ℕ) → a ≡ b → nat_eq a b ≡ true
itself a b e = grind (arith, nat_tests)

pub from_has : (xs : List ℕ) (n : ℕ) → has xs n ≡ true → Contains xs n
from_has xs n h =
    let any = Any-from_list_any (λ m. nat_eq m n) xs h in (
      any.0,
      any.2,
      get_or_default_zero xs any.0 n any.2 ∙ sym (get_or_default_zero xs any.0 any.1 any.2) ∙ any.3
          ∙ same_number any.1 n any.4,
    )

pub to_has : (xs : List ℕ) (n : ℕ) → Contains xs n → has xs n ≡ true
to_has xs n h = list_any-from_Any (λ m. nat_eq m n) xs (h.0, n, h.1, h.2, itself n n refl)

-- ---- ends and edges

from_option : (members : List ℕ) (place n : ℕ) (o : Option ℕ) → slice_get members place ≡ o
    → Contains (option_list o) n → Contains members n
from_option members place n None is c = absurd (omega (arith, c.1))
from_option members place n (Some m) is c =
    let e : m ≡ n = one m c.0 c.1 c.2 in
    let at : slice_get members place ≡ Some n = is ∙ ap (λ k. Some k) e in
    (place, slice_get_within members place n at, get_or_from_slice_get members place n n at)
  where
    one : (m k : ℕ) → k < length (m ∷ []) → get_or (m ∷ []) k n ≡ n → m ≡ n
    one m zero l e = e
    one m (suc k) l e = absurd (omega arith)

end_is_member : (members : List ℕ) (n : ℕ) → Contains (ends members) n → Contains members n
end_is_member members n c =
    elim (Contains-append_cases (option_list (slice_get members 0))
    (option_list (slice_get members (length members - 1))) n c) [
      | inl first ↦ from_option members 0 n (slice_get members 0) refl first
      | inr last ↦ from_option members (length members - 1) n (slice_get members (length members - 1)) refl last
    ]

candidate_is_kept : (edges members : List ℕ) (n : ℕ) → Contains (candidates edges members) n
    → Contains (ends_and_edges edges members) n
candidate_is_kept edges members n c = elim (Contains-append_cases (ends members) (filter (has members) edges) n c) [
  | inl end ↦ to_filter (has (ends members ++ edges)) members n (end_is_member members n end)
      (to_has (ends members ++ edges) n (Contains-append_left (ends members) edges n end))
  | inr edge ↦ (let both = from_filter (has members) edges n edge in
      to_filter (has (ends members ++ edges)) members n (from_has members n both.1)
      (to_has (ends members ++ edges) n (Contains-append_right (ends members) edges n both.0)))
]

kept_is_candidate : (edges members : List ℕ) (n : ℕ) → Contains (ends_and_edges edges members) n
    → Contains (candidates edges members) n
kept_is_candidate edges members n c =
    let both = from_filter (has (ends members ++ edges)) members n c in
    elim (Contains-append_cases (ends members) edges n (from_has (ends members ++ edges) n both.1)) [
      | inl end ↦ Contains-append_left (ends members) (filter (has members) edges) n end
      | inr edge ↦ Contains-append_right (ends members) (filter (has members) edges) n
          (to_filter (has members) edges n edge (to_has members n both.0))
    ]

-- candidates in order, each once
pub in_order : (edges members given sorted out : List ℕ) → IsStrictlyIncreasing members
    → given ≡ candidates edges members → IsPermutation given sorted → IsSorted nat_cmp sorted
    → out ≡ dedup nat_eq sorted → out ≡ ends_and_edges edges members
in_order edges members given sorted out rising is moved ordered once =
    let back : IsPermutation sorted given = IsPermutation-sym given sorted moved in
    once ∙ same_numbers (dedup nat_eq sorted) (ends_and_edges edges members)
    (IsStrictlyIncreasing-dedup sorted ordered)
    (IsStrictlyIncreasing-filter (has (ends members ++ edges)) members rising)
    (λ n c. candidate_is_kept edges members n
    (rw is at (Contains-permutation sorted given n back (Contains-from_dedup nat_eq sorted n c))))
    (λ n c. Contains-dedup_nat sorted n
    (Contains-permutation given sorted n moved (rw (← is) at (kept_is_candidate edges members n c))))

-- ---- how many there are

few_options : (o : Option ℕ) → length (option_list o) ≤ 1
few_options None = omega arith
few_options (Some n) = omega arith

few_ends : (members : List ℕ) → length (ends members) ≤ 2
few_ends members = omega (
  arith,
  length-append (option_list (slice_get members 0)) (option_list (slice_get members (length members - 1))),
  few_options (slice_get members 0),
  few_options (slice_get members (length members - 1)),
)

pub few_candidates : (edges members : List ℕ) → length (candidates edges members) ≤ length edges + 2
few_candidates edges members =
    omega (
      arith,
      length-append (ends members) (filter (has members) edges),
      few_ends members,
      length-filter_both (has members) (λ e. not (has members e)) (λ e. refl) edges,
    )
