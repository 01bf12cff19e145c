-- A domain as the list of its members.
use Rattle.std.proofs.Common.{◌≡◌, ℕ, zero, suc, ◌-◌, ◌<◌, ◌≤◌, List, [], ◌∷◌, length, get_or, Bool, true, nat_eq}
use Rattle.std.proofs.Common.{Option, Some, refl, sym, ◌∙◌, ap, subst, inl, inr, arith}
use Rattle.std.specs.Prelude.{◌↔◌, IsTrue, All, Contains, unwrap_or}
use Rattle.std.specs.List.{list_any, slice_get}
use Rattle.std.proofs.lemmas.Grind.{get_or_default_zero}
use Rattle.std.proofs.lemmas.List.Folds.{Any-from_list_any, list_any-from_Any}
use Rattle.std.proofs.lemmas.Option.{slice_get-get_or, unwrap_or-slice_get, get_or_from_slice_get}
use Rattle.std.proofs.lemmas.Bool.Decides.{nat_tests}
use Rattle.acvp_caps.specs.declared.item.Item.{Item}
use Rattle.acvp_caps.specs.declared.item.Item.TheVariants.{Single}
use Rattle.acvp_caps.specs.Items.{has, first}
use Rattle.acvp_caps.specs.Members.{is_member, members}
use Rattle.acvp_caps.specs.Private.Walk.{AllFormed, IsNextMember, IsGreatest}
use Rattle.acvp_caps.specs.Private.DomainItems.{AreDomainItems}
use Rattle.acvp_caps.proofs.MembersLemmas.{members-list, has-first, step-first}
use Rattle.acvp_caps.proofs.Steps.{IsListOf, place-of, passes-at, rises}

pub list-of : (items : List Item) (xs : List ℕ) → members items ≡ xs → IsListOf (is_member items) xs
list-of items xs e = subst (λ (ys : List ℕ). IsListOf (is_member items) ys) e (members-list items)

-- the number that the first item begins with is a member
pub first-member : (items : List Item) → AllFormed items → 1 ≤ length items
    → is_member items (first (get_or items 0 (Single 0))) ≡ true
first-member items formed some =
    let i = get_or items 0 (Single 0) in
    list_any-from_Any (λ j. has j (first i)) items (
      0,
      i,
      some,
      same_item items some,
      has-first i (formed 0 (Single 0) some),
    )
  where
    same_item : (items : List Item) → 1 ≤ length items
        → get_or items 0 (get_or items 0 (Single 0)) ≡ get_or items 0 (Single 0)
    same_item [] h = absurd (omega arith)
    same_item (i ∷ is) h = refl

pub domain-some : (items : List Item) (xs : List ℕ) → members items ≡ xs → AreDomainItems items → 0 < length xs
domain-some items xs e d =
    let at = place-of (is_member items) xs (list-of items xs e) (first (get_or items 0 (Single 0)))
    (first-member items d.formed d.some) in
    omega (arith, at.within)

pub contains-value : (items : List Item) (xs : List ℕ) (n : ℕ) (b : Bool) → members items ≡ xs → b ≡ is_member items n
    → b ≡ list_any (λ m. nat_eq m n) xs
contains-value items xs n b e h = h ∙ sym ((list-of items xs e).exact n)

same_number : (a b : ℕ) → nat_eq a b ≡ true → a ≡ b
same_number a b h = grind (arith, nat_tests)

itself : (a b : ℕ) → a ≡ b → nat_eq a b ≡ true
itself a b h = grind (arith, nat_tests)

pub contains-from : (xs : List ℕ) (n : ℕ) → list_any (λ m. nat_eq m n) xs ≡ true → Contains xs n
contains-from xs n h =
    let any = Any-from_list_any (λ m. nat_eq m n) xs h in
    let same : any.1 ≡ n = same_number any.1 n any.4 in
    (any.0, any.2, get_or_default_zero xs any.0 n any.2 ∙ sym (get_or_default_zero xs any.0 any.1 any.2) ∙ any.3 ∙ same)

pub contains-to : (xs : List ℕ) (n : ℕ) → Contains xs n → list_any (λ m. nat_eq m n) xs ≡ true
contains-to xs n h = list_any-from_Any (λ m. nat_eq m n) xs (h.0, n, h.1, h.2, itself n n refl)

pub greatest-value : (items : List Item) (xs : List ℕ) (g : ℕ) → members items ≡ xs → AreDomainItems items
    → IsGreatest items g → slice_get xs (length xs - 1) ≡ Some g
greatest-value items xs g e d most =
    let l = list-of items xs e in
    let some = domain-some items xs e d in
    let there : is_member items g ≡ true = elim most.here [ inl h ↦ h | inr none ↦ absurd (empty none.0) ] in
    let at = place-of (is_member items) xs l g there in
    let end : length xs - 1 < length xs = omega (arith, some) in
    let no_later : at.place < length xs - 1 → ⊥ = λ less.
    omega (
      arith,
      rises xs l.ascending at.place (length xs - 1) less end,
      at.number,
      most.above (get_or xs (length xs - 1) 0) (passes-at (is_member items) xs l (length xs - 1) end),
    ) in
    let place : length xs - 1 ≡ at.place = omega (arith, no_later, at.within) in
    slice_get-get_or xs (length xs - 1) 0 end ∙ ap Some (ap (λ k. get_or xs k 0) place ∙ at.number)
  where
    empty : items ≡ [] → ⊥
    empty none = let long : 1 ≤ length items = d.some in omega (arith, ap length none)

pub greatest-all : (items : List Item) (xs : List ℕ) (g : ℕ) → members items ≡ xs → IsGreatest items g
    → All (λ m. m ≤ g) xs
greatest-all items xs g e most = λ k d within.
    let l = list-of items xs e in
    let n : get_or xs k d ≡ get_or xs k 0 = get_or_default_zero xs k d within in
    omega (arith, n, most.above (get_or xs k 0) (passes-at (is_member items) xs l k within))

pub least-value : (items : List Item) (xs : List ℕ) (o : Option ℕ) → members items ≡ xs → AreDomainItems items
    → IsNextMember (is_member items) 0 o → slice_get xs 0 ≡ Some (unwrap_or o 0)
least-value items xs o e d next =
    let some = domain-some items xs e d in
    let first : o ≡ slice_get xs 0 = step-first items o next ∙ ap (λ (ys : List ℕ). slice_get ys 0) e in
    let number : unwrap_or o 0 ≡ get_or xs 0 0 = ap (λ (p : Option ℕ). unwrap_or p 0) first
    ∙ unwrap_or-slice_get xs 0 0 in
    slice_get-get_or xs 0 0 some ∙ ap Some (sym number)

pub least-all : (items : List Item) (xs : List ℕ) (n : ℕ) → members items ≡ xs → slice_get xs 0 ≡ Some n
    → All (λ m. n ≤ m) xs
least-all items xs n e at = λ k d within. rw (get_or_default_zero xs k d within) (least k within)
  where
    first : get_or xs 0 0 ≡ n
    first = get_or_from_slice_get xs 0 n 0 at

    least : (k : ℕ) → k < length xs → n ≤ get_or xs k 0
    least zero within = omega (arith, first)
    least (suc k) within = omega (arith, first, rises xs (list-of items xs e).ascending 0 (suc k) (omega arith) within)

-- a domain contains a number exactly if some item has it
pub contains-both : (items : List Item) (xs : List ℕ) (n : ℕ) (b : Bool) → members items ≡ xs → b ≡ is_member items n
    → IsTrue b ↔ Contains xs n
contains-both items xs n b e h =
    let value : b ≡ list_any (λ m. nat_eq m n) xs = contains-value items xs n b e h in
    (λ yes. contains-from xs n (sym value ∙ yes), λ there. value ∙ contains-to xs n there)
