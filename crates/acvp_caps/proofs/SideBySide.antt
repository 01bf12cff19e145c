-- A walk upwards through the members of two lists of items, side by side.
use Rattle.std.proofs.Common.{◌≡◌, ℕ, suc, ◌+◌, ◌<◌, ◌≤◌, List, [], ◌∷◌, Bool, true, false, not, nat_eq, nat_lt, Option}
use Rattle.std.proofs.Common.{None, Some, refl, sym, ◌∙◌, ap, arith}
use Rattle.std.specs.List.{slice_get}
use Rattle.std.specs.Prelude.{◌↔◌, IsTrue, is_some}
use Rattle.std.specs.Option.{option_eq}
use Rattle.std.proofs.lemmas.Bool.Decides.{nat_tests}
use Rattle.acvp_caps.specs.declared.item.Item.{Item}
use Rattle.acvp_caps.specs.Members.{is_member, members}
use Rattle.acvp_caps.specs.Private.Walk.{AllFormed, AllBounded, IsNextMember}
use Rattle.acvp_caps.proofs.MembersLemmas.{member-at, members-past, step-first, step-more}

-- the two numbers stand at the same place, and the lists are alike up to there
pub record IsSideBySide (xs ys : List ℕ) (o p : Option ℕ) : Type 0 where
  pub place : ℕ
  pub first : o ≡ slice_get xs place
  pub second : p ≡ slice_get ys place
  pub alike : (j : ℕ) → j < place → slice_get xs j ≡ slice_get ys j

pub side-first : (a b : List Item) (o p : Option ℕ) → IsNextMember (is_member a) 0 o → IsNextMember (is_member b) 0 p
    → IsSideBySide (members a) (members b) o p
side-first a b o p next other = record {
  place = 0;
  first = step-first a o next;
  second = step-first b p other;
  alike = λ j less. absurd (omega arith);
}

pub side-more : (a b : List Item) (o p s t : Option ℕ) (n : ℕ) → IsSideBySide (members a) (members b) o p
    → o ≡ Some n → p ≡ Some n
    → IsNextMember (is_member a) (n + 1) s → IsNextMember (is_member b) (n + 1) t
    → IsSideBySide (members a) (members b) s t
side-more a b o p s t n side here there next other = record {
  place = side.place + 1;
  first = step-more a side.place n o s side.first here next;
  second = step-more b side.place n p t side.second there other;
  alike = λ j less. alike j less (nat_lt j side.place) refl;
}
  where
    now : slice_get (members a) side.place ≡ slice_get (members b) side.place
    now = sym side.first ∙ here ∙ sym there ∙ side.second

    alike : (j : ℕ) → j < side.place + 1 → (l : Bool) → nat_lt j side.place ≡ l
        → slice_get (members a) j ≡ slice_get (members b) j
    alike j less true e = side.alike j (grind (arith, nat_tests))
    alike j less false e =
        let same : j ≡ side.place = grind (arith, nat_tests) in
        ap (slice_get (members a)) same ∙ now ∙ ap (slice_get (members b)) (sym same)

-- a member of the first list
pub side-member : (a b : List Item) (o p : Option ℕ) (n : ℕ) → AllFormed a → AllBounded a
    → IsSideBySide (members a) (members b) o p → o ≡ Some n → n ≤ 524288
side-member a b o p n formed bounded side here = (member-at a side.place n formed bounded (sym side.first ∙ here)).limit

same_number : (a b : ℕ) → nat_eq a b ≡ true → a ≡ b
same_number a b h = grind (arith, nat_tests)

-- what `==` says of a number that is there
pub that-number : (p : Option ℕ) (n : ℕ) → false ≡ not (option_eq nat_eq p (Some n)) → p ≡ Some n
that-number None n h = cc
that-number (Some m) n h = ap Some (same_number m n (kept (nat_eq m n) h))
  where
    kept : (b : Bool) → false ≡ not b → b ≡ true
    kept true h = refl
    kept false h = cc

-- where the lists are the same, so are the two numbers
side-parted : (xs ys : List ℕ) (o p : Option ℕ) → IsSideBySide xs ys o p → xs ≡ ys → p ≡ o
side-parted xs ys o p side same =
    side.second ∙ ap (λ (zs : List ℕ). slice_get zs side.place) (sym same) ∙ sym side.first

same_everywhere : (xs ys : List ℕ) → ((j : ℕ) → slice_get xs j ≡ slice_get ys j) → xs ≡ ys
same_everywhere [] [] h = refl
same_everywhere [] (y ∷ ys) h = let e = h 0 in cc
same_everywhere (x ∷ xs) [] h = let e = h 0 in cc
same_everywhere (x ∷ xs) (y ∷ ys) h =
    let first : Some x ≡ Some y = h 0 in
    let rest : xs ≡ ys = same_everywhere xs ys (λ j. h (suc j)) in
    cc

-- lists that end together are the same
ended-alike : (a b : List Item) (o p : Option ℕ) → IsSideBySide (members a) (members b) o p → o ≡ None → p ≡ None
    → members a ≡ members b
ended-alike a b o p side none other = same_everywhere (members a) (members b) (λ j. alike j (nat_lt j side.place) refl)
  where
    alike : (j : ℕ) (l : Bool) → nat_lt j side.place ≡ l → slice_get (members a) j ≡ slice_get (members b) j
    alike j true e = side.alike j (grind (arith, nat_tests))
    alike j false e =
        let past : side.place ≤ j = grind (arith, nat_tests) in
        sym (members-past a side.place j (sym none ∙ side.first) past)
        ∙ members-past b side.place j (sym other ∙ side.second) past

-- where the first list ends, the lists are the same exactly if the second ends too
pub side-ended : (a b : List Item) (o p : Option ℕ) (r : Bool) → IsSideBySide (members a) (members b) o p → o ≡ None
    → is_some p ≡ not r → IsTrue r ↔ (members a ≡ members b)
side-ended a b o p r side none other = (
  λ holds. ended-alike a b o p side none (ended p r holds other),
  λ same. end r other (side-parted (members a) (members b) o p side same ∙ none),
)
  where
    ended : (p : Option ℕ) (r : Bool) → r ≡ true → is_some p ≡ not r → p ≡ None
    ended None r holds h = refl
    ended (Some n) r holds h = cc

    end : (r : Bool) → is_some p ≡ not r → p ≡ None → r ≡ true
    end true h e = refl
    end false h e = cc
