-- The page that a query asks for, by its first parts.
use Rattle.std.proofs.Common.{◌≡◌, ◌≢◌, ℕ, ◌+◌, ◌≤◌, List, [], ◌∷◌, ◌++◌, length, Bool, true, false, ◌==◌, Option, None}
use Rattle.std.proofs.Common.{Some, refl, sym, ap, ◌∙◌, arith}
use Rattle.std.specs.Prelude.{filter_map, option_and_then, if◌then◌else◌}
use Rattle.std.proofs.lemmas.Bool.Decides.{nat_tests}
use Rattle.std.proofs.lemmas.List.Elements.{All-head, All-tail}
use Rattle.acvp_json.specs.declared.page.Page.{Page}
use Rattle.acvp_desk.specs.Pages.{HasNoAmpersand, and_others, is_page, limit_in, offset_in, page_by, page_of, pair_of}
use Rattle.acvp_desk.specs.Pages.{pairs_in, pairs_of, parts_of, with_first}
use Rattle.acvp_desk.specs.declared.page.Pair.{Pair}
use Rattle.acvp_desk.specs.declared.page.Pair.TheVariants.{Offset, Limit}

-- ---- the parts

none_there : (c : ℕ) → c ≢ 38 → (c == 38) ≡ false
none_there c other = grind (arith, nat_tests, other)

one_part : (text : List ℕ) → HasNoAmpersand text → parts_of text ≡ text ∷ []
one_part [] none = refl
one_part (c ∷ text) none =
    rw (none_there c (All-head (λ b. b ≢ 38) c text none), one_part text (All-tail (λ b. b ≢ 38) c text none)) refl

first_part : (part rest : List ℕ) → HasNoAmpersand part → parts_of (part ++ 38 ∷ rest) ≡ part ∷ parts_of rest
first_part [] rest none = refl
first_part (c ∷ part) rest none =
    rw (none_there c (All-head (λ b. b ≢ 38) c part none), first_part part rest (All-tail (λ b. b ≢ 38) c part none))
    refl

some_part : (text : List ℕ) → parts_of text ≡ [] → ⊥
some_part [] none = cc
some_part (c ∷ text) none = go (c == 38) (parts_of text) none
  where
    go : (b : Bool) (parts : List (List ℕ)) → (if b then [] ∷ parts else with_first c parts) ≡ [] → ⊥
    go true parts is = cc
    go false [] is = cc
    go false (part ∷ parts) is = cc

-- ---- too many

each_counts : (pairs : List Pair) → (length (filter_map offset_in pairs) + length (filter_map limit_in pairs))
    ≡ length pairs
each_counts [] = refl
each_counts (Offset n ∷ pairs) = omega (arith, each_counts pairs)
each_counts (Limit n ∷ pairs) = omega (arith, each_counts pairs)

too_many : (pairs : List Pair) → 3 ≤ length pairs → page_by pairs ≡ None
too_many pairs many =
    let none : is_page pairs ≡ false = grind (arith, nat_tests, each_counts pairs, many) in
    rw none refl

no_page : (first second : Option Pair) (parts : List (List ℕ)) → (parts ≡ [] → ⊥)
    → option_and_then page_by (and_others first (and_others second (pairs_of parts))) ≡ None
no_page first second [] some = absurd (some refl)
no_page first second (part ∷ parts) some = go first second (pair_of part) (pairs_of parts)
  where
    go : (first second third : Option Pair) (others : Option (List Pair))
        → option_and_then page_by (and_others first (and_others second (and_others third others))) ≡ None
    go None second third others = refl
    go (Some a) None third others = refl
    go (Some a) (Some b) None others = refl
    go (Some a) (Some b) (Some c) None = refl
    go (Some a) (Some b) (Some c) (Some others) = too_many (a ∷ b ∷ c ∷ others) (omega (arith))

-- ---- the page

cut_in : (part rest : List ℕ) → pairs_in (part ++ 38 ∷ rest) ≡ pairs_of (parts_of (part ++ 38 ∷ rest))
cut_in [] rest = refl
cut_in (c ∷ part) rest = refl

pub by_one : (query : List ℕ) (found : Option Page) → false ≡ (length query == 0) → HasNoAmpersand query
    → found ≡ option_and_then page_by (and_others (pair_of query) (Some [])) → found ≡ page_of query
unfolding page_of
by_one [] found some none is = absurd (cc)
by_one (c ∷ query) found some none is =
    is ∙ sym (ap (λ parts. option_and_then page_by (pairs_of parts)) (one_part (c ∷ query) none))

pub by_both : (query first second : List ℕ) (found : Option Page) → query ≡ first ++ 38 ∷ second → HasNoAmpersand first
    → HasNoAmpersand second
    → found ≡ option_and_then page_by (and_others (pair_of first) (and_others (pair_of second) (Some [])))
    → found ≡ page_of query
unfolding page_of
by_both query first second found whole none last is =
    rw (whole, cut_in first second, first_part first second none, one_part second last) is

pub by_more : (query first rest second third : List ℕ) → query ≡ first ++ 38 ∷ rest → HasNoAmpersand first
    → rest ≡ second ++ 38 ∷ third → HasNoAmpersand second
    → None ≡ page_of query
unfolding page_of
by_more query first rest second third whole none more last =
    rw (whole, cut_in first rest, first_part first rest none, more, first_part second third last)
    (sym (no_page (pair_of first) (pair_of second) (parts_of third) (some_part third)))
