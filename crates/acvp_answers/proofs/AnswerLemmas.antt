-- Lemmas on answers, as the map that keeps them.
use Rattle.std.proofs.Common.{◌≡◌, ℕ, List, true, false, Option, None, Some, option_map, Bool, nat_eq, refl, sym, ◌∙◌}
use Rattle.std.proofs.Common.{ap, arith}
use Rattle.std.specs.Prelude.{Contains, is_some}
use Rattle.std.specs.BTreeMap.{BTreeMap, get, is_at}
use Rattle.std.specs.Borrow.{Bor}
use Rattle.std.specs.Map.{keys_of, lookup}
use Rattle.std.specs.Option.{option_copied}
use Rattle.std.specs.Ordering.{nat_cmp}
use Rattle.std.specs.List.{Any}
use Rattle.std.proofs.lemmas.Bool.Decides.{nat_tests}
use Rattle.std.proofs.lemmas.Grind.{get_or_default_zero}
use Rattle.std.proofs.lemmas.List.Folds.{Any-from_list_any, list_any-from_Any}
use Rattle.std.proofs.lemmas.Cmp.{nat_cmp_total}
use Rattle.std.proofs.lemmas.Map.Lookups.{exact_unsigned}
use Rattle.std.proofs.lemmas.Map.Views.{btree_map_contains_key_iff}
use Rattle.acvp_answers.specs.Answer.{Answer, Texts, is_answered, shown_texts, shown}
use Rattle.acvp_answers.specs.Verdicts.{answer_to}
use Rattle.acvp_answers.proofs.MapLemmas.{keys_same, lookup_same}

-- whether a number is answered
pub has_number : (m : BTreeMap ℕ Texts) (k : ℕ) → is_some (get nat_cmp m k) ≡ true
    → Contains (keys_of (shown m.entries)) k
has_number m k is = rw (keys_same shown_texts m.entries)
    ((btree_map_contains_key_iff nat_cmp_total exact_unsigned m k).0 is)

pub lacks_number : (m : BTreeMap ℕ Texts) (k : ℕ) → is_some (get nat_cmp m k) ≡ false
    → Contains (keys_of (shown m.entries)) k → ⊥
lacks_number m k is has =
    let some : is_some (get nat_cmp m k) ≡ true =
    (btree_map_contains_key_iff nat_cmp_total exact_unsigned m k).1 (rw (keys_same shown_texts m.entries) at has) in
    cc

same_number : (a b : ℕ) → nat_eq a b ≡ true → a ≡ b
same_number a b h = grind (arith, nat_tests)

itself : (a b : ℕ) → a ≡ b → nat_eq a b ≡ true
itself a b e = grind (arith, nat_tests)

-- whether a number is answered, as the map tells it
pub is_answered_by : (m : BTreeMap ℕ Texts) (k : ℕ) (b : Bool) → b ≡ is_some (get nat_cmp m k)
    → b ≡ is_answered (shown m.entries) k
is_answered_by m k true is =
    sym (list_any-from_Any (λ n. nat_eq n k) (keys_of (shown m.entries)) (found (has_number m k (sym is))))
  where
    found : Contains (keys_of (shown m.entries)) k → Any (λ n. nat_eq n k ≡ true) (keys_of (shown m.entries))
    found c = (c.0, k, c.1, c.2, itself k k refl)
is_answered_by m k false is = told (is_answered (shown m.entries) k) refl
  where
    told : (b : Bool) → is_answered (shown m.entries) k ≡ b → false ≡ b
    told false e = refl
    told true e =
        let any = Any-from_list_any (λ n. nat_eq n k) (keys_of (shown m.entries)) e in
        absurd (lacks_number m k (sym is) (
          any.0,
          any.2,
          get_or_default_zero (keys_of (shown m.entries)) any.0 k any.2
              ∙ sym (get_or_default_zero (keys_of (shown m.entries)) any.0 any.1 any.2) ∙ any.3
              ∙ same_number any.1 k any.4,
        ))

same_texts : (r : Option (Bor Texts))
    → option_map (λ ts. shown_texts ts.now) r ≡ option_map shown_texts (option_copied r)
same_texts None = refl
same_texts (Some ts) = refl

-- the texts that are looked up in the map
pub answer_read : (entries : List (ℕ × Texts)) (given : List Answer) (k : ℕ) (r : Option (Bor Texts))
    → shown entries ≡ given → option_copied r ≡ lookup (is_at (nat_cmp k)) entries →
    option_map (λ ts. shown_texts ts.now) r ≡ answer_to given k
answer_read entries given k r view found =
    same_texts r ∙ ap (λ o. option_map shown_texts o) found ∙ sym (lookup_same shown_texts (is_at (nat_cmp k)) entries)
    ∙ ap (λ answers. answer_to answers k) view
