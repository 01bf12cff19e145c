-- Verdicts and answers' tests among the vector sets of an account, and among all.
use Rattle.std.proofs.Common.{◌≡◌, ℕ, Bool, true, false, List, [], ◌∷◌, Some, refl, subst}
use Rattle.std.specs.Prelude.{◌==◌, ◌&&◌}
use Rattle.std.specs.List.{flat_map, list_all}
use Rattle.std.proofs.lemmas.List.Concat.{flat_map-cons}
use Rattle.acvp_mac.specs.Conditions.{first_broken}
use Rattle.acvp_desk.specs.Answered.{AreAnswered, has_own_answers}
use Rattle.acvp_tables.specs.Content.{Content}
use Rattle.acvp_tables.specs.State.{owner_of}
use Rattle.acvp_tables.specs.declared.rows.SetRow.{SetRow}
use Rattle.acvp_tables.proofs.KeptLemmas.{list_all_weaker, list_all-filter}
use Rattle.acvp_tables.proofs.Numbers.{by_class, eqb_same}
use Rattle.acvp_check.specs.Conditions.{finding, is_beyond_kept, is_right, verdict_conditions, verdict_row_conditions}
use Rattle.acvp_check.specs.declared.finding.Finding.{Finding}
use Rattle.acvp_check.specs.declared.finding.RowKey.TheVariants as key
use Rattle.acvp_check.specs.declared.finding.Wrong.TheVariants as wrong
use Rattle.acvp_check.specs.Order.{HaveSameRows}
use Rattle.acvp_check.specs.Rows.{rows_of}
use Rattle.acvp_check.proofs.AccountLemmas.{of_each, to_each}
use Rattle.acvp_check.proofs.HeldLemmas.{last_holds}
use Rattle.acvp_check.proofs.Holds.{all_both, both, holds}
use Rattle.acvp_check.proofs.OrderLemmas.{alike_all, permuted}

-- each row's verdicts are right, and its answers are to its own tests
pub each_right : (seeds : List (List ℕ)) (mine : Content) → holds (verdict_conditions seeds mine) ≡ true
    → list_all (is_right seeds) mine.sets ≡ true
unfolding verdict_conditions
each_right seeds mine held =
    list_all_weaker (λ row. holds (verdict_row_conditions seeds row)) (is_right seeds)
    (λ row is. (both (is_right seeds row) (has_own_answers seeds row && true) is).0) mine.sets
    (of_each (verdict_row_conditions seeds) mine.sets held)

each_own : (seeds : List (List ℕ)) (mine : Content) → holds (verdict_conditions seeds mine) ≡ true
    → list_all (has_own_answers seeds) mine.sets ≡ true
unfolding verdict_conditions
each_own seeds mine held =
    list_all_weaker (λ row. holds (verdict_row_conditions seeds row)) (has_own_answers seeds)
    (λ row is. (both (has_own_answers seeds row) true
    (both (is_right seeds row) (has_own_answers seeds row && true) is).1).0) mine.sets
    (of_each (verdict_row_conditions seeds) mine.sets held)

pub both_hold : (seeds : List (List ℕ)) (mine : Content) → list_all (is_right seeds) mine.sets ≡ true
    → list_all (has_own_answers seeds) mine.sets ≡ true → holds (verdict_conditions seeds mine) ≡ true
unfolding verdict_conditions
both_hold seeds mine right own =
    to_each (verdict_row_conditions seeds) mine.sets
    (all_both (is_right seeds) (λ row. has_own_answers seeds row && true) mine.sets right
    (last_holds (has_own_answers seeds) mine.sets own))

-- ---- an account's vector sets, and all

pub all_answered : (seeds : List (List ℕ)) (c : Content)
    → ((u : ℕ) → holds (verdict_conditions seeds (rows_of u c)) ≡ true) → AreAnswered seeds c
unfolding rows_of
all_answered seeds c held = record {
  tests = by_class (λ a b. a == b) (λ (row : SetRow). owner_of row.session) (λ u row. has_own_answers seeds row)
      eqb_same c.sets (λ u. each_own seeds (rows_of u c) (held u));
}

pub answered_for : (seeds : List (List ℕ)) (c : Content) → AreAnswered seeds c → (u : ℕ)
    → list_all (has_own_answers seeds) (rows_of u c).sets ≡ true
unfolding rows_of
answered_for seeds c is u = list_all-filter (has_own_answers seeds) (λ row. owner_of row.session == u) c.sets is.tests

-- ---- which condition is broken

rows_found : (seeds : List (List ℕ)) (rows : List SetRow) (found : Finding)
    → list_all (is_right seeds) rows ≡ true
    → first_broken (flat_map (verdict_row_conditions seeds) rows) ≡ Some found → is_beyond_kept found.wrong ≡ true
rows_found seeds [] found right is = absurd (cc)
rows_found seeds (r ∷ rows) found right is =
    let two = both (is_right seeds r) (list_all (is_right seeds) rows) right in
    go (is_right seeds r) (has_own_answers seeds r) two.0
    (subst (λ conditions. first_broken conditions ≡ Some found) (flat_map-cons (verdict_row_conditions seeds) r rows) is)
    (rows_found seeds rows found two.1)
  where
    go : (right own : Bool) → right ≡ true
        → first_broken ((right, finding (key.Set r.number) wrong.Verdicts)
        ∷ (own, finding (key.Set r.number) wrong.Answers)
        ∷ flat_map (verdict_row_conditions seeds) rows) ≡ Some found
        → (first_broken (flat_map (verdict_row_conditions seeds) rows) ≡ Some found
        → is_beyond_kept found.wrong ≡ true)
        → is_beyond_kept found.wrong ≡ true
    go true true held is later = later is
    go true false held is later =
        let same : finding (key.Set r.number) wrong.Answers ≡ found = cc in rw (← same) refl
    go false own held is later = absurd (cc (held))

pub answer_found : (seeds : List (List ℕ)) (mine : Content) (found : Finding)
    → list_all (is_right seeds) mine.sets ≡ true
    → first_broken (verdict_conditions seeds mine) ≡ Some found → is_beyond_kept found.wrong ≡ true
unfolding verdict_conditions
answer_found seeds mine found right is = rows_found seeds mine.sets found right is

-- ---- rows in another order

pub answered_in_order : (seeds : List (List ℕ)) (c d : Content) → HaveSameRows c d → AreAnswered seeds c
    → AreAnswered seeds d
answered_in_order seeds c d same is = record {
  tests = alike_all (has_own_answers seeds) c.sets d.sets (permuted c.sets d.sets same.sets) is.tests;
}
