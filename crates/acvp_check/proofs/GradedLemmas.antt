-- Verdicts and dispositions, compared by their numbers.
use Rattle.std.proofs.Common.{◌≡◌, ℕ, zero, suc, true, List, [], ◌∷◌, Option, None, Some, refl, sym, ap, subst, ◌∙◌}
use Rattle.std.proofs.Common.{arith}
use Rattle.std.specs.Prelude.{◌==◌, is_some, slice_get, IfSome}
use Rattle.std.specs.Cmp.Lexicographic.{pointwise}
use Rattle.std.proofs.lemmas.Bool.Decides.{nat_tests}
use Rattle.acvp_answers.specs.Verdicts.{disposition_of}
use Rattle.acvp_answers.specs.declared.verdict.Disposition.{Disposition}
use Rattle.acvp_answers.specs.declared.verdict.Disposition.TheVariants as disposition
use Rattle.acvp_answers.specs.declared.verdict.Verdict.{Verdict}
use Rattle.acvp_answers.specs.declared.verdict.Verdict.TheVariants as verdict
use Rattle.acvp_desk.specs.Kept.{IsRightly, IsGradedSet}
use Rattle.acvp_tables.specs.Graded.{GradedValue}
use Rattle.acvp_tables.specs.State.{of_all}
use Rattle.acvp_tables.specs.declared.rows.SetRow.{SetRow}
use Rattle.acvp_check.specs.Conditions.{disposition_number, is_disposed, verdict_number, is_verdict, is_right_under}
use Rattle.acvp_check.specs.Conditions.{is_right}
use Rattle.acvp_check.proofs.Holds.{both, joint}

abbrev disposition_at : ℕ → Disposition
disposition_at zero = disposition.Passed
disposition_at (suc zero) = disposition.Fail
disposition_at (suc (suc zero)) = disposition.Missing
disposition_at (suc (suc (suc zero))) = disposition.Expired
disposition_at (suc (suc (suc (suc n)))) = disposition.Unreceived

disposition_back : (d : Disposition) → disposition_at (disposition_number d) ≡ d
disposition_back disposition.Passed = refl
disposition_back _ = refl

same_disposition : (a b : Disposition) → (disposition_number a == disposition_number b) ≡ true → a ≡ b
same_disposition a b e =
    let is : disposition_number a ≡ disposition_number b = grind (arith, nat_tests, e) in
    sym (disposition_back a) ∙ ap disposition_at is ∙ disposition_back b

abbrev verdict_at : ℕ → Verdict
verdict_at zero = verdict.Passed
verdict_at (suc zero) = verdict.Fail
verdict_at (suc (suc n)) = verdict.Missing

verdict_back : (v : Verdict) → verdict_at (verdict_number v) ≡ v
verdict_back verdict.Passed = refl
verdict_back verdict.Fail = refl
verdict_back verdict.Missing = refl

same_verdict : (a b : Verdict) → is_verdict a b ≡ true → a ≡ b
same_verdict a b e =
    let is : verdict_number a ≡ verdict_number b = grind (arith, nat_tests, e) in
    sym (verdict_back a) ∙ ap verdict_at is ∙ verdict_back b

same_number : (n : ℕ) → (n == n) ≡ true
same_number n = grind (arith, nat_tests)

same_verdicts : (xs ys : List Verdict) → pointwise is_verdict xs ys ≡ true → xs ≡ ys
same_verdicts [] [] e = refl
same_verdicts [] (y ∷ ys) e = absurd (cc)
same_verdicts (x ∷ xs) [] e = absurd (cc)
same_verdicts (x ∷ xs) (y ∷ ys) e =
    let p = both (is_verdict x y) (pointwise is_verdict xs ys) e in
    rw (same_verdict x y p.0, same_verdicts xs ys p.1) refl

verdicts_same : (xs : List Verdict) → pointwise is_verdict xs xs ≡ true
verdicts_same [] = refl
verdicts_same (x ∷ xs) = joint (is_verdict x x) (pointwise is_verdict xs xs) (same_number (verdict_number x))
    (verdicts_same xs)

-- ---- a set

rightly : (row : SetRow) (seed : List ℕ) (graded : Option GradedValue) → of_all is_disposed graded ≡ true
    → of_all (λ g. is_right_under row g seed) graded ≡ true → IfSome graded (IsRightly seed row)
rightly row seed None d v = tt
rightly row seed (Some g) d v = record {
  verdicts = same_verdicts g.verdicts _ v;
  disposition = same_disposition g.disposition (disposition_of g.verdicts) d;
}

pub graded_set : (seeds : List (List ℕ)) (row : SetRow) → is_some (slice_get seeds row.epoch) ≡ true
    → of_all is_disposed row.graded ≡ true
    → is_right seeds row ≡ true → IsGradedSet seeds row
unfolding IsGradedSet
graded_set seeds row there disposed right = go (slice_get seeds row.epoch) refl there
  where
    under : (graded : Option GradedValue) (seed : List ℕ)
        → of_all (λ g. of_all (is_right_under row g) (Some seed)) graded ≡ true
        → of_all (λ g. is_right_under row g seed) graded ≡ true
    under None seed e = refl
    under (Some g) seed e = e

    go : (o : Option (List ℕ)) → slice_get seeds row.epoch ≡ o → is_some o ≡ true
        → (seed : List ℕ) × (slice_get seeds row.epoch ≡ Some seed) × IfSome row.graded (IsRightly seed row)
    go None e some = absurd (cc)
    go (Some seed) e some = (
      seed,
      e,
      rightly row seed row.graded disposed
          (under row.graded seed (subst
          (λ o. of_all (λ g. of_all (is_right_under row g) o) row.graded ≡ true) e right)),
    )

pub record SetGraded (seeds : List (List ℕ)) (row : SetRow) : Type 0 where
  pub there : is_some (slice_get seeds row.epoch) ≡ true
  pub disposed : of_all is_disposed row.graded ≡ true
  pub right : is_right seeds row ≡ true

disposed_in : (row : SetRow) (seed : List ℕ) (graded : Option GradedValue) → IfSome graded (IsRightly seed row)
    → of_all is_disposed graded ≡ true
disposed_in row seed None is = refl
disposed_in row seed (Some g) is = rw is.disposition (same_number (disposition_number (disposition_of g.verdicts)))

right_in : (row : SetRow) (seed : List ℕ) (graded : Option GradedValue) → IfSome graded (IsRightly seed row)
    → of_all (λ g. of_all (is_right_under row g) (Some seed)) graded ≡ true
right_in row seed None is = refl
right_in row seed (Some g) is =
    subst (λ vs. pointwise is_verdict g.verdicts vs ≡ true) is.verdicts (verdicts_same g.verdicts)

pub set_graded : (seeds : List (List ℕ)) (row : SetRow) → IsGradedSet seeds row → SetGraded seeds row
unfolding IsGradedSet
set_graded seeds row is = record {
  there = subst (λ o. is_some o ≡ true) (sym is.1) refl;
  disposed = disposed_in row is.0 row.graded is.2;
  right = subst (λ o. of_all (λ g. of_all (is_right_under row g) o) row.graded ≡ true) (sym is.1)
      (right_in row is.0 row.graded is.2);
}
