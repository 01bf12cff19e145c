-- What holds of the records under some seeds holds where more come behind them.
use Rattle.std.proofs.Common.{◌≡◌, ℕ, zero, suc, List, [], ◌∷◌, ◌++◌, true, Option, None, Some, slice_get}
use Rattle.std.proofs.Common.{length-append, refl, arith}
use Rattle.std.proofs.lemmas.List.Elements.{All-head, All-tail, All-weaker}
use Rattle.std.specs.List.{All, list_all}
use Rattle.acvp_tables.specs.Content.{Content}
use Rattle.acvp_tables.specs.declared.rows.SetRow.{SetRow}
use Rattle.acvp_desk.specs.Answered.{AreAnswered, has_own_answers}
use Rattle.acvp_desk.specs.Desk.{HasSeeds}
use Rattle.acvp_desk.specs.Kept.{IsGradedSet, IsKept}
use Rattle.acvp_desk.proofs.NextSession.{left_true, right_true}

-- what stands at a place of a list stands there where more come behind it
stays_there : {X : Type 0} (xs ys : List X) (i : ℕ) (x : X) → slice_get xs i ≡ Some x → slice_get (xs ++ ys) i ≡ Some x
stays_there [] ys i x is = absurd (cc)
stays_there (y ∷ xs) ys zero x is = is
stays_there (y ∷ xs) ys (suc i) x is = stays_there xs ys i x is

module _ (seeds more : List (List ℕ)) where
  graded_more : (row : SetRow) → IsGradedSet seeds row → IsGradedSet (seeds ++ more) row
  unfolding IsGradedSet
  graded_more row (seed, there, right) = (seed, stays_there seeds more row.epoch seed there, right)

  pub kept_more : (c : Content) → IsKept seeds c → IsKept (seeds ++ more) c
  kept_more c kept = record {
    sound = kept.sound;
    counted = kept.counted;
    graded = All-weaker (IsGradedSet seeds) (IsGradedSet (seeds ++ more)) graded_more c.sets kept.graded;
  }

  -- the seed of each vector set's epoch is there, so its answers are to tests by the same prompts
  own_more : (row : SetRow) → IsGradedSet seeds row → has_own_answers seeds row ≡ true
      → has_own_answers (seeds ++ more) row ≡ true
  unfolding IsGradedSet has_own_answers
  own_more row (seed, there, right) own = rw (stays_there seeds more row.epoch seed there) (rw there at own)

  all_own_more : (sets : List SetRow) → All (IsGradedSet seeds) sets → list_all (has_own_answers seeds) sets ≡ true
      → list_all (has_own_answers (seeds ++ more)) sets ≡ true
  all_own_more [] graded own = refl
  all_own_more (row ∷ sets) graded own =
      let here = left_true (has_own_answers seeds row) (list_all (has_own_answers seeds) sets) own in
      let later = right_true (has_own_answers seeds row) (list_all (has_own_answers seeds) sets) own in
      rw (own_more row (All-head (IsGradedSet seeds) row sets graded) here)
      (all_own_more sets (All-tail (IsGradedSet seeds) row sets graded) later)

  pub answered_more : (c : Content) → IsKept seeds c → AreAnswered seeds c → AreAnswered (seeds ++ more) c
  answered_more c kept is = record { tests = all_own_more c.sets kept.graded is.tests }

  pub seeded_more : (greatest : Option ℕ) → HasSeeds seeds greatest → HasSeeds (seeds ++ more) greatest
  seeded_more None there = tt
  seeded_more (Some epoch) there = omega (arith, length-append seeds more, there)
