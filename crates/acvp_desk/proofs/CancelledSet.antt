-- A vector set that is cancelled: its number is of its session, and what is told of the session's counters is so after
-- it.
use Rattle.std.proofs.Common.{◌≡◌, ℕ, suc, ◌/◌, List, [], ◌∷◌, map, length, filter, Bool, true, false, ◌&&◌, ◌==◌}
use Rattle.std.proofs.Common.{Option, None, Some, refl, sym, ap, arith}
use Rattle.std.specs.Prelude.{IfSome, is_some, option_map, option_and_then, if◌then◌else◌}
use Rattle.std.specs.List.{All}
use Rattle.std.proofs.lemmas.Bool.Decides.{nat_tests}
use Rattle.std.proofs.lemmas.List.Elements.{All-nil, All-cons, All-head, All-tail}
use Rattle.acvp_policy.specs.declared.facts.SessionFacts.{SessionFacts}
use Rattle.acvp_tables.specs.Changes.{changed, is_set, cancelled_set as with_cancelled}
use Rattle.acvp_tables.specs.Content.{Content, is_live_in, live_sets}
use Rattle.acvp_tables.specs.Counted.{IsNextCount, answers_passed as grades_pass, live_count, passed_count}
use Rattle.acvp_tables.specs.Graded.{GradedValue}
use Rattle.acvp_tables.specs.State.{State, SetRecord, state_of, set_record, set_record_at, live_records, IsWellNumbered}
use Rattle.acvp_tables.specs.declared.change.Change.TheVariants as change
use Rattle.acvp_tables.specs.declared.rows.SetRow.{SetRow}
use Rattle.acvp_desk.specs.Kept.{IsGradedSet, IsRightly, IsKept}
use Rattle.acvp_desk.specs.Place.{set_outcome, set_outcomes}
use Rattle.acvp_desk.specs.Replies.{cancelled_set, outcome_passed, is_other}
use Rattle.acvp_desk.specs.Sets.{facts_of_set, if_in_session, set_facts, set_passes}
use Rattle.acvp_desk.specs.declared.found.SetOutcome.{SetOutcome}
use Rattle.acvp_desk.proofs.PassedSession.{graded_passes}

-- ---- the number

-- a set that is found in a session has a number of it
pub number_fits : (named : (n : ℕ) (state : State) (row : SetRecord) → IsWellNumbered state
    → set_record_at n state.sets ≡ Some row → row.session ≡ n / 100)
    → (facts : Option SessionFacts) (session n : ℕ) (state : State) → IsWellNumbered state
    → is_some (set_facts facts session n state.sets) ≡ true → (n / 100) ≡ session
unfolding set_facts
number_fits named None session n state well there = absurd (cc)
number_fits named (Some facts) session n state well there = go (set_record_at n state.sets) refl there
  where
    at : (row : SetRecord) → row.session ≡ n / 100 → (b : Bool) → (row.session == session) ≡ b
        → is_some (option_map (facts_of_set facts) (if b then Some row else None)) ≡ true → (n / 100) ≡ session
    at row of true same there = grind (arith, nat_tests, of, same)
    at row of false same there = absurd (cc)

    go : (found : Option SetRecord) → set_record_at n state.sets ≡ found
        → is_some (option_map (facts_of_set facts) (option_and_then (if_in_session session) found)) ≡ true
        → (n / 100) ≡ session
    go None is there = absurd (cc)
    go (Some row) is there = at row (named n state row well is) (row.session == session) refl there

-- ---- the counters

-- the uncancelled sets of a session, with what they come to
abbrev outcomes : List (List ℕ) → ℕ → List SetRow → List SetOutcome
outcomes seeds session sets = map (set_outcome seeds) (map set_record (live_sets session sets))

live_left : (seeds : List (List ℕ)) (session n : ℕ) (sets : List SetRow)
    → length (filter (is_other n) (outcomes seeds session sets))
    ≡ live_count session (changed (is_set n) with_cancelled sets)
live_left seeds session n [] = refl
live_left seeds session n (row ∷ sets) = go (row.session == session) (row.cancelled) (row.number == n) refl refl refl
    (live_left seeds session n sets)
  where
    go : (of cancelled same : Bool) → (row.session == session) ≡ of → row.cancelled ≡ cancelled
        → (row.number == n) ≡ same
        → length (filter (is_other n) (outcomes seeds session sets))
        ≡ live_count session (changed (is_set n) with_cancelled sets)
        → length (filter (is_other n) (outcomes seeds session (row ∷ sets)))
        ≡ live_count session (changed (is_set n) with_cancelled (row ∷ sets))
    go true false true a b c later = rw (a, b, c, a) later
    go true false false a b c later = rw (a, b, c, a) (ap (λ k. suc k) later)
    go true true true a b c later = rw (a, b, c, a) later
    go true true false a b c later = rw (a, b, c, a) later
    go false cancelled true a b c later = rw (a, c, a) later
    go false cancelled false a b c later = rw (a, c, a) later

passed_left : (seeds : List (List ℕ)) (session n : ℕ) (sets : List SetRow) → All (IsGradedSet seeds) sets
    → length (filter (λ set. is_other n set && outcome_passed set) (outcomes seeds session sets))
    ≡ passed_count session (changed (is_set n) with_cancelled sets)
passed_left seeds session n [] graded = refl
passed_left seeds session n (row ∷ sets) graded =
    go (is_live_in session row) (row.number == n) (row.session == session) (grades_pass row.graded) refl refl refl refl
    (sym (graded_passes seeds row (All-head (IsGradedSet seeds) row sets graded)))
    (passed_left seeds session n sets (All-tail (IsGradedSet seeds) row sets graded))
  where
    go : (live same of passes : Bool) → is_live_in session row ≡ live → (row.number == n) ≡ same
        → (row.session == session) ≡ of → grades_pass row.graded ≡ passes
        → set_passes seeds (set_record row) ≡ grades_pass row.graded
        → length (filter (λ set. is_other n set && outcome_passed set) (outcomes seeds session sets))
        ≡ passed_count session (changed (is_set n) with_cancelled sets)
        → length (filter (λ set. is_other n set && outcome_passed set) (outcomes seeds session (row ∷ sets)))
        ≡ passed_count session (changed (is_set n) with_cancelled (row ∷ sets))
    go true true true passes a b c d e later = rw (a, b, c) later
    go true true false passes a b c d e later = rw (a, b, c) later
    go true false of true a b c d e later = rw (a, b, a, e, d) (ap (λ k. suc k) later)
    go true false of false a b c d e later = rw (a, b, a, e, d) later
    go false true true passes a b c d e later = rw (a, b, c) later
    go false true false passes a b c d e later = rw (a, b, c) later
    go false false of passes a b c d e later = rw (a, b, a) later

-- the counters that are told are those after the set is cancelled
pub next_count : (live : (s : ℕ) (c : Content) → live_records s (state_of c).sets ≡ map set_record (live_sets s c.sets))
    → (seeds : List (List ℕ)) (session n : ℕ) (c : Content) → IsKept seeds c
    → IsNextCount c (change.CancelSet (cancelled_set session n (set_outcomes seeds session (state_of c))))
next_count live seeds session n c kept =
    rw (live session c) (live_left seeds session n c.sets, passed_left seeds session n c.sets kept.graded)

-- and what is kept of answers stays right
pub graded_stay : (seeds : List (List ℕ)) (n : ℕ) (sets : List SetRow) → All (IsGradedSet seeds) sets
    → All (IsGradedSet seeds) (changed (is_set n) with_cancelled sets)
unfolding IsGradedSet
graded_stay seeds n [] graded = All-nil (IsGradedSet seeds)
graded_stay seeds n (row ∷ sets) graded =
    All-cons (IsGradedSet seeds) (if is_set n row then with_cancelled row else row)
    (changed (is_set n) with_cancelled sets)
    (go (is_set n row) (All-head (IsGradedSet seeds) row sets graded))
    (graded_stay seeds n sets (All-tail (IsGradedSet seeds) row sets graded))
  where
    rightly : (seed : List ℕ) (graded : Option GradedValue) → IfSome graded (IsRightly seed row)
        → IfSome graded (IsRightly seed (with_cancelled row))
    rightly seed None right = tt
    rightly seed (Some g) right = record { verdicts = right.verdicts; disposition = right.disposition }

    go : (b : Bool) → IsGradedSet seeds row → IsGradedSet seeds (if b then with_cancelled row else row)
    go true right = (right.0, right.1, rightly right.0 row.graded right.2)
    go false right = right
