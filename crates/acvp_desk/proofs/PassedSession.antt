-- A session has passed exactly where its counters say so.
use Rattle.std.proofs.Common.{◌≡◌, ◌≤◌, ℕ, suc, List, [], ◌∷◌, map, length, find, Bool, true, false, ◌&&◌, ◌==◌, nat_le}
use Rattle.std.proofs.Common.{Option, None, Some, refl, sym, ap, ◌∙◌, arith}
use Rattle.std.specs.Prelude.{option_map, IfSome}
use Rattle.std.specs.List.{All, list_all}
use Rattle.std.proofs.lemmas.Bool.Decides.{nat_tests}
use Rattle.std.proofs.lemmas.List.Elements.{All-head, All-tail}
use Rattle.acvp_answers.specs.Verdicts.{disposition_of}
use Rattle.acvp_policy.specs.Conditions.{is_some_and}
use Rattle.acvp_tables.specs.Content.{Content, is_live_in, live_sets, session_at, set_summary}
use Rattle.acvp_tables.specs.Counted.{is_counted, is_passed, answers_passed, live_count, passed_count}
use Rattle.acvp_tables.specs.Graded.{GradedValue}
use Rattle.acvp_tables.specs.State.{state_of, set_record, live_records}
use Rattle.acvp_tables.specs.declared.rows.SessionRow.{SessionRow}
use Rattle.acvp_tables.specs.declared.rows.SetRow.{SetRow}
use Rattle.acvp_tables.specs.declared.summary.SetSummary.{SetSummary}
use Rattle.acvp_desk.specs.Kept.{IsGradedSet, IsRightly, IsKept}
use Rattle.acvp_desk.specs.Place.{set_outcome, session_passes, is_any}
use Rattle.acvp_desk.specs.Sets.{set_disposition, set_passes, verdicts_on_set, verdicts_under}
use Rattle.acvp_desk.specs.declared.found.SetOutcome.{SetOutcome}

-- what holds of each row holds of the one that is found
pub found_holds : {R : Type 0} (p q : R → Bool) (rows : List R) (x : R) → find p rows ≡ Some x → list_all q rows ≡ true
    → q x ≡ true
found_holds p q [] x found all = absurd (cc)
found_holds {R = R} p q (r ∷ rows) x found all = go (p r) (q r) refl refl (found_holds p q rows x)
  where
    go : (a b : Bool) → p r ≡ a → q r ≡ b → (find p rows ≡ Some x → list_all q rows ≡ true → q x ≡ true) → q x ≡ true
    go true true a b later = let same : Some r ≡ Some x = rw a at found in cc
    go true false a b later = absurd (let all = rw b at all in cc)
    go false true a b later = later (rw a at found) (rw b at all)
    go false false a b later = absurd (let all = rw b at all in cc)

-- a set's stored disposition passes where its answers do
disposed_at : (row : SetRow) (seed : List ℕ) (graded : Option GradedValue) → IfSome graded (IsRightly seed row)
    → option_map (λ (g : GradedValue). g.disposition) graded ≡ option_map disposition_of
    (verdicts_under (set_record row) (Some seed) (option_map (λ (g : GradedValue). g.answers) graded))
disposed_at row seed None rightly = refl
disposed_at row seed (Some g) rightly = ap Some (rw rightly.verdicts at rightly.disposition)

-- what is kept of a set is what its answers come to
graded_disposition : (seeds : List (List ℕ)) (row : SetRow) → IsGradedSet seeds row
    → option_map (λ (g : GradedValue). g.disposition) row.graded ≡ set_disposition seeds (set_record row)
unfolding IsGradedSet set_disposition verdicts_on_set
graded_disposition seeds row right = rw (right.1) (disposed_at row right.0 row.graded right.2)

pub passed_is : (graded : Option GradedValue)
    → answers_passed graded ≡ is_some_and (option_map (λ (g : GradedValue). g.disposition) graded) is_passed
passed_is None = refl
passed_is (Some g) = refl

pub graded_passes : (seeds : List (List ℕ)) (row : SetRow) → IsGradedSet seeds row
    → answers_passed row.graded ≡ set_passes seeds (set_record row)
graded_passes seeds row right = passed_is row.graded
    ∙ ap (λ d. is_some_and d is_passed) (graded_disposition seeds row right)

-- what is read of a session's sets is what they come to
abbrev pub outcome_of : SetSummary → SetOutcome
outcome_of set = record { vs = set.number; disposition = set.disposition }

pub outcomes_among : (seeds : List (List ℕ)) (m : ℕ) (sets : List SetRow) → All (IsGradedSet seeds) sets
    → map outcome_of (map set_summary (live_sets m sets)) ≡ map (set_outcome seeds) (map set_record (live_sets m sets))
outcomes_among seeds m [] graded = refl
outcomes_among seeds m (row ∷ sets) graded =
    go (is_live_in m row) refl (graded_disposition seeds row (All-head (IsGradedSet seeds) row sets graded))
    (outcomes_among seeds m sets (All-tail (IsGradedSet seeds) row sets graded))
  where
    go : (live : Bool) → is_live_in m row ≡ live → option_map (λ (g : GradedValue). g.disposition) row.graded
        ≡ set_disposition seeds (set_record row)
        → map outcome_of (map set_summary (live_sets m sets)) ≡ map (set_outcome seeds)
        (map set_record (live_sets m sets))
        → map outcome_of (map set_summary (live_sets m (row ∷ sets))) ≡ map (set_outcome seeds)
        (map set_record (live_sets m (row ∷ sets)))
    go true live is later = rw live
        (rw is (ap (λ rest. (record { vs = row.number; disposition = set_disposition seeds (set_record row) })
        ∷ rest) later))
    go false live is later = rw live later

any_length : {A B : Type 0} (f : A → B) (xs : List A) → nat_le 1 (length xs) ≡ is_any (map f xs)
any_length f [] = refl
any_length f (x ∷ xs) = grind (arith, nat_tests)

pub fewer_passed : (m : ℕ) (sets : List SetRow) → passed_count m sets ≤ live_count m sets
fewer_passed m [] = omega (arith)
fewer_passed m (row ∷ sets) = go (is_live_in m row) (answers_passed row.graded) refl refl (fewer_passed m sets)
  where
    go : (live pass : Bool) → is_live_in m row ≡ live → answers_passed row.graded ≡ pass
        → passed_count m sets ≤ live_count m sets
        → passed_count m (row ∷ sets) ≤ live_count m (row ∷ sets)
    go true true live pass later = rw (live, pass) (omega (arith, later))
    go true false live pass later = rw (live, pass) (omega (arith, later))
    go false pass live is later = rw live later

pub both_more : (p l : ℕ) → (suc p == suc l) ≡ (p == l)
both_more p l = grind (arith, nat_tests)

pub not_one_more : (p l : ℕ) → p ≤ l → (p == suc l) ≡ false
not_one_more p l fewer = grind (arith, nat_tests, fewer)

-- all have passed where as many have passed as there are
all_counted : (seeds : List (List ℕ)) (m : ℕ) (sets : List SetRow) → All (IsGradedSet seeds) sets
    → (passed_count m sets == live_count m sets) ≡ list_all (set_passes seeds) (map set_record (live_sets m sets))
all_counted seeds m [] graded = refl
all_counted seeds m (row ∷ sets) graded =
    go (is_live_in m row) (answers_passed row.graded) refl refl
    (graded_passes seeds row (All-head (IsGradedSet seeds) row sets graded))
    (fewer_passed m sets) (all_counted seeds m sets (All-tail (IsGradedSet seeds) row sets graded))
  where
    go : (live pass : Bool) → is_live_in m row ≡ live → answers_passed row.graded ≡ pass
        → answers_passed row.graded ≡ set_passes seeds (set_record row)
        → passed_count m sets ≤ live_count m sets
        → (passed_count m sets == live_count m sets) ≡ list_all (set_passes seeds) (map set_record (live_sets m sets))
        → (passed_count m (row ∷ sets) == live_count m (row ∷ sets)) ≡ list_all (set_passes seeds)
        (map set_record (live_sets m (row ∷ sets)))
    go true true live pass passes fewer later =
        rw (live, pass, sym passes ∙ pass) (both_more (passed_count m sets) (live_count m sets) ∙ later)
    go true false live pass passes fewer later =
        rw (live, pass, sym passes ∙ pass) (not_one_more (passed_count m sets) (live_count m sets) fewer)
    go false pass live is passes fewer later = rw live later

-- the session's counters say whether it has passed
pub counters_tell : (follows : (s : ℕ) (c : Content)
    → live_records s (state_of c).sets ≡ map set_record (live_sets s c.sets))
    → (seeds : List (List ℕ)) (c : Content) (n : ℕ) (row : SessionRow) → IsKept seeds c
    → session_at n c.sessions ≡ Some row
    → (nat_le 1 row.live && (row.passed == row.live)) ≡ session_passes seeds row.number (state_of c).sets
unfolding session_passes
counters_tell follows seeds c n row kept found =
    let counted = found_holds (λ r. r.number == n) (is_counted c.sets) c.sessions row found kept.counted in
    rw (follows row.number c) (go (row.live) (row.passed) counted)
  where
    go : (live passed : ℕ) → ((live == live_count row.number c.sets) && (passed == passed_count row.number c.sets))
        ≡ true
        → (nat_le 1 live && (passed == live))
        ≡ (is_any (map set_record (live_sets row.number c.sets)) && list_all (set_passes seeds)
        (map set_record (live_sets row.number c.sets)))
    go live passed counted =
        let any = any_length set_record (live_sets row.number c.sets) in
        let all = all_counted seeds row.number c.sets kept.graded in
        grind (arith, nat_tests, counted, any, all)
