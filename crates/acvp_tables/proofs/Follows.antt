-- What a change makes of a content is what it makes of the records of it.
use Rattle.std.proofs.Common.{◌≡◌, Bool, List, [], ◌∷◌, map, refl, arith}
use Rattle.std.proofs.lemmas.Bool.Decides.{nat_tests}
use Rattle.std.proofs.lemmas.List.{map-append}
use Rattle.acvp_tables.specs.Content.{Content}
use Rattle.acvp_tables.specs.State.{session_record, set_record, state_of}
use Rattle.acvp_tables.specs.Changes.{changed, after, after_order, is_session, cancelled_session, with_last_request}
use Rattle.acvp_tables.specs.Changes.{with_passed, with_counts, is_set, with_graded, cancelled_set}
use Rattle.acvp_tables.specs.StateChanges.{after_state, after_order_state, is_session_record, cancelled_session_record}
use Rattle.acvp_tables.specs.StateChanges.{certified_record, is_set_record, answered_record, cancelled_set_record}
use Rattle.acvp_tables.specs.declared.change.Change.{Change}
use Rattle.acvp_tables.specs.declared.change.Change.TheVariants as change
use Rattle.acvp_tables.specs.declared.change.OrderChange.{OrderChange}

-- a change of rows, seen in their records
map-changed : {R Q : Type 0} (g : R → Q) (p : R → Bool) (f : R → R) (q : Q → Bool) (h : Q → Q)
    → ((r : R) → q (g r) ≡ p r) → ((r : R) → g (f r) ≡ h (g r)) → (rows : List R)
    → map g (changed p f rows) ≡ changed q h (map g rows)
map-changed g p f q h tests changes [] = refl
map-changed g p f q h tests changes (r ∷ rows) =
    grind (arith, nat_tests, tests r, changes r, map-changed g p f q h tests changes rows)

-- a change that their records don't tell
pub map-unchanged : {R Q : Type 0} (g : R → Q) (p : R → Bool) (f : R → R) → ((r : R) → g (f r) ≡ g r) → (rows : List R)
    → map g (changed p f rows) ≡ map g rows
map-unchanged g p f same [] = refl
map-unchanged g p f same (r ∷ rows) = grind (arith, nat_tests, same r, map-unchanged g p f same rows)

pub follows : (c : Content) (it : Change) → state_of (after it c) ≡ after_state it (state_of c)
unfolding state_of after after_state
follows c (change.UseStep u) = refl
follows c (change.NewSession s) = simp map-append
follows c (change.KeepAnswers k) = simp (
  map-unchanged session_record (is_session k.session) (with_passed k.passed) (λ r. refl) c.sessions,
  map-changed set_record (is_set k.set) (with_graded k.graded) (is_set_record k.set) (answered_record k.graded.answers)
      (λ r. refl) (λ r. refl) c.sets,
)
follows c (change.CancelSession n) =
    simp (map-changed session_record (is_session n) cancelled_session (is_session_record n) cancelled_session_record
    (λ r. refl) (λ r. refl) c.sessions)
follows c (change.CancelSet x) = simp (
  map-unchanged session_record (is_session x.session) (with_counts x.live x.passed) (λ r. refl) c.sessions,
  map-changed set_record (is_set x.set) cancelled_set (is_set_record x.set) cancelled_set_record (λ r. refl)
      (λ r. refl) c.sets,
)
follows c (change.NewRequest r) = refl
follows c (change.Certify x) =
    simp (map-changed session_record (is_session x.certification.session) (with_last_request x.number)
    (is_session_record x.certification.session) (certified_record x.number) (λ r. refl) (λ r. refl) c.sessions)
follows c (change.AddReviewer r) = refl
follows c (change.RemoveReviewer r) = refl

pub order_follows : (c : Content) (it : OrderChange) → state_of (after_order it c) ≡ after_order_state it (state_of c)
unfolding state_of after_order after_order_state
order_follows c it = refl
