-- Who reviews a session after a change.
use Rattle.std.proofs.Common.{◌≡◌, ℕ, Bool, true, false, List, [], ◌∷◌, ◌++◌, ◌⊎◌, inl, inr, refl, sym, ◌∙◌, arith}
use Rattle.std.specs.Prelude.{filter, not, ◌==◌, ◌&&◌, ◌||◌}
use Rattle.std.specs.List.{list_any}
use Rattle.std.proofs.lemmas.Bool.Decides.{nat_tests}
use Rattle.std.proofs.lemmas.List.Folds.{list_any-append}
use Rattle.acvp_tables.specs.Changes.{is_pair}
use Rattle.acvp_tables.specs.Content.{is_reviewer}
use Rattle.acvp_tables.specs.State.{State}
use Rattle.acvp_tables.specs.StateChanges.{after_state, after_order_state}
use Rattle.acvp_tables.specs.declared.change.Change.{Change}
use Rattle.acvp_tables.specs.declared.change.Change.TheVariants as change
use Rattle.acvp_tables.specs.declared.change.OrderChange.{OrderChange}
use Rattle.acvp_tables.specs.declared.rows.ReviewerRow.{ReviewerRow}

was_there : {R : Type 0} → (p q : R → Bool) (rows : List R) → list_any p (filter q rows) ≡ true → list_any p rows ≡ true
was_there p q [] there = there
was_there p q (row ∷ rows) there = go (p row) (q row) refl refl (was_there p q rows)
  where
    go : (passes stays : Bool) → p row ≡ passes → q row ≡ stays
        → (list_any p (filter q rows) ≡ true → list_any p rows ≡ true) → list_any p (row ∷ rows) ≡ true
    go true stays passes e later = rw passes refl
    go false true passes e later = rw passes (later (rw (e, passes) at there))
    go false false passes e later = rw passes (later (rw e at there))

-- the one row behind the others is the pair where none of the others is
added : (s a : ℕ) (r : ReviewerRow) (rows : List ReviewerRow) → is_reviewer s a (rows ++ r ∷ []) ≡ true
    → (is_reviewer s a rows ≡ true) ⊎ (change.AddReviewer r ≡ change.AddReviewer (record { session = s; account = a }))
added s a r rows there = go (is_reviewer s a rows) ((r.session == s) && (r.account == a)) refl refl
    (sym (list_any-append (λ (row : ReviewerRow). (row.session == s) && (row.account == a)) rows (r ∷ [])) ∙ there)
  where
    go : (was is : Bool) → is_reviewer s a rows ≡ was → ((r.session == s) && (r.account == a)) ≡ is
        → (is_reviewer s a rows || is_reviewer s a (r ∷ [])) ≡ true
        → (is_reviewer s a rows ≡ true)
        ⊎ (change.AddReviewer r ≡ change.AddReviewer (record { session = s; account = a }))
    go true is was e h = inl was
    go false true was e h =
        let session : r.session ≡ s = grind (arith, nat_tests, e) in
        let account : r.account ≡ a = grind (arith, nat_tests, e) in
        inr (rw (← session, ← account) refl)
    go false false was e h = absurd (grind (arith, was, e, h))

pub reviewers_added : (s a : ℕ) (it : Change) (state : State) → is_reviewer s a (after_state it state).reviewers ≡ true
    → (is_reviewer s a state.reviewers ≡ true) ⊎ (it ≡ change.AddReviewer (record { session = s; account = a }))
unfolding after_state
reviewers_added s a (change.AddReviewer r) state there = go (is_reviewer r.session r.account state.reviewers) refl
  where
    go : (b : Bool) → is_reviewer r.session r.account state.reviewers ≡ b
        → (is_reviewer s a state.reviewers ≡ true)
        ⊎ (change.AddReviewer r ≡ change.AddReviewer (record { session = s; account = a }))
    go true is = inl (rw is at there)
    go false is = added s a r state.reviewers (rw is at there)
reviewers_added s a (change.RemoveReviewer r) state there =
    inl (was_there (λ (row : ReviewerRow). (row.session == s) && (row.account == a))
    (λ row. not (is_pair r row)) state.reviewers there)
reviewers_added s a _ state there = inl there

pub reviewers_stay : (it : OrderChange) (state : State) → (after_order_state it state).reviewers ≡ state.reviewers
unfolding after_order_state
reviewers_stay it state = refl
