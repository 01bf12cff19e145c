-- What a list's numbers rise from, how many reviewers are listed, and what bounds a session's counters and the epochs.
use Rattle.std.proofs.Common.{◌≡◌, ℕ, zero, suc, ◌+◌, ◌≤◌, Bool, true, false, List, [], ◌∷◌, length, Option, Some, None}
use Rattle.std.proofs.Common.{refl, ap, subst, ◌∙◌}
use Rattle.std.proofs.Common.{arith}
use Rattle.std.specs.Prelude.{filter, find, not, nat_le, ◌==◌, ◌&&◌, IfSome, All}
use Rattle.std.proofs.lemmas.Bool.Decides.{nat_tests}
use Rattle.std.proofs.lemmas.List.{length-map}
use Rattle.std.proofs.lemmas.Option.{same_Some}
use Rattle.acvp_registry.specs.declared.kind.Kind.{Kind}
use Rattle.acvp_tables.specs.Content.{Content, is_kind, is_live_in, greatest_epoch_of, greater, objects_of, requests_of}
use Rattle.acvp_tables.specs.Content.{reviewers_of}
use Rattle.acvp_tables.specs.Changes.{is_set}
use Rattle.acvp_tables.specs.Counted.{answers_passed, is_passed_in, IsCounted, AreThere}
use Rattle.acvp_tables.specs.State.{State, SetRecord, IsNumbered, own, sets_in, live_records, objects_in}
use Rattle.acvp_tables.specs.State.{session_records_of, IsWellNumbered}
use Rattle.acvp_tables.specs.State.{first_of_account}
use Rattle.acvp_tables.specs.Private.Ascending.{with_number, ascending}
use Rattle.acvp_tables.specs.declared.rows.SetRow.{SetRow}
use Rattle.acvp_tables.specs.declared.rows.ObjectRow.{ObjectRow}
use Rattle.acvp_tables.specs.declared.rows.ReviewerRow.{ReviewerRow}
use Rattle.acvp_tables.proofs.CountsKept.{counters}
use Rattle.acvp_tables.proofs.Numbers.{filter_both}
use Rattle.acvp_tables.proofs.Reviewers.{accounts_in, of_sound}

-- ---- the numbers of a list

-- the rows that pass both tests are those that pass one, of those that pass the other
filter_two : {R : Type 0} (p q : R → Bool) (rows : List R)
    → filter p (filter q rows) ≡ filter (λ row. p row && q row) rows
filter_two p q [] = refl
filter_two p q (r ∷ rows) = grind (arith, nat_tests, filter_two p q rows)

pub own_of_kind : (u : ℕ) (kind : Kind) (state : State)
    → objects_in kind (own u state).objects ≡ objects_of kind u state.objects
unfolding own
own_of_kind u kind state =
    filter_two (λ (row : ObjectRow). is_kind row.object.kind kind) (λ row. row.account == u) state.objects

pub sessions_ascend : (u : ℕ) (state : State) → IsWellNumbered state
    → IsNumbered (λ row. row.number) (first_of_account u) (session_records_of u state.sessions)
unfolding IsWellNumbered own
sessions_ascend u state well = (well u).sessions

pub objects_ascend : (u : ℕ) (kind : Kind) (state : State) → IsWellNumbered state
    → IsNumbered (λ row. row.number) (first_of_account u) (objects_of kind u state.objects)
unfolding IsWellNumbered
objects_ascend u kind state well =
    subst (λ rows. IsNumbered (λ row. row.number) (first_of_account u) rows) (own_of_kind u kind state)
    ((well u).objects kind)

pub requests_ascend : (u : ℕ) (state : State) → IsWellNumbered state
    → IsNumbered (λ row. row.number) (first_of_account u) (requests_of u state.requests)
unfolding IsWellNumbered own
requests_ascend u state well = (well u).requests

pub live_among : (s : ℕ) (state : State)
    → live_records s state.sets ≡ filter (λ row. not row.cancelled) (sets_in s state.sets)
live_among s state = filter_both (λ (row : SetRecord). not row.cancelled) (λ row. row.session == s) state.sets

-- ---- how many reviewers

one_more : (n : ℕ) (numbers : List ℕ) → length (with_number n numbers) ≡ suc (length numbers)
one_more n [] = refl
one_more n (m ∷ numbers) = go (nat_le n m) refl (one_more n numbers)
  where
    go : (b : Bool) → nat_le n m ≡ b → length (with_number n numbers) ≡ suc (length numbers)
        → length (with_number n (m ∷ numbers)) ≡ suc (suc (length numbers))
    go true e rest = rw e refl
    go false e rest = rw e (ap suc rest)

all_put : (placed numbers : List ℕ) → length (ascending placed numbers) ≡ length placed + length numbers
all_put placed [] = omega arith
all_put placed (n ∷ numbers) = omega (arith, all_put (with_number n placed) numbers, one_more n placed)

pub reviewers_count : (s : ℕ) (state : State) → IsWellNumbered state
    → length (reviewers_of s state.reviewers) ≡ length (filter (λ row. row.session == s) state.reviewers)
reviewers_count s state well =
    let same : length (ascending [] (accounts_in s state.reviewers)) ≡ length (reviewers_of s state.reviewers) =
    ap length (of_sound s state well) in
    let as_many = length-map (filter (λ row. row.session == s) state.reviewers) (λ (row : ReviewerRow). row.account) in
    omega (arith, same, all_put [] (accounts_in s state.reviewers), as_many)

-- ---- counters that can be lessened

-- a row that is found and passes is counted
found_counts : {R : Type 0} (t q : R → Bool) (rows : List R) (x : R) → find t rows ≡ Some x → q x ≡ true
    → 1 ≤ length (filter q rows)
found_counts t q [] x found on = cc
found_counts t q (r ∷ rows) x found on = go (t r) refl (λ later. found_counts t q rows x later on)
  where
    go : (b : Bool) → t r ≡ b → (find t rows ≡ Some x → 1 ≤ length (filter q rows)) → 1 ≤ length (filter q (r ∷ rows))
    go true e later =
        let same : r ≡ x = same_Some r x (rw e at found) in
        let here : q r ≡ true = ap q same ∙ on in
        rw here (omega arith)
    go false e later = let some : 1 ≤ length (filter q rows) = later (rw e at found) in grind (arith, nat_tests, some)

pub one_live : (session set : ℕ) (c : Content) → IsCounted c → (there : AreThere session set c) → 1 ≤ there.row.live
one_live session set c counted there =
    let is = counters session c there.row there.has_session counted in
    omega (arith, is.live, found_counts (is_set set) (is_live_in session) c.sets there.set_row there.has_set there.live)

pub one_passed : (session set : ℕ) (c : Content) → IsCounted c → (there : AreThere session set c)
    → answers_passed there.set_row.graded ≡ true
    → 1 ≤ there.row.passed
one_passed session set c counted there has =
    let is = counters session c there.row there.has_session counted in
    let on : is_passed_in session there.set_row ≡ true = grind (arith, nat_tests, there.live, has) in
    omega (arith, is.passed, found_counts (is_set set) (is_passed_in session) c.sets there.set_row there.has_set on)

-- ---- the greatest epoch

pub no_epoch : (rows : List SetRow) → greatest_epoch_of rows ≡ None → rows ≡ []
no_epoch [] e = refl
no_epoch (row ∷ rows) e = cc

pub epochs_below : (rows : List SetRow)
    → IfSome (greatest_epoch_of rows) (λ greatest. All (λ row. row.epoch ≤ greatest) rows)
epochs_below [] = tt
epochs_below (row ∷ rows) = go (greatest_epoch_of rows) refl (epochs_below rows)
  where
    go : (found : Option ℕ) → greatest_epoch_of rows ≡ found
        → IfSome found (λ greatest. All (λ row. row.epoch ≤ greatest) rows)
        → All (λ other. other.epoch ≤ greater row.epoch (greatest_epoch_of rows)) (row ∷ rows)
    go None e below zero d within = rw e (omega arith)
    go None e below (suc k) d within = absurd (let none = ap length (no_epoch rows e) in omega (arith, none, within))
    go (Some m) e below zero d within = rw e (grind (arith, nat_tests))
    go (Some m) e below (suc k) d within = let low = below k d (omega (arith, within)) in
        rw e (grind (arith, nat_tests, low))
