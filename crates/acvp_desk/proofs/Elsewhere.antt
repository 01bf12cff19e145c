-- A row whose number names another account, or another session, isn't there; one whose number names the session that it
-- is looked for in is found by its number alone.
use Rattle.std.proofs.Common.{◌≡◌, ℕ, ◌/◌, List, true, false, ◌==◌, Option, None, Some, refl}
use Rattle.std.specs.Prelude.{if◌then◌else◌, option_and_then}
use Rattle.acvp_tables.specs.State.{State, SetRecord, set_record_at, IsWellNumbered}
use Rattle.acvp_desk.specs.Sets.{if_live_in, no_set_place, set_in_session, set_place, submission_for}
use Rattle.acvp_desk.specs.declared.wish.SetWish.{SetWish}
use Rattle.acvp_desk.specs.declared.wish.SetWish.TheVariants as on_set

-- ---- by what a row names

pub none_elsewhere : {Row : Type 0} → (key : Row → ℕ) (wanted named : ℕ) (found : Option Row)
    → ((row : Row) → found ≡ Some row → key row ≡ named)
    → (named == wanted) ≡ false → option_and_then (λ row. if key row == wanted then Some row else None) found ≡ None
none_elsewhere key wanted named None names apart = refl
none_elsewhere key wanted named (Some row) names apart = let is : key row ≡ named = names row refl in
    rw (is, apart) refl

pub found_there : {Row : Type 0} → (key : Row → ℕ) (wanted named : ℕ) (found : Option Row)
    → ((row : Row) → found ≡ Some row → key row ≡ named)
    → (named == wanted) ≡ true → option_and_then (λ row. if key row == wanted then Some row else None) found ≡ found
found_there key wanted named None names same = refl
found_there key wanted named (Some row) names same = let is : key row ≡ named = names row refl in rw (is, same) refl

-- ---- a vector set

module _ (names : (n : ℕ) (state : State) (row : SetRecord) → IsWellNumbered state
    → set_record_at n state.sets ≡ Some row → row.session ≡ n / 100) where
  pub no_set_in : (session n : ℕ) (state : State) → IsWellNumbered state → ((n / 100) == session) ≡ false
      → set_in_session session n state.sets ≡ None
  no_set_in session n state well apart =
      none_elsewhere (λ (row : SetRecord). row.session) session (n / 100) (set_record_at n state.sets)
      (λ row is. names n state row well is) apart

  pub set_in : (session n : ℕ) (state : State) → IsWellNumbered state → ((n / 100) == session) ≡ true
      → set_in_session session n state.sets ≡ set_record_at n state.sets
  set_in session n state well same =
      found_there (λ (row : SetRecord). row.session) session (n / 100) (set_record_at n state.sets)
      (λ row is. names n state row well is) same

  pub none_live : (session n : ℕ) (state : State) → IsWellNumbered state → ((n / 100) == session) ≡ false
      → option_and_then (if_live_in session) (set_record_at n state.sets) ≡ None
  none_live session n state well apart = go (set_record_at n state.sets) refl
    where
      go : (found : Option SetRecord) → set_record_at n state.sets ≡ found
          → option_and_then (if_live_in session) found ≡ None
      go None is = refl
      go (Some row) is = let of : row.session ≡ n / 100 = names n state row well is in rw (of, apart) refl

  -- what is read of a vector set that isn't of the session
  pub no_place : (seeds : List (List ℕ)) (session n : ℕ) (state : State) (it : SetWish) → IsWellNumbered state
      → ((n / 100) == session) ≡ false
      → no_set_place it ≡ set_place seeds session n state.sets it
  unfolding submission_for
  no_place seeds session n state on_set.Read well apart = rw (no_set_in session n state well apart) refl
  no_place seeds session n state on_set.Expected well apart = rw (no_set_in session n state well apart) refl
  no_place seeds session n state on_set.Results well apart = rw (no_set_in session n state well apart) refl
  no_place seeds session n state on_set.Submit well apart = rw (none_live session n state well apart) refl
  no_place seeds session n state on_set.Resubmit well apart = rw (none_live session n state well apart) refl
