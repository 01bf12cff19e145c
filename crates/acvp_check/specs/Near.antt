-- Rows among which others are found without a walk over all.
use Rattle.std.specs.Prelude.{◌≡◌, ℕ, ◌≤◌, ◌<◌, List, Bool, false, filter, ◌==◌, length}
use Rattle.std.specs.List.{list_any, slice_index_or}
use Rattle.acvp_tables.specs.Counted.{is_counted}
use Rattle.acvp_tables.specs.declared.rows.SessionRow.{SessionRow}
use Rattle.acvp_tables.specs.declared.rows.SetRow.{SetRow}
use Rattle.acvp_check.specs.Conditions.{sets_of}

-- the sessions of rows don't fall from one to the next
abbrev pub Ascend : {R : Type 0} → (R → ℕ) → List R → Type 0
Ascend {R} session rows = (i j : ℕ) (d : R) → i ≤ j → j < length rows
    → session (slice_index_or rows i d) ≤ session (slice_index_or rows j d)

-- the numbers of rows rise from one to the next
abbrev pub Rise : {R : Type 0} → (R → ℕ) → List R → Type 0
Rise {R} number rows = (i j : ℕ) (d : R) → i < j → j < length rows
    → number (slice_index_or rows i d) < number (slice_index_or rows j d)

-- some rows, among which all of a session are: a test that no other session's row passes comes to the same
pub record AreItsRows {R : Type 0} (session : R → ℕ) (n : ℕ) (all some : List R) : Type 0 where
  pub any : (q : R → Bool) → ((r : R) → (session r == n) ≡ false → q r ≡ false) → list_any q all ≡ list_any q some
  pub left : (q : R → Bool) → ((r : R) → (session r == n) ≡ false → q r ≡ false) → filter q all ≡ filter q some

-- what is asked of a session's vector sets comes to the same among some of them
pub record AreItsSets (row : SessionRow) (all some : List SetRow) : Type 0 where
  pub any : list_any (λ set. set.session == row.number) all ≡ list_any (λ set. set.session == row.number) some
  pub sets : sets_of row.number all ≡ sets_of row.number some
  pub counted : is_counted all row ≡ is_counted some row
