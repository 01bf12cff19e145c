-- When the conditions on a content hold.
use Rattle.std.specs.Prelude.{◌≡◌, ℕ, List, Bool, true, None}
use Rattle.acvp_mac.specs.Conditions.{first_broken}
use Rattle.acvp_tables.specs.Content.{Content}
use Rattle.acvp_tables.specs.State.{is_account_number}
use Rattle.acvp_check.specs.Conditions.{all_conditions}
use Rattle.acvp_check.specs.Owners.{owner_conditions}
use Rattle.acvp_check.specs.Rows.{rows_of}

-- each row is of the account that its number names, and on no account's rows a condition is broken, with the verdicts
-- or without
pub record IsWhole (grades : Bool) (seeds : List (List ℕ)) (c : Content) : Type 0 where
  pub owners : first_broken (owner_conditions c) ≡ None
  pub accounts : (u : ℕ) → is_account_number u ≡ true
      → first_broken (all_conditions grades seeds u (rows_of u c)) ≡ None
