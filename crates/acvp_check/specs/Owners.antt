-- Each row is of an account, and its number says so: what is looked at of all rows before those of an account are
-- judged together.
use Rattle.std.specs.Prelude.{ℕ, ◌/◌, List, ◌++◌, ◌∷◌, [], Bool, ◌==◌, ◌&&◌}
use Rattle.std.specs.List.{flat_map}
use Rattle.acvp_mac.specs.Conditions.{Condition}
use Rattle.acvp_tables.specs.Content.{Content}
use Rattle.acvp_tables.specs.State.{is_account_number, owner_of}
use Rattle.acvp_tables.specs.declared.rows.AccountRow.{AccountRow}
use Rattle.acvp_tables.specs.declared.rows.SessionRow.{SessionRow}
use Rattle.acvp_tables.specs.declared.rows.SetRow.{SetRow}
use Rattle.acvp_tables.specs.declared.rows.ObjectRow.{ObjectRow}
use Rattle.acvp_tables.specs.declared.rows.RequestRow.{RequestRow}
use Rattle.acvp_tables.specs.declared.rows.ReviewerRow.{ReviewerRow}
use Rattle.acvp_check.specs.Conditions.{finding, object_key, reviewer_key}
use Rattle.acvp_check.specs.declared.finding.Finding.{Finding}
use Rattle.acvp_check.specs.declared.finding.RowKey.TheVariants as key
use Rattle.acvp_check.specs.declared.finding.Wrong.TheVariants as wrong

-- it is of an account, which its number names
abbrev pub is_of : ℕ → ℕ → Bool
is_of account number = is_account_number account && (owner_of number == account)

-- it is of an account's session, which its number names
abbrev pub is_in : ℕ → ℕ → Bool
is_in session number = is_account_number (owner_of session) && ((number / 100) == session)

abbrev pub account_owner : AccountRow → List (Condition Finding)
account_owner row = (is_account_number row.number, finding (key.Account row.number) wrong.Owner) ∷ []

abbrev pub session_owner : SessionRow → List (Condition Finding)
session_owner row = (is_of row.account row.number, finding (key.Session row.number) wrong.Owner) ∷ []

abbrev pub set_owner : SetRow → List (Condition Finding)
set_owner row = (is_in row.session row.number, finding (key.Set row.number) wrong.Owner) ∷ []

abbrev pub object_owner : ObjectRow → List (Condition Finding)
object_owner row = (is_of row.account row.number, finding (object_key row) wrong.Owner) ∷ []

abbrev pub request_owner : RequestRow → List (Condition Finding)
request_owner row = (is_of row.account row.number, finding (key.Request row.number) wrong.Owner) ∷ []

abbrev pub reviewer_owner : ReviewerRow → List (Condition Finding)
reviewer_owner row = (is_account_number (owner_of row.session), finding (reviewer_key row) wrong.Owner) ∷ []

-- of accounts and test sessions
unfoldable pub session_owners : Content → List (Condition Finding)
session_owners c =
    flat_map account_owner c.accounts ++ flat_map session_owner c.sessions ++ flat_map set_owner c.sets

-- of what is registered, asked for and reviewed
unfoldable pub registry_owners : Content → List (Condition Finding)
registry_owners c =
    flat_map object_owner c.objects ++ flat_map request_owner c.requests ++ flat_map reviewer_owner c.reviewers

unfoldable pub owner_conditions : Content → List (Condition Finding)
owner_conditions c = session_owners c ++ registry_owners c
