-- The rows of the tables: how the fields of each are kept in its columns. A row begins with its number in its tree; a
-- column that is the table's INTEGER PRIMARY KEY is kept there and is NULL in its place.
use Rattle.std.specs.Prelude.{ℕ, List, [], ◌∷◌}
use Rattle.sqlite.specs.Values.{or_null}
use Rattle.sqlite_value.specs.declared.value.Value.TheVariants.{Null, Blob}
use Rattle.sqlite_value.specs.Order.{Row}
use Rattle.acvp_tables.specs.declared.rows.AccountRow.{AccountRow}
use Rattle.acvp_tables.specs.declared.rows.SessionRow.{SessionRow}
use Rattle.acvp_store.specs.Values.{whole, flag}
use Rattle.acvp_store.specs.Kept.{AreKept}

-- ---- accounts

abbrev pub account_tree : ℕ
account_tree = 2

abbrev pub account_key : AccountRow → ℕ
account_key a = a.number

abbrev pub account_row : AccountRow → Row
account_row a = whole a.number ∷ Null ∷ Blob a.secret ∷ flag a.enabled ∷ or_null whole a.last_step ∷ []

abbrev pub HoldsAccounts : List Row → List AccountRow → Type 0
HoldsAccounts = AreKept account_key account_row

-- its columns, as a query shows them
abbrev pub account_shown : AccountRow → Row
account_shown a = whole a.number ∷ Blob a.secret ∷ flag a.enabled ∷ or_null whole a.last_step ∷ []

-- ---- sessions

abbrev pub session_tree : ℕ
session_tree = 3

abbrev pub session_key : SessionRow → ℕ
session_key s = s.number

abbrev pub session_row : SessionRow → Row
session_row s = whole s.number ∷ Null ∷ whole s.account ∷ flag s.sample ∷ whole s.created ∷ flag s.cancelled
    ∷ or_null whole s.last_request ∷ whole s.live ∷ whole s.passed ∷ []

abbrev pub HoldsSessions : List Row → List SessionRow → Type 0
HoldsSessions = AreKept session_key session_row

abbrev pub session_shown : SessionRow → Row
session_shown s = whole s.number ∷ whole s.account ∷ flag s.sample ∷ whole s.created ∷ flag s.cancelled
    ∷ or_null whole s.last_request ∷ whole s.live ∷ whole s.passed ∷ []
