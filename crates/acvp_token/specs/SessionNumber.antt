-- The number of a test session: its account's times 1000000 plus its place among the account's sessions.
use Rattle.std.specs.Prelude.{ℕ, ◌/◌}

-- the account that a session is of
abbrev pub account_of_session : ℕ → ℕ
account_of_session session = session / 1000000
