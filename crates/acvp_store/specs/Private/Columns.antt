-- The columns of a row that a query reads.
use Rattle.std.specs.Prelude.{[], ◌∷◌}
use Rattle.sqlite_value.specs.Order.{Row, column}

abbrev pub account_columns : Row → Row
account_columns row = column row 0 ∷ column row 2 ∷ column row 3 ∷ column row 4 ∷ []

abbrev pub session_columns : Row → Row
session_columns row = column row 0 ∷ column row 2 ∷ column row 3 ∷ column row 4 ∷ column row 5 ∷ column row 6
    ∷ column row 7 ∷ column row 8 ∷ []

abbrev pub request_columns : Row → Row
request_columns row = column row 0 ∷ column row 2 ∷ column row 3 ∷ column row 4 ∷ column row 5 ∷ column row 6 ∷ []

abbrev pub set_columns : Row → Row
set_columns row = column row 0 ∷ column row 2 ∷ column row 3 ∷ column row 4 ∷ column row 5 ∷ column row 6
    ∷ column row 7 ∷ column row 8 ∷ []

-- what was decided, alone
abbrev pub status_columns : Row → Row
status_columns row = column row 5 ∷ column row 6 ∷ []

abbrev pub capability_column : Row → Row
capability_column row = column row 3 ∷ []

abbrev pub columns_of_object : Row → Row
columns_of_object row = column row 1 ∷ column row 2 ∷ column row 3 ∷ column row 4 ∷ []

abbrev pub columns_of_reviewer : Row → Row
columns_of_reviewer row = column row 1 ∷ column row 2 ∷ []
