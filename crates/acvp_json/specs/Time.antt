-- The civil date and time of a moment in UTC, on the calendar of ISO 8601.
use Rattle.std.specs.Prelude.{ℕ, zero, suc, ◌+◌, ◌/◌, ◌%◌, pos, nat_lt, if◌then◌else◌, List, [], ◌∷◌, ◌++◌, codes}
use Rattle.jiff.specs.Words.{days_in_month}

-- a date: the year, the month from 1 to 12, and the day from 1 on
pub record CivilDate : Type 0 where
  pub year : ℕ
  pub month : ℕ
  pub day : ℕ

-- 1 January 1970
abbrev pub first_date : CivilDate
first_date = record { year = 1970; month = 1; day = 1 }

-- the date after a date: the next day of the month, the first of the next month, or the first of the next year
abbrev pub next_date : CivilDate → CivilDate
next_date d =
    if nat_lt d.day (days_in_month (pos d.year) d.month)
    then record { year = d.year; month = d.month; day = d.day + 1 }
    else (if nat_lt d.month 12 then record { year = d.year; month = d.month + 1; day = 1 }
    else record { year = d.year + 1; month = 1; day = 1 })

-- the date so many days after the first
unfoldable pub date_after : ℕ → CivilDate
date_after zero = first_date
date_after (suc days) = next_date (date_after days)

abbrev pub two_digits : ℕ → List ℕ
two_digits n = (48 + n / 10) ∷ (48 + n % 10) ∷ []

abbrev pub four_digits : ℕ → List ℕ
four_digits n = two_digits (n / 100) ++ two_digits (n % 100)

-- `2024-06-19`
abbrev pub date_text : CivilDate → List ℕ
date_text d = four_digits d.year ++ codes "-" ++ two_digits d.month ++ codes "-" ++ two_digits d.day

-- the time of day so many seconds after midnight, as `17:30:05`
abbrev pub clock_text : ℕ → List ℕ
clock_text seconds =
    two_digits (seconds / 3600) ++ codes ":" ++ two_digits (seconds / 60 % 60) ++ codes ":"
    ++ two_digits (seconds % 60)

-- the date and time of a moment in seconds since the start of 1970, on a clock without leap seconds (RFC 3339,
-- section 5.6)
unfoldable pub time_of : ℕ → List ℕ
time_of moment = date_text (date_after (moment / 86400)) ++ codes "T" ++ clock_text (moment % 86400) ++ codes "Z"

-- how long a test session lives, in seconds: thirty days
abbrev pub lifetime : ℕ
lifetime = 2592000
