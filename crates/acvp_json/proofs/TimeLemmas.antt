-- Lemmas on moments: the kit's date of a moment is the one that counting day after day comes to.
use Rattle.std.proofs.Common.{◌≡◌, ℕ, zero, suc, ◌+◌, ◌*◌, ◌/◌, ◌%◌, ◌<◌, ◌≤◌, inl, inr, add-one, ◌++◌, refl, sym, ap}
use Rattle.std.proofs.Common.{◌∙◌, arith, rules, pos, ◌+ℤ◌, codes}
use Rattle.std.proofs.lemmas.Bool.{lt-ltb, le-ltb, cases_order}
use Rattle.jiff.specs.Words.{epoch_day, time_nanos, days_in_month, iso_datetime_text}
use Rattle.jiff.specs.Types.{Date, DateTime, Time}
use Rattle.jiff.proofs.Family.{epoch_day_injective, days_from_civil-day, days_from_civil-next_month}
use Rattle.jiff.proofs.Family.{days_from_civil-next_year, days_from_civil-max, civil_nanos-parts, time_nanos_bound}
use Rattle.jiff.proofs.SpanFacts.{signed_arith}
use Rattle.jiff.proofs.OnLiterals.{jiff_on_literals}
use Rattle.acvp_json.specs.Time.{CivilDate, first_date, next_date, date_after, date_text, clock_text, time_of}
use Rattle.acvp_json.specs.Private.Civil.{IsCivilTimeOf}

-- ---- the number of the day after a day

day_on : (n : ℕ) (a b : Date) → epoch_day a ≡ pos n → b.year ≡ a.year → b.month ≡ a.month → b.day ≡ a.day + 1
    → epoch_day b ≡ pos (n + 1)
day_on n a b e year month day =
    let next = days_from_civil-day a.year a.month a.day (a.day + 1) a.day_in.0 (omega arith) in
    rw (year, month, day) (omega (arith, signed_arith))

month_on : (n : ℕ) (a b : Date) → epoch_day a ≡ pos n → a.day ≡ days_in_month a.year a.month → b.year ≡ a.year
    → b.month ≡ a.month + 1 → b.day ≡ 1 → epoch_day b ≡ pos (n + 1)
month_on n a b e last year month day =
    let next = days_from_civil-next_month a.year a.month a.day a.month_in.0 last in
    rw (year, month, day) (omega (arith, signed_arith))

year_on : (n : ℕ) (a b : Date) → epoch_day a ≡ pos n → a.month ≡ 12 → a.day ≡ 31 → b.year ≡ a.year +ℤ pos 1
    → b.month ≡ 1 → b.day ≡ 1 → epoch_day b ≡ pos (n + 1)
year_on n a b e december last year month day =
    let next = days_from_civil-next_year a.year b.year (omega (arith, signed_arith, a.year_in)) year in
    let before = rw (december, last) at e in
    rw (month, day) (omega (arith, signed_arith))

-- ---- the date so many days after the first

-- the kit has a date of this year, month and day, and its number is n
record IsDay (n : ℕ) (d : CivilDate) : Type 0 where
  date : Date
  number : epoch_day date ≡ pos n
  year : date.year ≡ pos d.year
  month : date.month ≡ d.month
  day : date.day ≡ d.day

first_day : Date
first_day =
    record {
      year = pos 1970;
      month = 1;
      day = 1;
      year_in = search rules;
      month_in = search rules;
      day_in = search rules;
    }

first_number : epoch_day first_day ≡ pos 0
unfolding first_day jiff_on_literals
first_number = refl

first_is : IsDay 0 first_date
unfolding first_day
first_is = record { date = first_day; number = first_number; year = refl; month = refl; day = refl }

next_day : (n y m d : ℕ) → IsDay n (record { year = y; month = m; day = d }) → d < days_in_month (pos y) m
    → IsDay (n + 1) (record { year = y; month = m; day = d + 1 })
next_day n y m d is room =
    let a = is.date in
    let within : a.day < days_in_month a.year a.month = rw (is.year, is.month, is.day) room in
    let b : Date =
    record {
      year = a.year;
      month = a.month;
      day = a.day + 1;
      year_in = a.year_in;
      month_in = a.month_in;
      day_in = (omega arith, omega arith);
    } in
    record {
      date = b;
      number = day_on n a b is.number refl refl refl;
      year = is.year;
      month = is.month;
      day = ap (λ k. k + 1) is.day;
    }

next_month : (n y m d : ℕ) → IsDay n (record { year = y; month = m; day = d }) → d ≡ days_in_month (pos y) m → m < 12
    → IsDay (n + 1) (record { year = y; month = m + 1; day = 1 })
next_month n y m d is last early =
    let a = is.date in
    let same = is.month in
    let ends : a.day ≡ days_in_month a.year a.month = rw (is.year, is.month, is.day) last in
    let b : Date =
    record {
      year = a.year;
      month = a.month + 1;
      day = 1;
      year_in = a.year_in;
      month_in = (omega arith, omega arith);
      day_in = (omega arith, grind arith);
    } in
    record {
      date = b;
      number = month_on n a b is.number ends refl refl refl;
      year = is.year;
      month = ap (λ k. k + 1) is.month;
      day = refl;
    }

-- the last day of the kit's years is day 2932896
year_below : (n y : ℕ) (a : Date) → n < 2932896 → epoch_day a ≡ pos n → a.year ≡ pos y → a.month ≡ 12 → a.day ≡ 31
    → y < 9999
year_below n y a below number year december last =
    let within = rw year at a.year_in in
    elim (cases_order y 9999) [
      | inr (inl lt) ↦ lt
      | inl same ↦
          (let end = rw (year, same, december, last, days_from_civil-max) at number in
          absurd (omega (arith, signed_arith)))
      | inr (inr gt) ↦ absurd (omega (arith, signed_arith))
    ]

next_year : (n y m d : ℕ) → n < 2932896 → IsDay n (record { year = y; month = m; day = d })
    → d ≡ days_in_month (pos y) m → m ≡ 12 → IsDay (n + 1) (record { year = y + 1; month = 1; day = 1 })
next_year n y m d below is last december =
    let a = is.date in
    let twelve : a.month ≡ 12 = is.month ∙ december in
    let thirty_one : d ≡ 31 = rw december at last in
    let ends : a.day ≡ 31 = is.day ∙ thirty_one in
    let early = year_below n y a below is.number is.year twelve ends in
    let b : Date =
    record {
      year = pos (y + 1);
      month = 1;
      day = 1;
      year_in = (omega (arith, signed_arith), omega (arith, signed_arith));
      month_in = search rules;
      day_in = (omega arith, grind arith);
    } in
    let after : pos (y + 1) ≡ a.year +ℤ pos 1 = rw is.year (omega (arith, signed_arith)) in
    record {
      date = b;
      number = year_on n a b is.number twelve ends after refl refl;
      year = refl;
      month = refl;
      day =
          refl;
    }

day_after : (n : ℕ) (d : CivilDate) → n < 2932896 → IsDay n d → IsDay (n + 1) (next_date d)
day_after n d below is =
    let long = days_in_month (pos d.year) d.month in
    let day_in : d.day ≤ long = rw (is.year, is.month, is.day) at is.date.day_in.1 in
    let month_in : d.month ≤ 12 = rw is.month at is.date.month_in.1 in
    elim (cases_order d.day long) [
      | inr (inl room) ↦
          (let short = lt-ltb d.day long room in
          rw short (next_day n d.year d.month d.day is room))
      | inl last ↦
          (let full = le-ltb d.day long (omega arith) in
          elim (cases_order d.month 12) [
            | inr (inl early) ↦
                (let more = lt-ltb d.month 12 early in
                rw (full, more) (next_month n d.year d.month d.day is last early))
            | inl december ↦
                (let none = le-ltb d.month 12 (omega arith) in
                rw (full, none) (next_year n d.year d.month d.day below is last december))
            | inr (inr gt) ↦ absurd (omega arith)
          ])
      | inr (inr gt) ↦ absurd (omega arith)
    ]

nth_day : (n : ℕ) → n ≤ 2932896 → IsDay n (date_after n)
unfolding date_after
nth_day zero h = first_is
nth_day (suc n) h = rw (← add-one n) (day_after n (date_after n) (omega arith) (nth_day n (omega arith)))

-- ---- the text

-- the parts of a time of day
record IsClock (s : ℕ) (t : Time) : Type 0 where
  hour : t.hour ≡ s / 3600
  minute : t.minute ≡ s / 60 % 60
  second : t.second ≡ s % 60
  fraction : t.subsec_nanosecond ≡ 0

clock_is : (s : ℕ) (t : Time) → time_nanos t ≡ s * 1000000000 → s < 86400 → IsClock s t
clock_is s t e below =
    record { hour = omega arith; minute = omega arith; second = omega arith; fraction = omega arith }

text_is : (s : ℕ) (d : CivilDate) (time : DateTime) → time.date.year ≡ pos d.year → time.date.month ≡ d.month
    → time.date.day ≡ d.day → IsClock s time.time
    → iso_datetime_text time ++ codes "Z" ≡ date_text d ++ codes "T" ++ clock_text s ++ codes "Z"
text_is s d time year month day clock =
    rw (year, month, day, clock.hour, clock.minute, clock.second, clock.fraction) refl

parts_are : (moment : ℕ) (time : DateTime) → IsCivilTimeOf moment time
    → (epoch_day time.date ≡ pos (moment / 86400)) × (time_nanos time.time ≡ moment % 86400 * 1000000000)
parts_are moment time h = omega (arith, signed_arith, civil_nanos-parts time, time_nanos_bound time.time)

-- the kit's text of a moment before the year 10000 is the moment's
pub civil_is : (moment : ℕ) (time : DateTime) → moment < 253402300800 → IsCivilTimeOf moment time
    → iso_datetime_text time ++ codes "Z" ≡ time_of moment
unfolding time_of
civil_is moment time below h =
    let parts = parts_are moment time h in
    let day = nth_day (moment / 86400) (omega arith) in
    let same = epoch_day_injective time.date day.date (parts.0 ∙ sym day.number) in
    let clock = clock_is (moment % 86400) time.time parts.1 (omega arith) in
    text_is (moment % 86400) (date_after (moment / 86400)) time (same.0 ∙ day.year) (same.1 ∙ day.month)
    (same.2 ∙ day.day) clock
