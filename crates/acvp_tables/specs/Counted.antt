-- When a session's counters count its vector sets.
use Rattle.std.specs.Prelude.{◌≡◌, ℕ, List, length, filter, Bool, true, false, ◌==◌, ◌&&◌, if◌then◌else◌, Option, Some}
use Rattle.std.specs.Prelude.{None, ⊤}
use Rattle.std.specs.List.{list_all}
use Rattle.acvp_answers.specs.declared.verdict.Disposition.{Disposition}
use Rattle.acvp_answers.specs.declared.verdict.Disposition.TheVariants as disposition
use Rattle.acvp_tables.specs.Graded.{GradedValue}
use Rattle.acvp_tables.specs.Changes.{sets_after}
use Rattle.acvp_tables.specs.Content.{Content, is_live_in, live_sets, session_at, set_at}
use Rattle.acvp_tables.specs.declared.rows.SessionRow.{SessionRow}
use Rattle.acvp_tables.specs.declared.rows.SetRow.{SetRow}
use Rattle.acvp_tables.specs.declared.change.Change.{Change}
use Rattle.acvp_tables.specs.declared.change.Change.TheVariants as change

abbrev pub is_passed : Disposition → Bool
is_passed disposition.Passed = true
is_passed disposition.Fail = false
is_passed disposition.Missing = false
is_passed disposition.Expired = false
is_passed disposition.Unreceived = false

abbrev pub answers_passed : Option GradedValue → Bool
answers_passed None = false
answers_passed (Some graded) = is_passed graded.disposition

-- a session's set that isn't cancelled and has passed
abbrev pub is_passed_in : ℕ → SetRow → Bool
is_passed_in session row = is_live_in session row && answers_passed row.graded

-- how many of a session's sets aren't cancelled, and how many of those have passed
abbrev pub live_count : ℕ → List SetRow → ℕ
live_count session sets = length (live_sets session sets)

abbrev pub passed_count : ℕ → List SetRow → ℕ
passed_count session sets = length (filter (is_passed_in session) sets)

abbrev pub is_counted : List SetRow → SessionRow → Bool
is_counted sets row = (row.live == live_count row.number sets) && (row.passed == passed_count row.number sets)

-- each session's counters are right
abbrev pub IsCounted : Content → Type 0
IsCounted c = list_all (is_counted c.sets) c.sessions ≡ true

-- the counters that come with a change are those of the sets after it
abbrev pub IsNextCount : Content → Change → Type 0
IsNextCount c (change.KeepAnswers k) = k.passed ≡ passed_count k.session (sets_after (change.KeepAnswers k) c.sets)
IsNextCount c (change.CancelSet x) =
    (x.live ≡ live_count x.session (sets_after (change.CancelSet x) c.sets))
    × (x.passed ≡ passed_count x.session (sets_after (change.CancelSet x) c.sets))
IsNextCount c _ = ⊤

-- ---- one set's part of the counters

-- one or none
abbrev pub one_if : Bool → ℕ
one_if b = if b then 1 else 0

-- a session and a set of it that isn't cancelled are there
pub record AreThere (session set : ℕ) (c : Content) : Type 0 where
  pub row : SessionRow
  pub set_row : SetRow
  pub has_session : session_at session c.sessions ≡ Some row
  pub has_set : set_at set c.sets ≡ Some set_row
  pub live : is_live_in session set_row ≡ true
