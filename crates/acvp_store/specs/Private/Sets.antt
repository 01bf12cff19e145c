-- A vector set without its capability, as its columns keep it.
use Rattle.std.specs.Prelude.{◌≡◌, ℕ, ◌+◌, ◌*◌, Bool, ◌&&◌, true, false, is_none, is_some, slice_get, List, [], ◌∷◌}
use Rattle.std.specs.Prelude.{◌++◌, Option, Some, None, ⊤}
use Rattle.sqlite.specs.Values.{or_null}
use Rattle.sqlite_sql.specs.Ops.{is_null}
use Rattle.sqlite_value.specs.declared.value.Value.TheVariants.{Text}
use Rattle.sqlite_value.specs.Order.{Row, column}
use Rattle.sqlite.specs.Effect.{Database}
use Rattle.acvp_caps.specs.Capability.{CapabilityValue}
use Rattle.acvp_answers.specs.VerdictText.{verdicts_text}
use Rattle.acvp_answers.specs.Verdicts.{disposition_of}
use Rattle.acvp_answers.specs.declared.verdict.Disposition.{Disposition}
use Rattle.acvp_answers.specs.declared.verdict.Verdict.{Verdict}
use Rattle.acvp_json.specs.KeptAnswers.{kept_answers}
use Rattle.acvp_tables.specs.declared.rows.SetRow.{SetRow}
use Rattle.acvp_tables.specs.declared.summary.SetSummary.{SetSummary}
use Rattle.acvp_store.specs.Values.{whole, flag}
use Rattle.acvp_store.specs.Schema.{Layout}
use Rattle.acvp_store.specs.Alters.{Alters}
use Rattle.acvp_store.specs.Private.Shown.{is_at_least, is_at_most, is_other}
use Rattle.acvp_store.specs.Stands.{SetColumns, disposition_number, set_tree, HoldsSets}

-- What is read of many vector sets: all but their capabilities, and of their answers whether there are any.
pub record ShortColumns : Type 0 where
  pub number : ℕ
  pub session : ℕ
  pub cancelled : Bool
  pub unanswered : Bool
  pub verdicts : Option (List ℕ)
  pub disposition : Option ℕ
  pub epoch : ℕ

abbrev pub short_shown : ShortColumns → Row
short_shown s = whole s.number ∷ whole s.session ∷ flag s.cancelled ∷ flag s.unanswered ∷ or_null Text s.verdicts
    ∷ or_null whole s.disposition ∷ whole s.epoch ∷ []

abbrev pub short_of : SetColumns → ShortColumns
short_of c = record {
  number = c.number;
  session = c.session;
  cancelled = c.cancelled;
  unanswered = is_none c.answers;
  verdicts = c.verdicts;
  disposition = c.disposition;
  epoch = c.epoch;
}

-- verdicts' letters give the disposition, which is kept as the number
abbrev pub IsGiven : List ℕ → ℕ → Disposition → Type 0
IsGiven text number d = (verdicts : List Verdict) × (text ≡ verdicts_text verdicts) × (d ≡ disposition_of verdicts)
    × (disposition_number d ≡ Some number)

-- The columns that are no more than there are together: answers, the letters of verdicts, and the number of the
-- disposition that these verdicts give; or none of them.
abbrev pub IsDispositionOf : ShortColumns → Option Disposition → Type 0
IsDispositionOf c None = (c.unanswered ≡ true) × (c.verdicts ≡ None) × (c.disposition ≡ None)
IsDispositionOf c (Some d) = (c.unanswered ≡ false) × (verdicts : List Verdict)
    × (c.verdicts ≡ Some (verdicts_text verdicts)) × (d ≡ disposition_of verdicts)
    × (c.disposition ≡ disposition_number d)

pub record IsSummary (c : ShortColumns) (s : SetSummary) : Type 0 where
  pub number : s.number ≡ c.number
  pub session : s.session ≡ c.session
  pub epoch : s.epoch ≡ c.epoch
  pub cancelled : s.cancelled ≡ c.cancelled
  pub disposition : IsDispositionOf c s.disposition

-- the columns are those of a set
abbrev pub IsJudged : ShortColumns → Type 0
IsJudged c = (d : Option Disposition) × IsDispositionOf c d

-- the columns of one of them are those of no set
pub record HasUnjudged (sets : List ShortColumns) : Type 0 where
  pub place : ℕ
  pub columns : ShortColumns
  pub there : slice_get sets place ≡ Some columns
  pub of_none : ¬ IsJudged columns

-- the columns that are read of a row
abbrev pub short_columns : Row → Row
short_columns row = column row 0 ∷ column row 2 ∷ column row 4 ∷ flag (is_null (column row 5)) ∷ column row 6
    ∷ column row 7 ∷ column row 8 ∷ []

-- the row has one of the numbers of a session's sets, and isn't cancelled
abbrev pub is_live_row : ℕ → Row → Bool
is_live_row session row = is_at_least (session * 100) (column row 0)
    && (is_at_most (session * 100 + 99) (column row 0) && is_other 1 (column row 4))

-- ---- the vector set of a number, with the text of its answers

pub record ReadColumns : Type 0 where
  pub number : ℕ
  pub session : ℕ
  pub cancelled : Bool
  pub answers : Option (List ℕ)
  pub verdicts : Option (List ℕ)
  pub disposition : Option ℕ
  pub epoch : ℕ

abbrev pub read_shown : ReadColumns → Row
read_shown c = whole c.number ∷ whole c.session ∷ flag c.cancelled ∷ or_null Text c.answers ∷ or_null Text c.verdicts
    ∷ or_null whole c.disposition ∷ whole c.epoch ∷ []

abbrev pub read_of : SetColumns → ReadColumns
read_of c = record {
  number = c.number;
  session = c.session;
  cancelled = c.cancelled;
  answers = c.answers;
  verdicts = c.verdicts;
  disposition = c.disposition;
  epoch = c.epoch;
}

-- the columns that are read of a row
abbrev pub read_columns : Row → Row
read_columns row = column row 0 ∷ column row 2 ∷ column row 4 ∷ column row 5 ∷ column row 6 ∷ column row 7
    ∷ column row 8 ∷ []

abbrev pub without_text : ReadColumns → ShortColumns
without_text c = record {
  number = c.number;
  session = c.session;
  cancelled = c.cancelled;
  unanswered = is_none c.answers;
  verdicts = c.verdicts;
  disposition = c.disposition;
  epoch = c.epoch;
}

-- whether a text keeps answers, where there is one
abbrev pub keeps_answers : Option (List ℕ) → Bool
keeps_answers None = true
keeps_answers (Some text) = is_some (kept_answers text)

abbrev pub KeepsAnswers : Option (List ℕ) → Type 0
KeepsAnswers answers = keeps_answers answers ≡ true

-- the columns are those of a set, and the text of its answers keeps some
abbrev pub IsJudgedWhole : ReadColumns → Type 0
IsJudgedWhole c = KeepsAnswers c.answers × IsJudged (without_text c)

abbrev pub IsSummaryOf : Option ReadColumns → Option SetSummary → Type 0
IsSummaryOf None None = ⊤
IsSummaryOf None (Some s) = ⊥
IsSummaryOf (Some c) None = ⊥
IsSummaryOf (Some c) (Some s) = KeepsAnswers c.answers × IsSummary (without_text c) s

-- an epoch alone in its row, or NULL
abbrev pub epoch_shown : Option ℕ → Row
epoch_shown epoch = or_null whole epoch ∷ []

-- ---- new sets

-- a set without answers
abbrev pub new_set : ℕ → ℕ → CapabilityValue → ℕ → SetRow
new_set number session capability epoch = record {
  number = number;
  session = session;
  capability = capability;
  epoch = epoch;
  cancelled = false;
  graded = None;
}

abbrev pub AddsSets : Layout → List SetRow → Database → Database → Type 0
AddsSets layout news = Alters layout (set_tree layout) HoldsSets (λ rows. rows ++ news)
