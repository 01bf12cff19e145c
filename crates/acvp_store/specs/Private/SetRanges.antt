-- All columns of a vector set, as a query shows them, and which set they are of.
use Rattle.std.specs.Prelude.{◌≡◌, ℕ, ℤ, pos, List, [], ◌∷◌, slice_get, Some, IsUtf8}
use Rattle.sqlite.specs.Values.{or_null}
use Rattle.sqlite_value.specs.declared.value.Value.TheVariants.{Text}
use Rattle.sqlite_value.specs.Order.{Row}
use Rattle.acvp_answers.specs.VerdictText.{verdicts_text}
use Rattle.acvp_answers.specs.Verdicts.{disposition_of}
use Rattle.acvp_json.specs.KeptAnswers.{kept_text, kept_answers}
use Rattle.acvp_answers.specs.Answer.{Answer}
use Rattle.acvp_tables.specs.Graded.{GradedValue}
use Rattle.acvp_tables.specs.declared.rows.SetRow.{SetRow}
use Rattle.acvp_store.specs.Values.{whole, flag}
use Rattle.acvp_store.specs.Stands.{SetColumns, disposition_number, IsSet}
use Rattle.acvp_store.specs.Private.Shown.{IsText}

abbrev pub whole_shown : SetColumns → Row
whole_shown c = whole c.number ∷ whole c.session ∷ Text c.capability ∷ flag c.cancelled ∷ or_null Text c.answers
    ∷ or_null Text c.verdicts ∷ or_null whole c.disposition ∷ whole c.epoch ∷ []

-- its texts are of UTF-8
abbrev pub AreTexts : SetColumns → Type 0
AreTexts c = IsUtf8 c.capability × IsText c.answers × IsText c.verdicts

-- the text is that of the answers, and reads as they
abbrev pub AreKeptBy : List ℕ → List Answer → Type 0
AreKeptBy text answers = (text ≡ kept_text answers) × (kept_answers (kept_text answers) ≡ Some answers)

-- the texts, and the number of a disposition, are those of graded answers
abbrev pub IsGradedBy : List ℕ → List ℕ → ℕ → GradedValue → Type 0
IsGradedBy answers verdicts number g = AreKeptBy answers g.answers × (verdicts ≡ verdicts_text g.verdicts)
    × (disposition_number g.disposition ≡ Some number) × (g.disposition ≡ disposition_of g.verdicts)

-- the columns with this number, at one of the places, are those of no set
pub record HasStraySet (number : ℤ) (sets : List SetColumns) : Type 0 where
  pub place : ℕ
  pub columns : SetColumns
  pub there : slice_get sets place ≡ Some columns
  pub is : pos columns.number ≡ number
  pub of_none : (row : SetRow) → ¬ IsSet columns row
