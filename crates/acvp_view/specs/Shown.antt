-- A request, and the object that it asks to register.
use Rattle.std.specs.Prelude.{◌≡◌, ℕ, List, [], ◌∷◌, ◌++◌, true, codes, Some}
use Rattle.acvp_registry.specs.Object.{object_text}
use Rattle.acvp_tables.specs.Content.{Content, request_at, request_summary}
use Rattle.acvp_tables.specs.declared.rows.RequestBody.{RequestBody}
use Rattle.acvp_tables.specs.declared.rows.RequestBody.TheVariants as body
use Rattle.acvp_tables.specs.declared.rows.RequestRow.{RequestRow}
use Rattle.acvp_tables.specs.declared.summary.RequestSummary.{RequestSummary}
use Rattle.acvp_view.specs.Escaped.{shown_in}
use Rattle.acvp_view.specs.Lines.{TakesAll, lines_of}
use Rattle.acvp_view.specs.Listed.{request_line}
use Rattle.acvp_view.specs.declared.form.Form.{Form}
use Rattle.acvp_view.specs.declared.form.Form.TheVariants.{Words, Json}

-- an object's text, or a JSON object that has it
abbrev pub registration_text : Form → List ℕ → List ℕ
registration_text Words text = text
registration_text Json text = codes "{\"object\":" ++ text ++ codes "}"

-- the object that a request asks to register, as it is shown, where it asks for that
abbrev pub registration_lines : Form → RequestBody → List (List ℕ)
registration_lines form (body.Registration object) = shown_in form (registration_text form (object_text object)) ∷ []
registration_lines form (body.Certification c) = []

-- The request of a number is there, and it was handed on, and then what it asks to register.
pub record IsAsked {L : Type 0} (takes : L → List ℕ → L → Type 0) (form : Form) (number : ℕ) (c : Content)
    (request : RequestSummary) (before after : L) : Type 0 where
  pub row : RequestRow
  pub there : request_at number c.requests ≡ Some row
  pub summary : request ≡ request_summary row
  pub taken : TakesAll takes (lines_of (request_line form true number c) ++ registration_lines form row.body)
      before after
