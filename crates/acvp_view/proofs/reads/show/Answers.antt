use Rattle.std.proofs.Common.{◌∷◌, [], ◌∙◌, ap, string_bytes, subst}
use Rattle.acvp_view.specs.Decision.{read_text}
use Rattle.acvp_view.specs.Escaped.{TakesShown}
use Rattle.acvp_view.proofs.DecisionLemmas.{told_body}
use Rattle.acvp_view.proofs.LineLemmas.{ok_then}
use Rattle.acvp_view.proofs.reads.show.Goals as goal

pub returns-clause-read : goal.returns-clause-read
returns-clause-read g c = λ clean.
    ok_then c.show_text.result c.show_text.ensures.taken (λ taken. λ content kept h.
    let form = c.args.reader.now.form in
    let path = c.args.path.now in
    let (is, holds) = told_body g.T.Tables.meaning c.handle-outcome.result.reply c.handle-outcome.result.changed
    c.args.desk.now.tables c.handle-outcome.new.self.tables c.args.desk.now.keys c.args.reader.now.moment
    c.args.token.now c.args.wish (string_bytes c.in_ok-body.body) c.requires
    (rw c.as_bytes.ensures.value at c.handle-outcome.ensures.served) c.in_ok-body.ensures clean content kept h in (
      subst (λ text. TakesShown form g.L.Lines.takes (text ∷ []) c.args.lines.now c.show_text.new.lines)
          (c.as_str-2.ensures.value ∙ c.in_ok-text.ensures ∙ ap (read_text form path) (c.as_str.ensures.value ∙ is))
          taken,
      holds,
    ))
