use Rattle.std.proofs.Common.{◌∙◌, subst}
use Rattle.acvp_view.proofs.LineLemmas.{on_ok}
use Rattle.acvp_view.proofs.certified.show_certificate.Goals as goal

pub returns : goal.returns
returns g c = λ live. on_ok c.take.result _ (λ content well h. (
  c.in_ok-it.it,
  c.in_ok-it.ensures.said live content well h,
  subst (λ text. g.L.Lines.takes c.args.lines.now text c.take.new.self) (c.as_str.ensures.value ∙ c.in_ok-text.ensures)
      c.take.ensures,
))
