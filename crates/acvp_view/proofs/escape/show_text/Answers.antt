use Rattle.std.proofs.Common.{◌∙◌, subst}
use Rattle.acvp_view.proofs.EscapeLemmas.{shown_one}
use Rattle.acvp_view.proofs.LineLemmas.{handed_one}
use Rattle.acvp_view.proofs.escape.show_text.Goals as goal

pub returns-clause-handed : goal.returns-clause-handed
returns-clause-handed g c =
    handed_one g.L.Lines.takes c.take.result _ c.args.lines.now c.take.new.self
    (subst (λ line. g.L.Lines.takes c.args.lines.now line c.take.new.self)
    (c.as_str.ensures.value ∙ c.in_ok-line.ensures) c.take.ensures)

pub returns-clause-shown : goal.returns-clause-shown
returns-clause-shown g c =
    shown_one c.args.form g.L.Lines.takes c.args.text.now c.args.lines.now c.take.new.self
    (subst (λ line. g.L.Lines.takes c.args.lines.now line c.take.new.self)
    (c.as_str.ensures.value ∙ c.in_ok-line.ensures) c.take.ensures)
