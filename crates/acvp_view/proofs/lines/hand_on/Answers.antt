use Rattle.acvp_view.proofs.LineLemmas.{handed_one}
use Rattle.acvp_view.proofs.lines.hand_on.Goals as goal

pub returns-in-Some : goal.returns-in-Some
returns-in-Some g c =
    rw (c.in-Some.is) (handed_one g.L.Lines.takes c.take.result _ c.args.lines.now c.take.new.self
    (rw (c.as_str.ensures.value) at c.take.ensures))
