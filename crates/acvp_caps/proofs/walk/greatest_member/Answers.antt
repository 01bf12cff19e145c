use Rattle.std.proofs.Common.{max, ◌∙◌, ap}
use Rattle.acvp_caps.proofs.MembersLemmas.{greatest-step}
use Rattle.acvp_caps.proofs.walk.greatest_member.Goals as goal

pub loop-item-preserved : goal.loop-item-preserved
loop-item-preserved c =
    let g = c.loop-item.greatest in
    greatest-step c.args.items.now c.loop-item.item-index _ g c.max-greatest.result c.loop-item-test.true c.requires
    c.loop-item.invariant
    (c.max-greatest.ensures ∙ ap (λ n. max g n) c.last.ensures)
