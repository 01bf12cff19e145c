use Rattle.std.proofs.Common.{◌≡◌, ◌∙◌, arith}
use Rattle.std.proofs.lemmas.Grind.{common_steps}
use Rattle.acvp_gen.specs.Private.Filling.{groups_from}
use Rattle.acvp_gen.proofs.GroupLemmas.{same_groups}
use Rattle.acvp_gen.proofs.filling.groups_from.Goals as goal

pub returns : goal.returns
returns c =
    let value : c.loop-shape.groups.items
    ≡ groups_from c.args.words.now.seed c.args.words.now.vs 1 1 c.args.words.now.place c.args.shapes.now =
    grind (arith, common_steps) in
    value ∙ same_groups c.args.words.now.seed c.args.words.now.vs c.args.words.now.place c.args.shapes.now
