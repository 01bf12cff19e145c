use Rattle.std.proofs.Common.{◌≡◌, ap, length, arith}
use Rattle.std.proofs.lemmas.Grind.{common_steps}
use Rattle.acvp_gen.specs.Choice.{hmac_shapes}
use Rattle.acvp_gen.proofs.ChoiceLemmas.{small_hmac_shapes}
use Rattle.acvp_gen.proofs.choice.hmac_shapes.Goals as goal

pub returns-clause-small : goal.returns-clause-small
returns-clause-small c =
    let value : c.loop-key_bits.shapes.items
    ≡ hmac_shapes c.args.words.now.seed c.args.words.now.vs c.args.algorithm c.args.keys.now c.args.macs.now =
    grind (arith, common_steps) in
    rw value (small_hmac_shapes c.args.words.now.seed c.args.words.now.vs c.args.algorithm c.args.keys.now
    c.args.macs.now
    c.requires.keys
    (omega (arith, c.in_ok-key_lengths.ensures.few, ap length c.in_ok-key_lengths.ensures.value))
    (omega (arith, c.in_ok-macs.ensures.few, ap length c.in_ok-macs.ensures.value)))
