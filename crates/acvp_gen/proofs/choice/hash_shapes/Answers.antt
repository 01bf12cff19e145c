use Rattle.std.proofs.Common.{rules, ap, length, arith}
use Rattle.acvp_gen.proofs.ChoiceLemmas.{small_hash_shapes}
use Rattle.acvp_gen.proofs.choice.hash_shapes.Goals as goal

pub returns-clause-value : goal.returns-clause-value
returns-clause-value c = search rules

pub returns-clause-small : goal.returns-clause-small
returns-clause-small c =
    rw (returns-clause-value c)
    (small_hash_shapes c.args.words.now.seed c.args.words.now.vs c.args.algorithm c.args.members.now
    c.requires.lengths
    (omega (arith, c.in_ok-lengths.ensures.few, ap length c.in_ok-lengths.ensures.value))
    (omega (arith, c.digest_bits-digest_bits.ensures.most, c.digest_bits-digest_bits.ensures.value)))
