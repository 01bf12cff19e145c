use Rattle.std.proofs.Common.{◌≡◌, map, string_bytes}
use Rattle.hex.specs.Hex.{encode_lower}
use Rattle.acvp_mac.specs.Hash.{digest_of}
use Rattle.acvp_answers.specs.Standards.{checkpoint_texts}
use Rattle.acvp_answers.specs.Private.Ending.{before_or}
use Rattle.acvp_answers.proofs.MonteCarloLemmas.{written_more, written_all}
use Rattle.acvp_answers.proofs.texts.checkpoint_texts.Goals as goal

pub loop-preserved : goal.loop-preserved
loop-preserved c =
    let text : string_bytes c.in_ok-text.text ≡ encode_lower c.checkpoint_after-checkpoint.result =
    rw c.as_slice.ensures.value at c.in_ok-text.ensures in
    rw c.in_ok-push.ensures.items
    (written_more (digest_of c.args.name) (before_or c.args.seed.now c.loop.last) c.args.count c.loop.counter
    c.loop.texts.items c.in_ok-text.text c.checkpoint_after-checkpoint.result
    (checkpoint_texts c.args.name c.args.seed.now c.args.count) c.loop-test.true c.loop.invariant
    c.checkpoint_after-checkpoint.ensures text)

pub returns : goal.returns
returns c =
    written_all (digest_of c.args.name) (before_or c.args.seed.now c.loop.last) c.args.count c.loop.counter
    (map string_bytes c.loop.texts.items)
    (checkpoint_texts c.args.name c.args.seed.now c.args.count) c.loop-test.false c.loop.invariant
