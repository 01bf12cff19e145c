use Rattle.std.proofs.Common.{◌≡◌, ◌-◌, ◌++◌, map, string_bytes}
use Rattle.hex.specs.Hex.{encode_lower}
use Rattle.acvp_mac.specs.Hash.{digest_of}
use Rattle.acvp_answers.specs.MonteCarlo.{checkpoints}
use Rattle.acvp_answers.specs.Standards.{checkpoint_texts}
use Rattle.acvp_answers.specs.Private.Ending.{before_or}
use Rattle.acvp_answers.proofs.texts.checkpoint_texts.Given as goal

abbrev pub invariant-loop : goal.invariant-loop
invariant-loop l =
    map string_bytes l.texts.items
    ++ map encode_lower (checkpoints (digest_of l.name) (before_or l.seed l.last) (l.count - l.counter))
    ≡ checkpoint_texts l.name l.seed l.count
