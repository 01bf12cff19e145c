use Rattle.acvp_keys.proofs.KeysLemmas.{seed_read}
use Rattle.acvp_keys.proofs.reading.read_seed_line.Goals as goal

pub returns : goal.returns
returns c =
    seed_read c.args.text.now c.in_ok-digits.digits.now c.read_line.result c.in_ok-digits.ensures c.read_line.ensures
