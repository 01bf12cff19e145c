use Rattle.std.proofs.Common.{◌≤◌, ◌<◌, length, sym, ◌∙◌, arith}
use Rattle.acvp_mac.specs.Hash.{digest_of}
use Rattle.acvp_mac.proofs.HmacLemmas.{take-zero_filled, block_key-long, block_key-short}
use Rattle.acvp_mac.proofs.keyed_hash.key_block.Goals as goal

pub returns-then-key-BLOCK : goal.returns-then-key-BLOCK
returns-then-key-BLOCK g c =
    let H = g.H.HashFunction in
    let law = g.met.H.HashFunction in
    let key = c.args.key.now in
    let digest = digest_of H.name key in
    let long : H.BLOCK < length key = omega (arith, c.BLOCK.ensures) in
    let fits : length digest ≤ H.BLOCK = omega (arith, law.digest_size key, law.digest_fits) in
    rw (c.zero_filled.ensures, c.as_slice.ensures.value, c.hash_under.ensures.value)
    (take-zero_filled H.BLOCK 128 digest fits law.block_fits
    ∙ sym (block_key-long H.name key H.BLOCK law.block_size long))

pub returns-else-key-BLOCK : goal.returns-else-key-BLOCK
returns-else-key-BLOCK g c =
    let H = g.H.HashFunction in
    let law = g.met.H.HashFunction in
    let key = c.args.key.now in
    let fits : length key ≤ H.BLOCK = omega (arith, c.BLOCK.ensures) in
    rw (c.zero_filled-else-key-BLOCK.ensures)
    (take-zero_filled H.BLOCK 128 key fits law.block_fits
    ∙ sym (block_key-short H.name key H.BLOCK law.block_size fits))
