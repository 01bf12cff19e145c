use Rattle.std.proofs.Common.{refl}
use Rattle.acvp_mac.specs.Hmac.{hmac_of}
use Rattle.acvp_mac.proofs.keyed_hash.hmac_under.Goals as goal

pub returns-clause-value : goal.returns-clause-value
unfolding hmac_of
returns-clause-value g c = rw (
  c.padded_hash.ensures.value,
  c.as_slice.ensures.value,
  c.padded_hash-inner.ensures.value,
  c.key_block-block.ensures,
  g.met.H.HashFunction.block_size,
) refl
