-- The token has grown by its parts and the dots between them.
use Rattle.std.proofs.Common.{refl}
use Rattle.acvp_token.specs.TokenText.{encoded}
use Rattle.acvp_token.proofs.issuing.write_token.Goals as goal

pub returns-clause-text : goal.returns-clause-text
unfolding encoded
returns-clause-text c =
    rw (
      c.in_ok-encode_string-3.ensures.ok,
      c.in_ok-push_str-2.ensures.bytes,
      c.as_slice.ensures.value,
      c.hmac-signature.ensures.value,
      c.as_bytes.ensures.value,
      c.in_ok-encode_string-2.ensures.ok,
      c.in_ok-push_str.ensures.bytes,
      c.in_ok-encode_string.ensures.ok,
      c.new-token.ensures.bytes,
    ) refl
