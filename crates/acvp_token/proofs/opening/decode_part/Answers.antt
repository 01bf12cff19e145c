use Rattle.std.proofs.Common.{refl}
use Rattle.base64.specs.Engines.{url_safe_no_pad}
use Rattle.acvp_token.specs.TokenText.{encoded}
use Rattle.acvp_token.proofs.Shapes.{decoded-or-failed}
use Rattle.acvp_token.proofs.opening.decode_part.Goals as goal

pub returns-in-Ok-clause-value : goal.returns-in-Ok-clause-value
unfolding encoded
returns-in-Ok-clause-value c = c.in-Ok.ensures.exact (refl, refl)

pub returns-in-Err-DecodeError-clause-err : goal.returns-in-Err-DecodeError-clause-err
unfolding encoded
returns-in-Err-DecodeError-clause-err c =
    λ bytes is_bytes e.
    let decodes = (c.decode.ensures.strict (refl, refl) bytes is_bytes).1 e in
    let failed = c.in-Err-DecodeError in
    decoded-or-failed url_safe_no_pad c.args.part.now bytes failed.field-0 failed.field-0-0 failed.field-0-is
    failed.ensures.err decodes
