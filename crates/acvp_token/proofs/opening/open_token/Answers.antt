-- Each part that does not decode, and each header that is refused, leaves no token that the text is.
use Rattle.std.proofs.lemmas.Result.{err_from_is_err_and}
use Rattle.acvp_token.proofs.Shapes.{malformed-for, formless-header, formless-claims, formless-signature}
use Rattle.acvp_token.proofs.Shapes.{formless-text}
use Rattle.acvp_token.proofs.opening.open_token.Goals as goal

pub returns-in_err-header-clause-err : goal.returns-in_err-header-clause-err
returns-in_err-header-clause-err c =
    let p = err_from_is_err_and c.from_residual.result c.from_residual.ensures.1 in
    let split = c.in-Some.ensures.0 in
    rw (p.1, p.2) (malformed-for _ _ (formless-header _ _ _ _ split) _ c.in_err-header.ensures.err)

pub returns-in_err-claims-clause-err : goal.returns-in_err-claims-clause-err
returns-in_err-claims-clause-err c =
    let p = err_from_is_err_and c.from_residual-in_err-claims.result c.from_residual-in_err-claims.ensures.1 in
    let split = c.in-Some.ensures.0 in
    rw (p.1, p.2) (malformed-for _ _ (formless-claims _ _ _ _ split) _ c.in_err-claims.ensures.err)

pub returns-in_err-signature-clause-err : goal.returns-in_err-signature-clause-err
returns-in_err-signature-clause-err c =
    let p = err_from_is_err_and c.from_residual-in_err-signature.result c.from_residual-in_err-signature.ensures.1 in
    let split = c.in-Some.ensures.0 in
    rw (p.1, p.2) (malformed-for _ _ (formless-signature _ _ _ _ split) _ c.in_err-signature.ensures.err)

pub returns-in_err-header-2-clause-err : goal.returns-in_err-header-2-clause-err
returns-in_err-header-2-clause-err c =
    let p =
    err_from_is_err_and c.from_residual-in_err-header-2.result c.from_residual-in_err-header-2.ensures.1 in
    let split = c.in-Some.ensures.0 in
    let header = c.in_ok-header.ensures in
    let refused = rw c.deref.ensures.value at c.in_err-header-2.ensures.err in
    rw (p.1, p.2) (malformed-for _ _ (formless-text _ _ _ _ _ split header.value header.bytes) _ refused)
