-- What is read is what the definitions allow, and that is one value.
use Rattle.std.proofs.Common.{Err, rules}
use Rattle.acvp_token.specs.Keys.{named_key}
use Rattle.acvp_token.specs.Faults.{IsReadingUnder}
use Rattle.acvp_token.specs.declared.TokenFault.TheVariants.{Malformed}
use Rattle.acvp_token.proofs.Agreement.{reading_under-agrees}
use Rattle.acvp_token.proofs.Shapes.{malformed-unnamed, reading-of_signed}
use Rattle.acvp_token.proofs.verifying.verify_ring_for_renewal.Goals as goal

pub returns-in_err-token-clause-value : goal.returns-in_err-token-clause-value
returns-in_err-token-clause-value c =
    let reading : IsReadingUnder c.args.ring.now c.args.text.now c.from_residual.result = search rules in
    reading_under-agrees c.args.ring.now c.args.text.now c.from_residual.result reading

pub returns-in_default-clause-reading : goal.returns-in_default-clause-reading
returns-in_default-clause-reading c =
    malformed-unnamed (named_key c.args.ring.now) c.args.text.now _ _ _ _ c.in_ok-token.ensures.ok
    c.in_default.ensures

pub returns-in_default-clause-value : goal.returns-in_default-clause-value
returns-in_default-clause-value c =
    reading_under-agrees c.args.ring.now c.args.text.now (Err Malformed) (returns-in_default-clause-reading c)

pub returns-clause-reading : goal.returns-clause-reading
returns-clause-reading c =
    reading-of_signed (named_key c.args.ring.now) c.in-Some.key.now c.args.text.now _ _ _ _ c.read_signed.result
    c.in_ok-token.ensures.ok c.in-Some.ensures c.read_signed.ensures

pub returns-clause-value : goal.returns-clause-value
returns-clause-value c =
    reading_under-agrees c.args.ring.now c.args.text.now c.read_signed.result (returns-clause-reading c)
