-- What is read is what the definitions allow, and that is one value.
use Rattle.std.proofs.Common.{rules, refl}
use Rattle.acvp_token.specs.Keys.{one_key}
use Rattle.acvp_token.specs.Faults.{IsReading}
use Rattle.acvp_token.proofs.Agreement.{reading_of-agrees}
use Rattle.acvp_token.proofs.Shapes.{reading-of_signed}
use Rattle.acvp_token.proofs.verifying.verify_for_renewal.Goals as goal

pub returns-in_err-token-clause-value : goal.returns-in_err-token-clause-value
returns-in_err-token-clause-value c =
    let reading : IsReading c.args.key.now c.args.text.now c.from_residual.result = search rules in
    reading_of-agrees c.args.key.now c.args.text.now c.from_residual.result reading

pub returns-clause-reading : goal.returns-clause-reading
returns-clause-reading c =
    reading-of_signed (one_key c.args.key.now) c.args.key.now c.args.text.now _ _ _ _ c.read_signed.result
    c.in_ok-token.ensures.ok refl c.read_signed.ensures

pub returns-clause-value : goal.returns-clause-value
returns-clause-value c =
    reading_of-agrees c.args.key.now c.args.text.now c.read_signed.result (returns-clause-reading c)
