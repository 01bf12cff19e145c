-- What is verified is what the definitions allow, and that is one value.
use Rattle.std.proofs.Common.{rules}
use Rattle.acvp_token.specs.Keys.{named_key}
use Rattle.acvp_token.specs.Faults.{IsVerdictUnder}
use Rattle.acvp_token.proofs.Agreement.{verdict_under-agrees, verdict-lasting}
use Rattle.acvp_token.proofs.verifying.verify_ring.Goals as goal

pub returns-in_err-claims-clause-value : goal.returns-in_err-claims-clause-value
returns-in_err-claims-clause-value c =
    let verdict : IsVerdictUnder c.args.ring.now c.args.text.now c.args.moment c.from_residual.result = search rules in
    verdict_under-agrees c.args.ring.now c.args.text.now c.args.moment c.from_residual.result verdict

pub returns-clause-verdict : goal.returns-clause-verdict
returns-clause-verdict c =
    verdict-lasting (named_key c.args.ring.now) c.args.text.now c.args.moment c.in_ok-claims.claims c.lasting_at.result
    c.in_ok-claims.ensures.reading c.lasting_at.ensures

pub returns-clause-value : goal.returns-clause-value
returns-clause-value c =
    verdict_under-agrees c.args.ring.now c.args.text.now c.args.moment c.lasting_at.result (returns-clause-verdict c)
