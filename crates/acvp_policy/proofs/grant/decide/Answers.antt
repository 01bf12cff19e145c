-- What either list of conditions refuses, the whole policy refuses by the same rule.
use Rattle.std.proofs.Common.{sym}
use Rattle.std.proofs.lemmas.Result.{err_from_is_err_and}
use Rattle.acvp_policy.specs.Scope.{scope_of}
use Rattle.acvp_policy.specs.Policy.{policy, claims_conditions, resource_conditions}
use Rattle.acvp_policy.specs.Decision.{decision, granted}
use Rattle.acvp_policy.proofs.Refusals.{refused-front}
use Rattle.acvp_policy.proofs.grant.decide.Goals as goal

pub returns-in_err-claims_allow : goal.returns-in_err-claims_allow
unfolding decision policy
returns-in_err-claims_allow c =
    let p = err_from_is_err_and c.from_residual.result c.from_residual.ensures.1 in
    let nothing : Unit {0} = tt in
    let claims = claims_conditions (scope_of c.args.action) c.args.facts.now in
    let resource = resource_conditions c.args.action c.args.facts.now in
    let refused = refused-front claims resource nothing (granted c.args.action c.args.facts.now) _
    (rw (← c.scope.ensures, ← c.claims_allow.ensures) c.in_err-claims_allow.was) in
    rw (p.1, p.2) (record { decision = sym refused; grant = tt })
