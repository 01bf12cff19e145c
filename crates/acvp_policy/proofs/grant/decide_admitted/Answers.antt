-- What the conditions on the resource refuse, the whole policy refuses by the same rule.
use Rattle.std.proofs.Common.{refl, sym}
use Rattle.std.proofs.lemmas.Result.{err_from_is_err_and}
use Rattle.acvp_policy.specs.Scope.{scope_of}
use Rattle.acvp_policy.specs.Policy.{policy, claims_conditions, resource_conditions}
use Rattle.acvp_policy.specs.Decision.{decision, granted}
use Rattle.acvp_policy.proofs.Refusals.{refused-behind, let-through}
use Rattle.acvp_policy.proofs.grant.decide_admitted.Goals as goal

pub returns-in_err-resource_allows : goal.returns-in_err-resource_allows
unfolding decision policy
returns-in_err-resource_allows c =
    let p = err_from_is_err_and c.from_residual.result c.from_residual.ensures.1 in
    let nothing : Unit {0} = tt in
    let claims = claims_conditions (scope_of c.args.action) c.args.facts.now in
    let resource = resource_conditions c.args.action c.args.facts.now in
    let refused = refused-behind claims resource nothing (granted c.args.action c.args.facts.now) _
    c.requires
    (rw (← c.resource_allows.ensures) c.in_err-resource_allows.was) in
    rw (p.1, p.2) (record { decision = sym refused; grant = tt })

pub returns-clause-decision : goal.returns-clause-decision
unfolding decision policy granted
returns-clause-decision c =
    let nothing : Unit {0} = tt in
    let claims = claims_conditions (scope_of c.args.action) c.args.facts.now in
    let resource = resource_conditions c.args.action c.args.facts.now in
    let decided = let-through claims resource nothing (granted c.args.action c.args.facts.now)
    c.requires
    (rw (← c.resource_allows.ensures) c.in_ok-resource_allows.was) in
    rw (c.acting_account.ensures, c.resource.ensures) (sym decided)

pub returns-clause-grant : goal.returns-clause-grant
unfolding granted
returns-clause-grant c = rw (c.acting_account.ensures, c.resource.ensures) refl
