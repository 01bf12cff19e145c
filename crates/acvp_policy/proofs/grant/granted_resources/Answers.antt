use Rattle.std.proofs.Common.{◌++◌}
use Rattle.acvp_policy.specs.Scope.{scope_of}
use Rattle.acvp_policy.specs.Policy.{policy, claims_conditions, resource_conditions}
use Rattle.acvp_policy.specs.Decision.{decision, granted}
use Rattle.acvp_policy.proofs.GrantLemmas.{all_hold, back_holds, front_holds, kind_is, owner_is}
use Rattle.acvp_policy.proofs.grant.granted_resources.Goals as goal

pub returns-clause-kind : goal.returns-clause-kind
unfolding decision policy granted
returns-clause-kind c = λ action facts grant h.
    let claims = claims_conditions (scope_of action) facts in
    let resource = resource_conditions action facts in
    let all = all_hold (claims ++ resource) (granted action facts) grant h in
    rw (← all.1) (kind_is action facts (back_holds claims resource all.0))

pub returns-clause-own : goal.returns-clause-own
unfolding decision policy granted
returns-clause-own c = λ action facts grant h session is.
    let claims = claims_conditions (scope_of action) facts in
    let resource = resource_conditions action facts in
    let all = all_hold (claims ++ resource) (granted action facts) grant h in
    let kind = kind_is action facts (back_holds claims resource all.0) in
    rw (← all.1) (owner_is action facts (front_holds claims resource all.0) kind session (rw (← all.1) at is))
