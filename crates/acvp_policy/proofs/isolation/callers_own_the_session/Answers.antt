-- A caller that isn't refused meets all conditions on callers.
use Rattle.acvp_policy.specs.Policy.{claims_conditions}
use Rattle.acvp_policy.specs.Scope.{scope_of}
use Rattle.acvp_policy.proofs.GrantLemmas.{none_broken, owner_is}
use Rattle.acvp_policy.proofs.isolation.callers_own_the_session.Goals as goal

pub returns : goal.returns
returns c = λ action facts session held kind of_session.
    owner_is action facts (none_broken (claims_conditions (scope_of action) facts) held) kind session of_session
