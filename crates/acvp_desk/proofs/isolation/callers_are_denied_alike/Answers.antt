use Rattle.acvp_desk.proofs.DeniedAlike.{denied_alike}
use Rattle.acvp_desk.proofs.isolation.callers_are_denied_alike.Goals as goal

pub returns : goal.returns
returns g = λ keys moment r broken one other same denied.
    denied_alike g.caller_rules_agree.ensures.conditions keys moment r broken one other same denied
