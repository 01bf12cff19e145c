use Rattle.acvp_http.proofs.Denied.{denial_served}
use Rattle.acvp_http.proofs.promise.denials_are_alike.Goals as goal

pub returns-clause-alike : goal.returns-clause-alike
returns-clause-alike g = λ keys moment bytes reply one other same denied. (
  denied.0,
  denied.1,
  denied.2,
  denied.3,
  g.callers_are_denied_alike.ensures keys moment denied.0 denied.1 one other same denied.4,
  denied.5,
  denied.6,
)

pub returns-clause-served : goal.returns-clause-served
returns-clause-served g = denial_served
