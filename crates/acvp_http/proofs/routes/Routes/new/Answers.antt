use Rattle.acvp_http.specs.Private.Rows.{rows}
use Rattle.acvp_http.proofs.routes.Routes.new.Goals as goal

pub invariant_of-result : goal.invariant_of-result
unfolding rows
invariant_of-result c = rw c.new-router.ensures at c.in-Ok.ensures
