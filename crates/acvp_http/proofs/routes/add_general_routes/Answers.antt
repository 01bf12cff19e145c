use Rattle.acvp_http.specs.Private.Rows.{general_routes}
use Rattle.acvp_http.proofs.RowLemmas.{inserts-added}
use Rattle.acvp_http.proofs.routes.add_general_routes.Goals as goal

pub returns : goal.returns
unfolding general_routes
returns c =
    let e1 = inserts-added _ _ _ _ _ c.in_ok-insert.ensures in
    let e2 = inserts-added _ _ _ _ _ c.in_ok-insert-2.ensures in
    let e3 = inserts-added _ _ _ _ _ c.in_ok-insert-3.ensures in
    let e4 = inserts-added _ _ _ _ _ c.in_ok-insert-4.ensures in
    cc
