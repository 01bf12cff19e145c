-- The router's rows.
use Rattle.std.proofs.Common.{◌≡◌, Result, Ok, Err, inl, inr}
use Rattle.matchit.specs.Rows.{RowsOf}
use Rattle.matchit.specs.Route.{Scan}
use Rattle.matchit.specs.Router.{RouteOf, InsertsRead}
use Rattle.matchit.specs.declared.error.InsertError.{InsertError}
use Rattle.acvp_http.specs.declared.path.Path.{Path}
use Rattle.acvp_http.specs.Private.Rows.{added}

-- an insert that succeeds adds its route
pub inserts-added : (read : Result Scan InsertError) (value : Path) (old new : RowsOf (RouteOf Path)) (u : Unit {0})
    → InsertsRead read value old new (Ok u) → new ≡ added read value old
inserts-added (Ok s) value old new u is = is.1
inserts-added (Err e) value old new u is = elim is.1 [ inl e ↦ cc | inr e ↦ cc ]
