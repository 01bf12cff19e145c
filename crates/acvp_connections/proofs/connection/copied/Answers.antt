use Rattle.std.proofs.Common.{IfErr, IfNone, Result, Ok, Err}
use Rattle.std.specs.Result.{result_ok}
use Rattle.sqlite.specs.Files.{IsClosed}
use Rattle.acvp_connections.proofs.connection.copied.Goals as goal

-- where there is no value, the error leaves what is told of it
left_of : {A E L : Type 0} (P : L → Type 0) (Q : E × L → Type 0) (r : Result A (E × L))
    → IfErr r (λ e. P e.1 × Q e) → IfNone (result_ok r) ((last : L) × P last)
left_of P Q (Ok value) told = tt
left_of P Q (Err e) told = (e.1, told.0)

pub returns-clause-kept : goal.returns-clause-kept
returns-clause-kept g c =
    rw c.files_of.ensures (left_of (IsClosed c.args.connection) _ c.close_files.result c.close_files.ensures.err)
