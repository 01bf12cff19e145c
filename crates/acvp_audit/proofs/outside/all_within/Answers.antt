use Rattle.std.proofs.Common.{◌≡◌, ℤ}
use Rattle.sqlite.specs.Held.{state}
use Rattle.acvp_audit.specs.Private.Looks.{IsBehind}
use Rattle.acvp_audit.specs.declared.damage.AuditFault.TheVariants.{Wrong}
use Rattle.acvp_audit.specs.declared.damage.Damage.TheVariants.{Outside}
use Rattle.acvp_audit.specs.declared.table.Table.{Table}
use Rattle.acvp_audit.specs.declared.table.Table.TheVariants as table
use Rattle.acvp_audit.proofs.First.{first_behind, later_behind}
use Rattle.acvp_audit.proofs.Reading.{blamed_more, earlier}
use Rattle.acvp_audit.proofs.outside.all_within.Goals as goal

pub returns-in-Err-clause-first : goal.returns-in-Err-clause-first
returns-in-Err-clause-first g c = λ live layout schema inside t number is.
    first_behind layout _ t (c.in-Err.ensures.before live layout schema inside t number is)

pub returns-in-Ok-clause-first : goal.returns-in-Ok-clause-first
returns-in-Ok-clause-first g c = λ live.
    let old = state g.S.Store c.args.tables.now in
    let mid = state g.S.Store c.are_within.new.tables in
    let live_mid = c.are_within-in-Ok.ensures.read.stays.was_open live in
    let now_mid = c.in-Ok.ensures.read.stays.now live_mid in
    blamed_more c.are_within-in-Ok.result _ _
    (λ fault told layout schema inside t number is.
    let within = c.in-Ok.ensures.within live_mid layout schema inside in
    later_behind layout old.now.trees within.0 within.1 within.2 t
    (earlier old mid (λ layout trees. (t : Table) (number : ℤ) → fault ≡ Wrong (Outside t number)
    → IsBehind table.Object table.Request table.Reviewer t layout trees) now_mid told layout schema inside t number
    is))
    (c.are_within-in-Ok.ensures.before live)
