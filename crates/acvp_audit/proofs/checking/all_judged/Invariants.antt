use Rattle.std.proofs.Common.{◌<◌, ◌*◌, ◌^◌, Ok, IsTrue}
use Rattle.sqlite.specs.Held.{state}
use Rattle.acvp_store.specs.Connection.{InStore}
use Rattle.acvp_audit.specs.Checked.{IsReading}
use Rattle.acvp_audit.specs.Read.{AreInTrees}
use Rattle.acvp_audit.specs.Private.Looks.{AreFineTo}
use Rattle.acvp_audit.specs.declared.damage.AuditFault.{AuditFault}
use Rattle.acvp_audit.specs.declared.damage.Totals.{Totals}
use Rattle.acvp_audit.proofs.checking.all_judged.Given as goal

abbrev pub invariant-loop-before : goal.invariant-loop-before
invariant-loop-before g l =
    IsReading {X = Totals} {E = AuditFault} (Ok l.totals) (state g.S.Store l.fn.tables) (state g.S.Store l.tables)
    × (IsTrue (state g.S.Store l.tables).is_open → InStore (state g.S.Store l.fn.tables).now
    (λ layout. AreInTrees layout (state g.S.Store l.fn.tables).now.trees
    → AreFineTo l.grades l.seeds layout (state g.S.Store l.fn.tables).now.trees l.before l.totals))
    × (l.totals.accounts < l.before * 2 ^ 64) × (l.totals.sessions < l.before * 2 ^ 64)
    × (l.totals.sets < l.before * 2 ^ 64) × (l.totals.requests < l.before * 2 ^ 64)
