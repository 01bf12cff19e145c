use Rattle.std.proofs.Common.{◌≡◌, ◌∙◌, ℕ, Some, ap}
use Rattle.sqlite.specs.Held.{state}
use Rattle.acvp_audit.specs.Checked.{account_in, AreFineBefore}
use Rattle.acvp_audit.specs.Wrong.{IsDamaged}
use Rattle.acvp_audit.specs.Private.Looks.{AreFineTo}
use Rattle.acvp_audit.specs.declared.damage.AuditFault.TheVariants.{Wrong}
use Rattle.acvp_audit.specs.declared.damage.Damage.{Damage}
use Rattle.acvp_audit.proofs.First.{first_judged, first_outside}
use Rattle.acvp_audit.proofs.Reading.{blamed_more, earlier, told_more}
use Rattle.acvp_audit.proofs.Refuted.{damaged_in, outside_in, refuted_by}
use Rattle.acvp_audit.proofs.Whole.{is_whole}
use Rattle.acvp_audit.proofs.checking.examined.Goals as goal

pub returns-in-Err-clause-wrong : goal.returns-in-Err-clause-wrong
returns-in-Err-clause-wrong g c = λ live layout schema found is.
    refuted_by c.args.grades c.args.seeds.now layout _ found
    (λ inside. outside_in c.args.grades c.args.seeds.now layout _ found
    (c.in-Err.ensures.wrong live layout schema inside found is))

pub returns-in-Ok-clause-whole : goal.returns-in-Ok-clause-whole
returns-in-Ok-clause-whole g c = λ live.
    let grades = c.args.grades in
    let seeds = c.args.seeds.now in
    let old = state g.S.Store c.args.tables.now in
    let mid = state g.S.Store c.all_within.new.tables in
    let live_mid = c.all_judged.ensures.read.stays.was_open live in
    let now_mid = c.in-Ok.ensures.read.stays.now live_mid in
    told_more c.all_judged.result _ _
    (λ totals fine ours inside. is_whole grades seeds old.now ours inside
    (c.in-Ok.ensures.within live_mid ours.layout ours.schema inside) totals
    (earlier old mid (λ layout trees. AreFineTo grades seeds layout trees 9999 totals) now_mid fine ours.layout
    ours.schema inside)) (c.all_judged.ensures.fine live)

pub returns-in-Ok-clause-wrong : goal.returns-in-Ok-clause-wrong
returns-in-Ok-clause-wrong g c = λ live.
    let grades = c.args.grades in
    let seeds = c.args.seeds.now in
    let old = state g.S.Store c.args.tables.now in
    let mid = state g.S.Store c.all_within.new.tables in
    let live_mid = c.all_judged.ensures.read.stays.was_open live in
    let now_mid = c.in-Ok.ensures.read.stays.now live_mid in
    blamed_more c.all_judged.result _ _
    (λ fault told layout schema found is. refuted_by grades seeds layout old.now.trees found
    (λ inside. damaged_in grades seeds layout old.now.trees found
    (c.in-Ok.ensures.within live_mid layout schema inside)
    (earlier old mid (λ layout trees. (found : Damage) → fault ≡ Wrong found
    → IsDamaged grades seeds layout trees found) now_mid told layout schema inside found is)))
    (c.all_judged.ensures.wrong live)

pub returns-in-Err-clause-first : goal.returns-in-Err-clause-first
returns-in-Err-clause-first g c = λ live layout schema inside found is.
    first_outside layout _ c.args.grades c.args.seeds.now found
    (c.in-Err.ensures.wrong live layout schema inside found is)
    (λ t number same. c.in-Err.ensures.first live layout schema inside t number (is ∙ ap Wrong same))

pub returns-in-Ok-clause-first : goal.returns-in-Ok-clause-first
returns-in-Ok-clause-first g c = λ live.
    let grades = c.args.grades in
    let seeds = c.args.seeds.now in
    let old = state g.S.Store c.args.tables.now in
    let mid = state g.S.Store c.all_within.new.tables in
    let live_mid = c.all_judged.ensures.read.stays.was_open live in
    let now_mid = c.in-Ok.ensures.read.stays.now live_mid in
    blamed_more c.all_judged.result _ _
    (λ fault told layout schema inside found is. first_judged layout old.now.trees grades seeds found
    (c.in-Ok.ensures.within live_mid layout schema inside)
    (λ u whose. earlier old mid (λ layout trees. (u : ℕ) (found : Damage) → fault ≡ Wrong found
    → account_in found ≡ Some u → AreFineBefore grades seeds layout trees u) now_mid told layout schema inside u
    found is whose))
    (c.all_judged.ensures.first live)
