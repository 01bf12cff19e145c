use Rattle.std.proofs.Common.{◌≡◌, ◌+◌, Some, Ok, refl, sym, ap, ◌∙◌, arith}
use Rattle.sqlite.specs.Held.{state}
use Rattle.acvp_audit.specs.Checked.{plus}
use Rattle.acvp_audit.specs.declared.damage.Totals.{Totals}
use Rattle.acvp_audit.proofs.First.{fine_behind}
use Rattle.acvp_audit.proofs.Reading.{both_readings, earlier, is_reading}
use Rattle.acvp_audit.proofs.Whole.{HasFine, fine_first, fine_after}
use Rattle.acvp_audit.proofs.checking.all_judged.Goals as goal

pub loop-before-init : goal.loop-before-init
loop-before-init g c =
    let few = c.in_ok-totals.ensures.few in (
      is_reading (Ok c.in_ok-totals.totals) (Ok c.in_ok-totals.totals) _ _ (λ ok. refl) c.in_ok-totals.ensures.read,
      λ live layout schema inside. fine_first c.args.grades c.args.seeds.now layout _ c.in_ok-totals.totals
          (c.in_ok-totals.ensures.fine live layout schema inside),
      few.0,
      few.1,
      few.2,
      few.3,
    )

pub loop-before-preserved : goal.loop-before-preserved
loop-before-preserved g c =
    let before = c.loop-before.before in
    let totals = c.loop-before.totals in
    let more = c.in-Ok.more in
    let sum = c.plus-totals.result in
    let old = state g.S.Store c.args.tables.now in
    let mid = state g.S.Store c.loop-before.tables in
    let new = state g.S.Store c.judged-in-loop-before.new.tables in
    let held = c.loop-before.invariant in
    let few = c.in-Ok.ensures.few in
    let accounts : sum.accounts ≡ totals.accounts + more.accounts =
    ap (λ (t : Totals). t.accounts) {y = plus totals more} c.plus-totals.ensures in
    let sessions : sum.sessions ≡ totals.sessions + more.sessions =
    ap (λ (t : Totals). t.sessions) {y = plus totals more} c.plus-totals.ensures in
    let sets : sum.sets ≡ totals.sets + more.sets =
    ap (λ (t : Totals). t.sets) {y = plus totals more} c.plus-totals.ensures in
    let requests : sum.requests ≡ totals.requests + more.requests =
    ap (λ (t : Totals). t.requests) {y = plus totals more} c.plus-totals.ensures in (
      both_readings totals (Ok sum) old mid new held.0
          (is_reading (Ok more) (Ok sum) mid new (λ ok. refl) c.in-Ok.ensures.read),
      λ live layout schema inside.
          let live_mid = c.in-Ok.ensures.read.stays.was_open live in
          let now_mid = held.0.stays.now live_mid in
          fine_after c.args.grades c.args.seeds.now layout _ before totals more sum c.plus-totals.ensures
          (held.1 live_mid layout schema inside)
          (earlier old mid (λ layout trees. HasFine c.args.grades c.args.seeds.now layout trees (before + 1) more)
          now_mid (c.in-Ok.ensures.fine live) layout schema inside),
      omega (arith, accounts, held.2, few.0),
      omega (arith, sessions, held.3, few.1),
      omega (arith, sets, held.4, few.2),
      omega (arith, requests, held.5, few.3),
    )

pub returns-in-Err-clause-first : goal.returns-in-Err-clause-first
returns-in-Err-clause-first g c = λ live layout schema inside u found is whose.
    let live_mid = c.in-Err.ensures.read.stays.was_open live in
    let one : Some u ≡ Some (c.loop-before.before + 1) = sym whose ∙ c.in-Err.ensures.whose found is in
    fine_behind layout _ c.args.grades c.args.seeds.now c.loop-before.before c.loop-before.totals u
    (c.loop-before.invariant.1 live_mid layout schema inside) (cc (one))
