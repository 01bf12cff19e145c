use Rattle.std.proofs.Common.{◌≡◌, ◌<◌, ◌+◌, ◌*◌, take, length, length-take-le, get_or, [], ◌∷◌, ◌++◌, Ok, sym, ap}
use Rattle.std.proofs.Common.{subst, ◌∙◌, arith}
use Rattle.acvp_store.proofs.Words.{AddsSets, Both, IsInside, new_set, new_sets, state, StoreFault, take_more}
use Rattle.acvp_store.proofs.Words.{UnderStore}
use Rattle.acvp_store.proofs.Together.{inside_then, inside_turned}
use Rattle.acvp_store.proofs.SetRows.{one_more, sets_more}
use Rattle.acvp_store.proofs.sets.SetsBegunWork.run.Goals as goal

pub loop-capability-preserved : goal.loop-capability-preserved
loop-capability-preserved g c =
    let st = state g.S.Store in
    let s = c.args.self.now.session.now in
    let i = c.loop-capability.capability-index in
    let all = s.registration.capabilities in
    let it = c.capability-item.result in
    let low : i < length all = omega (arith, ap length c.capabilities-capability-items.ensures.value) in
    let is : it ≡ get_or all i it = c.capability-item.is
    ∙ ap (λ l. get_or l i it) c.capabilities-capability-items.ensures.value in
    let more : take (i + 1) all ≡ take i all ++ it ∷ [] = take_more all i it low
    ∙ ap (λ x. take i all ++ x ∷ []) (sym is) in
    let done = new_sets s.number s.epoch 1 (take i all) in
    let next = new_set (c.loop-capability.number + 1) s.number it s.epoch ∷ [] in
    let number : s.number * 100 + (1 + length (take i all)) ≡ c.loop-capability.number + 1 =
    omega (arith, length-take-le i all (omega arith)) in
    let whole : new_sets s.number s.epoch 1 (take (i + 1) all) ≡ done ++ next =
    ap (new_sets s.number s.epoch 1) more ∙ sets_more s.number s.epoch 1 (take i all) it
    ∙ ap (λ n. done ++ new_set n s.number it s.epoch ∷ []) number in
    let First = UnderStore (λ layout. AddsSets layout done) in
    let Second = UnderStore (λ layout. AddsSets layout next) in
    let begun = st c.args.tx.now.conn.now in
    let end = st c.insert_set.new.tx.conn.now in
    let joined = inside_then begun (st c.loop-capability.tx.conn.now) end First Second tt c.in_ok-insert_set.field-0 tt
    c.loop-capability.invariant.2 c.in_ok-insert_set.ensures.inside in
    let added : IsInside {X = Unit {0}} {E = StoreFault} (Ok tt) begun end
    (UnderStore (λ layout. AddsSets layout (done ++ next))) =
    inside_turned (Ok tt) begun end (Both First Second) (UnderStore (λ layout. AddsSets layout (done ++ next)))
    (one_more done next) joined in (
      c.insert_set.ensures.same_reference ∙ c.loop-capability.invariant.0,
      omega arith,
      subst (λ news. IsInside {X = Unit {0}} {E = StoreFault} (Ok tt) begun end
          (UnderStore (λ layout. AddsSets layout news))) (sym whole) added,
    )
