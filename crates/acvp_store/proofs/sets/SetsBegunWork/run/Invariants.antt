use Rattle.std.proofs.Common.{◌≡◌, ◌+◌, ◌*◌, take, Ok}
use Rattle.acvp_store.proofs.Words.{AddsSets, IsInside, new_sets, state, StoreFault, UnderStore}
use Rattle.acvp_store.proofs.sets.SetsBegunWork.run.Given as goal

abbrev pub invariant-loop-capability : goal.invariant-loop-capability
invariant-loop-capability g l = (l.tx.conn.ghost_name ≡ l.fn.tx.conn.ghost_name)
    × (l.number ≡ l.session.number * 100 + l.capability-index)
    × IsInside {X = Unit {0}} {E = StoreFault} (Ok tt) (state g.S.Store l.fn.tx.conn.now)
    (state g.S.Store l.tx.conn.now)
    (UnderStore (λ layout. AddsSets layout
    (new_sets l.session.number l.session.epoch 1 (take l.capability-index l.session.registration.capabilities))))
