use Rattle.std.proofs.Common.{◌≡◌, ◌++◌, ◌+◌, ◌*◌, drop}
use Rattle.acvp_tables.specs.Changes.{new_sets}
use Rattle.acvp_tables.proofs.list.sets.new_sets.Given as goal

abbrev pub invariant-loop-capability : goal.invariant-loop-capability
invariant-loop-capability l =
    (l.rows.items ++ new_sets l.session.number l.session.epoch (l.capability-index + 1)
    (drop l.capability-index l.session.registration.capabilities)
    ≡ new_sets l.session.number l.session.epoch 1 l.session.registration.capabilities)
    × (l.number ≡ l.session.number * 100 + l.capability-index)
