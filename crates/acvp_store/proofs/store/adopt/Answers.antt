use Rattle.acvp_store.specs.Private.Clean.{open_is_clean}
use Rattle.acvp_store.proofs.Words.{IfErr-weaker, state}
use Rattle.acvp_store.proofs.OneSchema.{is_ours, stands_again, neither_ours, of_both, of_success}
use Rattle.acvp_store.proofs.store.adopt.Goals as goal

pub returns-in-Ok-true-clause-schema : goal.returns-in-Ok-true-clause-schema
returns-in-Ok-true-clause-schema g c =
    IfErr-weaker c.adopt_named.result _ _
    (λ e is schema live ours. (is schema live).1 ours.version) c.adopt_named.ensures.schema

pub returns-in-Ok-true-clause-found : goal.returns-in-Ok-true-clause-found
returns-in-Ok-true-clause-found g c = of_success c.adopt_named.result _ _ _ (λ t is lives live content it.
    let named = is live in
    stands_again g.S.Store t (state g.S.Store c.args.connection).now named.2
    (c.in-Ok-true.ensures.sound named.0) content it
    (λ up. (lives (open_is_clean (g.met.S.Store.shut_if_dirty t.store) up)).2.store)) c.adopt_named.ensures.named
    c.adopt_named.ensures.stays_open

pub returns-in-Ok-true-clause-recognized : goal.returns-in-Ok-true-clause-recognized
returns-in-Ok-true-clause-recognized g c = IfErr-weaker c.adopt_named.result _ _ (λ e is schema live content it.
    let named = is schema live in
    named.1 (is_ours (state g.S.Store c.args.connection).now (c.in-Ok-true.ensures.sound named.0) content it).version)
    c.adopt_named.ensures.schema

pub returns-in-Ok-true-is_migrated-clause-found : goal.returns-in-Ok-true-is_migrated-clause-found
returns-in-Ok-true-is_migrated-clause-found g c =
    of_success c.adopt_migrated.result _ _ _ (λ t is lives live content it.
    let taken = is live in
    stands_again g.S.Store t (state g.S.Store c.args.connection).now taken.same
    (c.in-Ok-false.ensures.sound taken.was_open) content it
    (λ up. (lives (open_is_clean (g.met.S.Store.shut_if_dirty t.store) up)).1.store)) c.adopt_migrated.ensures.adopted
    c.adopt_migrated.ensures.stays_open

pub returns-in-Ok-true-is_migrated-clause-recognized : goal.returns-in-Ok-true-is_migrated-clause-recognized
returns-in-Ok-true-is_migrated-clause-recognized g c =
    of_both c.adopt_migrated.result _ _ _ (λ e is back schema live content it.
    is schema live (is_ours (state g.S.Store c.args.connection).now
    (c.in-Ok-false.ensures.sound (back live).was_open) content it)) c.adopt_migrated.ensures.schema
    c.adopt_migrated.ensures.unchanged

pub returns-in-Ok-false-is_migrated-clause-recognized : goal.returns-in-Ok-false-is_migrated-clause-recognized
returns-in-Ok-false-is_migrated-clause-recognized g c schema live content it =
    let db = (state g.S.Store c.args.connection).now in
    neither_ours db c.in-Ok-false.field-0 c.in-Ok-false-is_migrated.field-0 c.in-Ok-false.field-0-test
    c.in-Ok-false-is_migrated.field-0-test c.in-Ok-false.ensures.same c.in-Ok-false-is_migrated.ensures
    (is_ours db (c.in-Ok-false.ensures.sound live) content it)
