use Rattle.std.proofs.Common.{sym, ap, subst, ◌∙◌}
use Rattle.acvp_store.specs.Private.Clean.{open_is_clean}
use Rattle.acvp_store.proofs.Words.{Database, IfErr-weaker, IfOk-weaker, IsAfterMigration, IsEarlierOf, state, Third}
use Rattle.acvp_store.proofs.Words.{version_of}
use Rattle.acvp_store.proofs.Versions.{unknown, not_known, left_as_committed, of_fault}
use Rattle.acvp_store.proofs.OneSchema.{is_of, stands_migrated, of_both, of_success, as_committed, as_left}
use Rattle.acvp_store.proofs.store.migrate.Goals as goal

pub returns-then-not-is_autocommit-clause-left : goal.returns-then-not-is_autocommit-clause-left
returns-then-not-is_autocommit-clause-left g c =
    let old = c.args.connection in
    left_as_committed (state g.S.Store old) (state g.S.Store old) (IsAfterMigration (state g.S.Store old).now)
    (λ db live may. g.met.S.Store.settled old.store db live may) (λ clean db may. may)

pub returns-in-Ok-None-clause-migrated : goal.returns-in-Ok-None-clause-migrated
returns-in-Ok-None-clause-migrated g c = IfOk-weaker c.adopt.result _ _ (λ t is live.
    let it = is live in
    record {
      was_open = it.was_open;
      from = Third it.ours.layout;
      was = record { schema = it.ours.schema; named = it.ours.version; no_old_sets = it.ours.no_old_sets };
      turned = it.same;
    }) c.adopt.ensures.adopted

pub returns-in-Ok-None-clause-schema : goal.returns-in-Ok-None-clause-schema
returns-in-Ok-None-clause-schema g c =
    IfErr-weaker c.adopt.result _ _
    (λ e is schema live. unknown (state g.S.Store c.args.connection).now
    (subst (IsEarlierOf (state g.S.Store c.args.connection).now.schema) c.in-Ok-None.field-0-is
    c.in-Ok-None.ensures.earlier) (is schema live)) c.adopt.ensures.schema

pub returns-in-Ok-None-clause-settled : goal.returns-in-Ok-None-clause-settled
returns-in-Ok-None-clause-settled g c = IfOk-weaker c.adopt.result _ _ (λ t is clean open_before db may.
    let live = (is clean).1 in
    g.met.S.Store.settled t.store db live.is_open may ∙ ap (λ (d : Database). d.trees) (sym live.store.ready.settled))
    c.adopt.ensures.stays_open

pub returns-in-Ok-None-clause-left : goal.returns-in-Ok-None-clause-left
returns-in-Ok-None-clause-left g c =
    let old = c.args.connection in
    of_fault c.adopt.result _ _ _
    (λ e none. left_as_committed (state g.S.Store old) (state g.S.Store e.0)
    (IsAfterMigration (state g.S.Store old).now) (λ db live may. g.met.S.Store.settled old.store db live may) none)
    c.adopt.ensures.left

pub returns-in-Ok-Some-clause-schema : goal.returns-in-Ok-Some-clause-schema
returns-in-Ok-Some-clause-schema g c =
    IfErr-weaker c.migrate_from.result _ _
    (λ e is schema live. not_known (version_of c.in-Ok-Some.from) (state g.S.Store c.args.connection).now
    (subst (IsEarlierOf (state g.S.Store c.args.connection).now.schema) c.in-Ok-Some.field-0-is
    c.in-Ok-Some.ensures.earlier) (is schema live)) c.migrate_from.ensures.schema

pub returns-in-Ok-Some-clause-settled : goal.returns-in-Ok-Some-clause-settled
returns-in-Ok-Some-clause-settled g c = IfOk-weaker c.migrate_from.result _ _ (λ t is clean open_before db may.
    let live = (is clean).1 in
    g.met.S.Store.settled t.store db live.is_open may ∙ ap (λ (d : Database). d.trees) (sym live.store.ready.settled))
    c.migrate_from.ensures.stays_open

pub returns-in-Err-clause-left : goal.returns-in-Err-clause-left
returns-in-Err-clause-left g c =
    let old = c.args.connection in
    left_as_committed (state g.S.Store old) (state g.S.Store old) (IsAfterMigration (state g.S.Store old).now)
    (λ db live may. g.met.S.Store.settled old.store db live may) (λ clean db may. may)

pub returns-in-Ok-None-clause-found : goal.returns-in-Ok-None-clause-found
returns-in-Ok-None-clause-found g c =
    let old = state g.S.Store c.args.connection in
    of_success c.adopt.result _ _ _
    (λ t is lives live. stands_migrated g.S.Store t old (c.in-Ok-None.ensures.sound (is live).was_open) (is live)
    (λ up. (lives (open_is_clean (g.met.S.Store.shut_if_dirty t.store) up)).1.store))
    (returns-in-Ok-None-clause-migrated g c) c.adopt.ensures.stays_open

pub returns-in-Ok-None-clause-recognized : goal.returns-in-Ok-None-clause-recognized
returns-in-Ok-None-clause-recognized g c =
    let old = state g.S.Store c.args.connection in
    of_both c.adopt.result _ _ _
    (λ e is back schema live version content it.
    is schema live (version, is_of version old.now (c.in-Ok-None.ensures.sound (back live).was_open) content it))
    (returns-in-Ok-None-clause-schema g c) c.adopt.ensures.unchanged

pub returns-in-Ok-Some-clause-found : goal.returns-in-Ok-Some-clause-found
returns-in-Ok-Some-clause-found g c =
    let old = state g.S.Store c.args.connection in
    of_success c.migrate_from.result _ _ _
    (λ t is lives live. stands_migrated g.S.Store t old (c.in-Ok-Some.ensures.sound (is live).was_open) (is live)
    (λ up. (lives (open_is_clean (g.met.S.Store.shut_if_dirty t.store) up)).1.store)) c.migrate_from.ensures.migrated
    c.migrate_from.ensures.stays_open

pub returns-in-Ok-Some-clause-recognized : goal.returns-in-Ok-Some-clause-recognized
returns-in-Ok-Some-clause-recognized g c =
    let old = state g.S.Store c.args.connection in
    of_both c.migrate_from.result _ _ _
    (λ e is back schema live version content it.
    is schema live (version, is_of version old.now (c.in-Ok-Some.ensures.sound (back live).was_open) content it))
    (returns-in-Ok-Some-clause-schema g c) c.migrate_from.ensures.unchanged

pub returns-then-not-is_autocommit-clause-crash : goal.returns-then-not-is_autocommit-clause-crash
returns-then-not-is_autocommit-clause-crash g c =
    let old = c.args.connection in
    as_committed (state g.S.Store old) (state g.S.Store old)
    (λ db live may. g.met.S.Store.settled old.store db live may) (λ clean db may. may)

pub returns-in-Ok-None-clause-crash : goal.returns-in-Ok-None-clause-crash
returns-in-Ok-None-clause-crash g c =
    let old = c.args.connection in
    of_fault c.adopt.result _ _ _
    (λ e none. as_committed (state g.S.Store old) (state g.S.Store e.0)
    (λ db live may. g.met.S.Store.settled old.store db live may) none) c.adopt.ensures.left

pub returns-in-Ok-Some-clause-crash : goal.returns-in-Ok-Some-clause-crash
returns-in-Ok-Some-clause-crash g c =
    let old = state g.S.Store c.args.connection in
    IfErr-weaker c.migrate_from.result _ _
    (λ e left. as_left old (state g.S.Store e.0) (c.is_autocommit.ensures.settled (search))
    (c.in-Ok-Some.ensures.sound) left) c.migrate_from.ensures.left

pub returns-in-Err-clause-crash : goal.returns-in-Err-clause-crash
returns-in-Err-clause-crash g c =
    let old = c.args.connection in
    as_committed (state g.S.Store old) (state g.S.Store old)
    (λ db live may. g.met.S.Store.settled old.store db live may) (λ clean db may. may)
