use Rattle.std.proofs.Common.{sym, ap, subst, ◌∙◌}
use Rattle.acvp_store.proofs.Words.{Database, HasVersion, IfErr-weaker, IfOk-weaker, IsDatabase, Migrated}
use Rattle.acvp_store.proofs.Versions.{empty}
use Rattle.acvp_store.proofs.store.adopt_migrated.Goals as goal

pub adopt_named-requires : goal.adopt_named-requires
adopt_named-requires g c live =
    let stays = c.in-Ok-false.ensures.read.stays in
    let was = c.requires (stays.was_open live) in
    record {
      ready = stays.settled live;
      schema =
          (Migrated, ap (λ (d : Database). d.schema) (stays.now live) ∙ was.1);
      sound =
          subst IsDatabase (sym (stays.now live)) was.2;
    }

pub returns-in-Ok-false-clause-adopted : goal.returns-in-Ok-false-clause-adopted
returns-in-Ok-false-clause-adopted g c =
    let stays = c.in-Ok-false.ensures.read.stays in
    IfOk-weaker c.adopt_named.result _ _ (λ t is live.
    let it = is live in
    let was = stays.was_open it.0 in
    let same = stays.now it.0 in
    record {
      was_open = was;
      ours = record {
        layout = Migrated;
        schema = (c.requires was).1;
        version = subst (λ (d : Database). HasVersion 3 d.trees) same it.1;
        no_old_sets = empty _ (sym (c.in-Ok-false.ensures.found it.0) ∙ c.in-Ok-false.field-0-test);
      };
      same = it.2 ∙ same;
    }) c.adopt_named.ensures.named

pub returns-in-Ok-false-clause-schema : goal.returns-in-Ok-false-clause-schema
returns-in-Ok-false-clause-schema g c =
    let stays = c.in-Ok-false.ensures.read.stays in
    IfErr-weaker c.adopt_named.result _ _ (λ e is schema live ours.
    let it = is schema live in
    it.1 (subst (λ (d : Database). HasVersion 3 d.trees) (sym (stays.now it.0)) ours.version))
    c.adopt_named.ensures.schema
