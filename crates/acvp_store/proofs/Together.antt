-- The parts of a transaction, and the whole of one.
use Rattle.std.proofs.Common.{◌≡◌, inl, inr, ℕ, List, true, false, None, Ok, Err, Result, IsTrue, IsOk, OnOk, refl, sym}
use Rattle.std.proofs.Common.{ap, subst, ◌∙◌}
use Rattle.sqlite_trees.specs.Tree.{Trees}
use Rattle.sqlite.specs.State.{Writes}
use Rattle.sqlite.specs.Steps.{FailsToCommit}
use Rattle.sqlite.specs.Given.{IsPlain}
use Rattle.sqlite.proofs.StateLemmas.{survives_then}
use Rattle.sqlite_schema.specs.declared.schema.Schema.{Schema}
use Rattle.acvp_store.proofs.Words.{Both, cases_Bool, Command, command_of, Created, Database, Does, Error}
use Rattle.acvp_store.proofs.Words.{ExecutesInside, HasCleanDisk, IsInside, IsPerformed, IsReady, IsRolledBack}
use Rattle.acvp_store.proofs.Words.{IsWritten, Kept}
use Rattle.acvp_store.proofs.Words.{Layout, mode_of, Row, Runs, runs_as, schema_of, Shows, State, statement_of, Stays}
use Rattle.acvp_store.proofs.Words.{Survives, Tally, Under, understood, UnderStore}
use Rattle.acvp_store.proofs.QueryLeaves.{clean_before}

inside_kept : (sql : List ℕ) (params : Row) (old new : State) (r : Result ℕ Error)
    → ExecutesInside 0 sql params old new r → Kept old new
inside_kept sql params old new (Ok count) h = record { was_open = λ _. h.1.was_open; committed = λ _. h.1.committed_is }
inside_kept sql params old new (Err e) (inl h) = elim h.1 [
  | inl same ↦ record { was_open = λ _. same.0.was_open; committed = λ _. same.0.committed_is }
  | inr back ↦ record { was_open = back.was_open; committed = λ live. (back.undone live).1 }
]
inside_kept sql params old new (Err e) (inr h) =
    record { was_open = λ _. h.2.0.was_open; committed = λ _. h.2.0.committed_is }

kept_then : (a b c : State) → Kept a b → Kept b c → Kept a c
kept_then a b c p q = record {
  was_open = λ live. p.was_open (q.was_open live);
  committed = λ live. q.committed live
      ∙ p.committed (q.was_open live);
}

pub kept_same : (old new : State) → new ≡ old → Kept old new
kept_same old new same =
    record { was_open = λ live. rw same at live; committed = λ _. ap (λ (s : State). s.committed) same }

-- ---- one statement

-- A statement that is understood so under a schema, and has this effect. `Under` names the schema.
module _ (schema : Schema) (sql : List ℕ) (params : Row) (old new : State) (command : Command)
    (is : (command_of (understood schema sql) ≡ command) × IsPlain (understood schema sql))
    (writes : (count : ℕ) → Runs old new None command (statement_of sql (understood schema sql)) params count
    → Writes old new None command (statement_of sql (understood schema sql)) params count)
    (Effect : Database → Database → Type 0)
    (effect : old.now.schema ≡ schema → (tally : Tally) (after : Database)
    → Does old.step_limit (mode_of old) params old.now (statement_of sql (understood schema sql)) None command
    (Ok (tally, after)) → Effect old.now after) where
  did : (r : Result ℕ Error) → IsOk r
      → (HasCleanDisk new → IsTrue old.in_transaction → ExecutesInside 0 sql params old new r)
      → IsTrue old.is_open → IsTrue old.in_transaction → HasCleanDisk new → IsTrue new.is_open
      × IsTrue new.in_transaction × Under schema Effect old.now new.now
  did (Ok count) ok ran was on sure =
      let h = ran sure on in (
        h.1.is_open,
        h.1.mode,
        λ has. let w =
            writes count (runs_as sql params old new schema has command is.0 is.1 count h.0) in
            (λ _. w.sound, effect has w.tally new.now w.changed),
      )
  did (Err e) ok ran was on sure = absurd (cc)

  pub inside : {X E : Type 0} (q : Result X E) → IsPerformed q sql params old new
      → IsInside q old new (Under schema Effect)
  inside q h = record { kept = kept; ok = made q h; survives = h.survives }
    where
      kept : IsTrue new.is_open → Kept old new
      kept live = elim (cases_Bool old.in_transaction) [
        | inl on ↦ inside_kept sql params old new h.outcome (h.ran (h.open_is_clean live) on)
        | inr off ↦ h.ended off
      ]

      made : {X E : Type 0} (q : Result X E) → IsPerformed q sql params old new
          → OnOk q (IsTrue old.is_open → IsTrue old.in_transaction → HasCleanDisk new → IsTrue new.is_open
          × IsTrue new.in_transaction × Under schema Effect old.now new.now)
      made (Ok x) h = did h.outcome (h.ok refl) h.ran
      made (Err e) h = tt

-- whichever way the store's tables lie
pub inside_store : {X E : Type 0} (r : Result X E) (old new : State) (Change : Layout → Database → Database → Type 0)
    → ((layout : Layout) → IsInside r old new (Under (schema_of layout) (Change layout)))
    → IsInside r old new (UnderStore Change)
inside_store (Ok x) old new Change h = record {
  kept = (h Created).kept;
  ok = λ live on clean. let it = (h Created).ok live on clean in
      (it.0, it.1, λ layout. ((h layout).ok live on clean).2);
  survives = (h Created).survives;
}
inside_store (Err e) old new Change h = record { kept = (h Created).kept; ok = tt; survives = (h Created).survives }

pub inside_turned : {X E : Type 0} (r : Result X E) (old new : State) (P Q : Database → Database → Type 0)
    → ((d e : Database) → P d e → Q d e) → IsInside r old new P → IsInside r old new Q
inside_turned (Ok x) old new P Q turns h = record {
  kept = h.kept;
  ok = λ live on clean. let it = h.ok live on clean in
      (it.0, it.1, turns _ _ it.2);
  survives = h.survives;
}
inside_turned (Err e) old new P Q turns h = record { kept = h.kept; ok = tt; survives = h.survives }

-- ---- two parts, one after the other

survives_both : (a b c : State) → Survives a b (λ _. ⊥) → Survives b c (λ _. ⊥) → Survives a c (λ _. ⊥)
survives_both a b c p q = survives_then a b c _ _ (λ _. ⊥) (λ _ db none. none) (λ _ db none. none) p q

module _ {X Y Z E F G : Type 0} (a b c : State) (First Second : Database → Database → Type 0) where
  pub inside_then : (x : X) (y : Y) (z : Z) → IsInside {E = E} (Ok x) a b First → IsInside {E = F} (Ok y) b c Second
      → IsInside {E = G} (Ok z) a c (Both First Second)
  inside_then x y z p q = record {
    kept = λ live. let k = q.kept live in kept_then a b c (p.kept (k.was_open live)) k;
    ok = λ live on clean.
        let was = p.ok live on (clean_before b.is_clean c.is_clean q.survives.clean clean) in
        let now = q.ok was.0 was.1 clean in
        (now.0, now.1, (b.now, was.2, now.2));
    survives = survives_both a b c p.survives q.survives;
  }

-- ---- a whole transaction

-- So far nothing is committed: this is what the parts left, from the begin on.
module _ (old begun last new : State) (begins : begun ≡ record old { in_transaction = true }) (Change : Database
    → Database → Type 0) (ready : IsReady old) (clean : IsTrue new.is_open → HasCleanDisk new)
    (settled_old : (db : Trees) → IsTrue old.is_open → old.may_leave db → db ≡ old.committed.trees)
    (settled_new : (db : Trees) → IsTrue new.is_open → new.may_leave db → db ≡ new.committed.trees) where
  kept_so : {X E : Type 0} (r : Result X E) → IsInside r begun last Change → IsTrue last.is_open → Kept old last
  kept_so r h live = let k = (rw begins at h).kept live in record { was_open = k.was_open; committed = k.committed }

  survives_so : {X E : Type 0} (r : Result X E) → IsInside r begun last Change → Survives old last (λ _. ⊥)
  survives_so r h = let it = rw begins at h in
      record {
        clean = it.survives.clean;
        shield = it.survives.shield;
        counts = it.survives.counts;
        limit =
            it.survives.limit;
        closes = it.survives.closes;
        crash = it.survives.crash;
      }

  made_so : {X E : Type 0} (x : X) → IsInside {E = E} (Ok x) begun last Change → IsTrue old.is_open → HasCleanDisk last
      → IsTrue last.is_open × IsTrue last.in_transaction × Change old.now last.now
  made_so x h live sure = (rw begins at h).ok live refl sure

  -- the begun transaction was dropped
  undone : {X E : Type 0} (r : Result X E) → IsInside r begun last Change → (IsTrue new.is_open → IsRolledBack last new)
      → Stays old new
  undone r h back = record {
    was_open = λ live. (kept_so r h ((back live).was_open live)).was_open ((back live).was_open live);
    now = λ live. ((back live).undone live).0
        ∙ (kept_so r h ((back live).was_open live)).committed ((back live).was_open live)
        ∙ sym (ready ((kept_so r h ((back live).was_open live)).was_open ((back live).was_open live))).settled;
    settled = λ live. record {
      settled = ((back live).undone live).0 ∙ sym ((back live).undone live).1;
      autocommit =
          (back live).autocommit;
    };
  }

  was_there : {X E : Type 0} (r : Result X E) → IsInside r begun last Change → HasCleanDisk last → (db : Trees)
      → IsTrue old.is_open → last.may_leave db → db ≡ old.now.trees
  was_there r h sure db live may = elim ((survives_so r h).crash sure db may) [
    | inl was ↦ settled_old db live was ∙ ap (λ (d : Database). d.trees) (sym (ready live).settled)
    | inr none ↦ absurd none
  ]

  -- a part failed, and the transaction was dropped
  pub dropped : {X Y E F : Type 0} (e : E) (f : F) → IsInside {X = Y} (Err f) begun last Change
      → (HasCleanDisk new → IsRolledBack last new) → Survives last new (λ _. ⊥)
      → IsWritten {X = X} (Err e) old new Change
  dropped e f h back gone =
      let stays = undone (Err f) h (λ live. back (clean live)) in
      record {
        was_open = stays.was_open;
        was_clean = λ sure. clean_before old.is_clean last.is_clean (survives_so (Err f) h).clean
            (clean_before last.is_clean new.is_clean gone.clean sure);
        stays_open = tt;
        settled = stays.settled;
        limit = gone.limit ∙ (survives_so (Err f) h).limit;
        ok = tt;
        err = stays.now;
        left_ok = tt;
        left_err = λ sure live db may. elim (gone.crash sure db may) [
          | inl was ↦ inl (was_there (Err f) h (clean_before last.is_clean new.is_clean gone.clean sure) db live was)
          | inr none ↦ absurd none
        ];
      }

  module _ {Y F : Type 0} (y : Y) (h : IsInside {E = F} (Ok y) begun last Change)
      (gone : Survives last new (λ db. db ≡ last.now.trees)) where
    sure_last : HasCleanDisk new → HasCleanDisk last
    sure_last = clean_before last.is_clean new.is_clean gone.clean

    sure_old : HasCleanDisk new → HasCleanDisk old
    sure_old sure = clean_before old.is_clean last.is_clean (survives_so (Ok y) h).clean (sure_last sure)

    -- the commit failed
    pub uncommitted : {X E : Type 0} (e : E) (error : Error) → (HasCleanDisk new → FailsToCommit last new error)
        → IsWritten {X = X} (Err e) old new Change
    uncommitted e error fails =
        let stays = undone (Ok y) h back in
        record {
          was_open = stays.was_open;
          was_clean = sure_old;
          stays_open = tt;
          settled = stays.settled;
          limit = gone.limit ∙ (survives_so (Ok y) h).limit;
          ok = tt;
          err = stays.now;
          left_ok = tt;
          left_err = λ sure live db may. elim (gone.crash sure db may) [
            | inl was ↦ inl (was_there (Ok y) h (sure_last sure) db live was)
            | inr is ↦ inr (last.now, sym is, (made_so y h live (sure_last sure)).2)
          ];
        }
      where
        back : IsTrue new.is_open → IsRolledBack last new
        back live = elim (fails (clean live)) [
          | inl failed ↦ failed.3
          | inr late ↦
              let was = late.2.0.was_open in
              absurd (let on = (made_so y h ((kept_so (Ok y) h was).was_open was) (sure_last (clean live))).1 in
              let off = late.1 in cc)
        ]

    -- the commit succeeded
    pub committed : {X E : Type 0} (x : X) → (HasCleanDisk new → Shows last new last.now last.now false)
        → IsWritten {E = E} (Ok x) old new Change
    committed x shown =
        let was = λ (live : IsTrue new.is_open). (kept_so (Ok y) h (shown (clean live)).was_open).was_open
        (shown (clean live)).was_open in
        record {
          was_open = was;
          was_clean = sure_old;
          stays_open = λ sure live. (shown sure).is_open;
          settled = λ live. let s = shown (clean live) in
              record { settled = s.now_is ∙ sym s.committed_is; autocommit = s.mode };
          limit = gone.limit ∙ (survives_so (Ok y) h).limit;
          ok = λ live. subst (Change old.now) (sym (shown (clean live)).now_is)
              (made_so y h (was live) (sure_last (clean live))).2;
          err = tt;
          left_ok = λ sure live db may.
              let s = shown sure in (
                last.now,
                sym (settled_new db s.is_open may ∙ ap (λ (d : Database). d.trees) s.committed_is),
                (made_so y h live (sure_last sure)).2,
              );
          left_err = tt;
        }
