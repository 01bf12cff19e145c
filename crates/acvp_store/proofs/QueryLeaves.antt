-- What a query leaves, whatever its text.
use Rattle.std.proofs.Common.{◌≡◌, ◌≤◌, inl, inr, ℕ, List, Bool, true, false, Option, None, Some, Ok, Err, Result}
use Rattle.std.proofs.Common.{IsTrue, IfOk, IfErr, IsOk, refl, sym, subst, ◌∙◌, arith}
use Rattle.sqlite_trees.proofs.Doubt.{no_doubt}
use Rattle.sqlite_schema.specs.declared.command.Returning.{Returning}
use Rattle.std.specs.Prelude.{◌≢◌, IsErrAnd}
use Rattle.sqlite.specs.declared.error.Error.TheVariants.{SqliteFailure}
use Rattle.sqlite.specs.declared.error.ErrorCode.TheVariants.{OutOfMemory}
use Rattle.acvp_tables.specs.declared.tables.StoreFault.{StoreFault}
use Rattle.acvp_tables.specs.declared.tables.StoreFault.TheVariants.{Refused}
use Rattle.sqlite.specs.State.{Shown, FailsToQuery, IsNotRun}
use Rattle.sqlite.specs.Clock.{timed}
use Rattle.acvp_store.proofs.Words.{CommitsShowing, doubt, Error, FailsToShow, HasCleanDisk, IsRead, IsReady}
use Rattle.acvp_store.proofs.Words.{IsRolledBack, IsUnchanged, LeavesNoMore, Row, ShowsRows, State, Stays, Survives}
use Rattle.acvp_store.specs.Private.Queries.{IsQuery}
use Rattle.acvp_store.proofs.Silent.{silent, commits_nothing}

-- an open store is clean, by the law of each store
pub clean_if_open : (is_clean is_open : Bool) → (is_clean ≡ false → is_open ≡ false) → IsTrue is_open
    → doubt is_clean ≡ 0
clean_if_open true is_open law h = no_doubt true refl
clean_if_open false is_open law h = absurd (let e = law refl in cc)

pub clean_before : (a b : Bool) → doubt a ≤ doubt b → doubt b ≡ 0 → doubt a ≡ 0
clean_before a b low clean = omega arith

-- nothing changed
same_unchanged : (old new : State) → IsReady old → IsUnchanged old new → Stays old new
same_unchanged old new ready same =
    let was = ready same.0.was_open in
    record {
      was_open = λ _. same.0.was_open;
      now = λ _. same.0.now_is;
      settled = λ _. record {
        settled = same.0.now_is ∙ was.settled ∙ sym same.0.committed_is;
        autocommit =
            same.0.mode ∙ was.autocommit;
      };
    }

same_undone : (old new : State) → IsReady old → IsRolledBack old new → Stays old new
same_undone old new ready back = record {
  was_open = back.was_open;
  now = λ h. (back.undone h).0 ∙ sym (ready (back.was_open h)).settled;
  settled = λ h. record { settled = (back.undone h).0 ∙ sym (back.undone h).1; autocommit = back.autocommit };
}

stays_failed : (sql : List ℕ) (params : Row) (old new : State) (e : Error) → IsReady old
    → FailsToQuery sql params old new e → Stays old new
unfolding FailsToQuery IsNotRun
stays_failed sql params old new e ready (inl (inl h)) = same_unchanged old new ready h.1
stays_failed sql params old new e ready (inl (inr h)) = same_undone old new ready h.3
stays_failed sql params old new e ready (inr h) = go h.0.returning h.2
  where
    go : (what : Option Returning) → FailsToShow old new sql h.0 (timed params h.0.formats h.1.now) e what
        → Stays old new
    go None it = same_unchanged old new ready it.3
    go (Some what) (inl it) = same_unchanged old new ready it.1
    go (Some what) (inr it) = same_undone old new ready it.3

pub unchanged_shown : (sql : List ℕ) (params : Row) (old new : State) (rows : List Row) → IsQuery sql
    → Shown sql params old new rows → IsUnchanged old new
unfolding Shown
unchanged_shown sql params old new rows is h =
    (subst (ShowsRows old new sql h.0 (timed params h.0.formats h.1.now) rows)
    (silent old.now.schema sql h.0 is h.1.is) h.2).3

-- what is made of a query's answer was read as the query was
pub read_as : {X Y E F : Type 0} (r : Result X E) (q : Result Y F) (old new : State) → (IsOk q → IsOk r)
    → IsRead r old new → IsRead q old new
read_as (Ok x) (Ok y) old new same h =
    record { stays = h.stays; was_clean = h.was_clean; stays_open = h.stays_open; limit = h.limit; left = h.left }
read_as (Err e) (Ok y) old new same h = absurd (let impossible = same refl in cc)
read_as r (Err f) old new same h =
    record { stays = h.stays; was_clean = h.was_clean; stays_open = tt; limit = h.limit; left = h.left }

-- why it is Refused
pub failed : {X Y : Type 0} (outcome : Result X Error) (result : Result Y StoreFault) (Fails : Error → Type 0)
    → IfErr result (λ fault. fault ≡ Refused → IsErrAnd outcome (λ error. error ≢ SqliteFailure OutOfMemory))
    → IfErr outcome Fails
    → IfErr result (λ fault. fault ≡ Refused → (error : Error) × (error ≢ SqliteFailure OutOfMemory) × Fails error)
failed outcome (Ok y) Fails refused fails = tt
failed (Ok x) (Err fault) Fails refused fails = λ is. absurd (refused is)
failed (Err e) (Err fault) Fails refused fails = λ is. (e, refused is, fails)

-- what `query_all` ensures, of a text that is a SELECT
module _ (sql : List ℕ) (params : Row) (old new : State) (law : new.is_clean ≡ false → new.is_open ≡ false)
    (ready : IsReady old) (is : IsQuery sql)
    (kept : Survives old new (CommitsShowing sql params old)) where
  later : (HasCleanDisk new → Stays old new) → Stays old new
  later h = let clean = clean_if_open new.is_clean new.is_open law in record {
    was_open = λ live. (h (clean live)).was_open live;
    now = λ live. (h (clean live)).now live;
    settled = λ live. (h (clean live)).settled live;
  }

  left : LeavesNoMore old new
  left clean db may = elim (kept.crash clean db may) [
    | inl was ↦ was
    | inr commits ↦ absurd (commits_nothing sql params old db is commits)
  ]

  read : {X : Type 0} (result : Result X Error) (rows_of : X → List Row)
      → (HasCleanDisk new → IfOk result (λ x. Shown sql params old new (rows_of x)))
      → (HasCleanDisk new → IfErr result (FailsToQuery sql params old new)) → IsRead result old new
  read (Ok x) rows_of ok err = record {
    stays = later (λ clean. same_unchanged old new ready
        (unchanged_shown sql params old new (rows_of x) is (ok clean)));
    was_clean = clean_before old.is_clean new.is_clean kept.clean;
    stays_open = λ clean. let same = unchanged_shown sql params old new (rows_of x) is (ok clean) in
        (same.0.was_open, same.0.is_open);
    limit = kept.limit;
    left = left;
  }
  read (Err e) rows_of ok err = record {
    stays = later (λ clean. stays_failed sql params old new e ready (err clean));
    was_clean = clean_before old.is_clean new.is_clean kept.clean;
    stays_open = tt;
    limit = kept.limit;
    left = left;
  }

  -- and so is what is made of its answer
  pub reads : {X Y F : Type 0} (result : Result X Error) (rows_of : X → List Row)
      → (HasCleanDisk new → IfOk result (λ x. Shown sql params old new (rows_of x)))
      → (HasCleanDisk new → IfErr result (FailsToQuery sql params old new))
      → (told : Result Y F) → (IsOk told → IsOk result) → IsRead told old new
  reads result rows_of ok err told same = read_as result told old new same (read result rows_of ok err)
