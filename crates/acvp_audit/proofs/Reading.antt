-- Several readings, one after another.
use Rattle.std.proofs.Common.{◌≡◌, Result, Ok, Err, IfOk, IfErr, IsOk, IsTrue, refl, subst, ◌∙◌}
use Rattle.std.specs.Prelude.{OnOk}
use Rattle.sqlite.specs.State.{State, HasCleanDisk}
use Rattle.sqlite_trees.specs.Tree.{Trees}
use Rattle.acvp_store.specs.Connection.{InStore, IsRead}
use Rattle.acvp_store.specs.Schema.{Layout}
use Rattle.acvp_audit.specs.Checked.{IsReading}
use Rattle.acvp_audit.specs.Read.{AreInTrees}

-- what was told of a state that showed the same
pub earlier : (old mid : State) (Said : Layout → Trees → Type 0) → mid.now ≡ old.now
    → InStore mid.now (λ layout. AreInTrees layout mid.now.trees → Said layout mid.now.trees)
    → InStore old.now (λ layout. AreInTrees layout old.now.trees → Said layout old.now.trees)
earlier old mid Said same told =
    subst (λ db. InStore db (λ layout. AreInTrees layout db.trees → Said layout db.trees)) same told

-- what is told of what was found
pub of_found : {X E : Type 0} (r : Result X E) (x : X) (P : X → Type 0) → r ≡ Ok x → IfOk r P → P x
of_found r x P is told = subst (λ q. IfOk q P) is told

pub told_more : {X E : Type 0} (r : Result X E) (P Q : X → Type 0) → ((x : X) → P x → Q x) → IfOk r P → IfOk r Q
told_more (Ok x) P Q more told = more x told
told_more (Err e) P Q more told = tt

pub blamed_more : {X E : Type 0} (r : Result X E) (P Q : E → Type 0) → ((e : E) → P e → Q e) → IfErr r P → IfErr r Q
blamed_more (Ok x) P Q more told = tt
blamed_more (Err e) P Q more told = more e told

-- a read is a reading
pub is_reading : {X E Y F : Type 0} (r : Result X E) (q : Result Y F) (old new : State) → (IsOk q → IsOk r)
    → IsRead r old new → IsReading q old new
is_reading r q old new ok read =
    record {
      stays = read.stays;
      was_clean = read.was_clean;
      stays_open = stays r q ok read.stays_open;
      limit =
          read.limit;
      left = read.left;
    }
  where
    stays : {X E Y F : Type 0} (r : Result X E) (q : Result Y F) → (IsOk q → IsOk r)
        → OnOk r (HasCleanDisk new → IsTrue old.is_open × IsTrue new.is_open)
        → OnOk q (HasCleanDisk new → IsTrue old.is_open → IsTrue new.is_open)
    stays (Ok x) (Ok y) ok live = λ clean was. (live clean).1
    stays (Err e) (Ok y) ok live = absurd (let impossible = ok refl in cc)
    stays r (Err f) ok live = tt

-- one behind another, where the first succeeded
pub both_readings : {X E Y F : Type 0} (x : X) (q : Result Y F) (old mid new : State)
    → IsReading {X = X} {E = E} (Ok x) old mid → IsReading q mid new → IsReading q old new
both_readings x q old mid new first second = record {
  stays = record {
    was_open = λ now. first.stays.was_open (second.stays.was_open now);
    now = λ live. second.stays.now live ∙ first.stays.now (second.stays.was_open live);
    settled = second.stays.settled;
  };
  was_clean = λ clean. first.was_clean (second.was_clean clean);
  stays_open = stays q second.stays_open;
  limit = second.limit ∙ first.limit;
  left = λ clean db may. first.left (second.was_clean clean) db (second.left clean db may);
}
  where
    stays : {Y F : Type 0} (q : Result Y F) → OnOk q (HasCleanDisk new → IsTrue mid.is_open → IsTrue new.is_open)
        → OnOk q (HasCleanDisk new → IsTrue old.is_open → IsTrue new.is_open)
    stays (Ok y) live = λ clean was. live clean (first.stays_open (second.was_clean clean) was)
    stays (Err f) live = tt

-- one behind another, both of which may have failed
pub both_failed : {X E Y F Z H : Type 0} (e : E) (f : F) (h : H) (old mid new : State)
    → IsReading {X = X} (Err e) old mid → IsReading {X = Y} (Err f) mid new → IsReading {X = Z} (Err h) old new
both_failed e f h old mid new first second = record {
  stays = record {
    was_open = λ now. first.stays.was_open (second.stays.was_open now);
    now = λ live. second.stays.now live ∙ first.stays.now (second.stays.was_open live);
    settled = second.stays.settled;
  };
  was_clean = λ clean. first.was_clean (second.was_clean clean);
  stays_open = tt;
  limit = second.limit ∙ first.limit;
  left = λ clean db may. first.left (second.was_clean clean) db (second.left clean db may);
}
