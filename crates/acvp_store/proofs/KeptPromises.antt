-- From what statements do to what the tables promise.
use Rattle.std.proofs.Common.{◌≡◌, ◌<◌, ◌^◌, inl, inr, ℕ, List, [], ◌∷◌, ◌++◌, true, Result, Ok, Err, IsTrue, IfOk}
use Rattle.std.proofs.Common.{IfErr, refl, sym, ap, subst, ◌∙◌}
use Rattle.std.specs.Prelude.{◌==◌, filter, if◌then◌else◌}
use Rattle.sqlite_trees.specs.declared.store.Store.{Ghosts}
use Rattle.sqlite_trees.specs.Tree.{Trees}
use Rattle.acvp_tables.specs.Calls.{Finds, Reads, Changes}
use Rattle.acvp_tables.specs.Changes.{after, after_order}
use Rattle.acvp_tables.specs.declared.rows.RequestStatus.TheVariants as status
use Rattle.acvp_tables.specs.declared.rows.RequestBody.TheVariants as body
use Rattle.acvp_tables.specs.declared.change.Approval.{Approval}
use Rattle.acvp_tables.specs.declared.change.Change.TheVariants as change
use Rattle.acvp_tables.specs.declared.change.OrderChange.TheVariants as order
use Rattle.acvp_store.specs.Private.Found.{store_of}
use Rattle.acvp_store.proofs.Words.{account_tree, AccountRow, all-append, AllByRecursion, Alters, approved_objects}
use Rattle.acvp_store.proofs.Words.{AreKept, AreWellNumbered, BecomesMigrated, before, Begins, BodyReads, Both}
use Rattle.acvp_store.proofs.Words.{cases_Bool, changed, Content, Created, Database, FitColumns, Held, HoldsAccounts}
use Rattle.acvp_store.proofs.Words.{HoldsObjects, HoldsRequests, HoldsReviewers, HoldsSessions, HoldsSets, InStore}
use Rattle.acvp_store.proofs.Words.{is_pair, is_request, is_reviewer, is_version_row, IsDatabase, IsKeepable}
use Rattle.acvp_store.proofs.Words.{IsPermutation-refl, IsRead, IsStoreOf, IsWritten, Layout, leaves, list_any, Makes}
use Rattle.acvp_store.proofs.Words.{may_fail, meaning_of, new_objects, no_schema, not, Registers, request_at}
use Rattle.acvp_store.proofs.Words.{request_tree, RequestBody, RequestRow, reviewer_tree, ReviewerRow, Row, schema_of}
use Rattle.acvp_store.proofs.Words.{ServesStore, session_tree, SessionRow, set_tree, SetRow, Stands, stands, State}
use Rattle.acvp_store.proofs.Words.{state, StaysSound, StoreFault, Under, UnderStore, with_reviewer, with_status}
use Rattle.acvp_store.proofs.Words.{WritesVersion}
use Rattle.acvp_store.proofs.Sound.{kinds_of}
use Rattle.acvp_store.specs.declared.setup.StoreTable.TheVariants as table
use Rattle.acvp_store.proofs.Parts.{apart}
use Rattle.acvp_store.proofs.Places.{set_apart, reviewer_apart, set_is_no_reviewer, sets_spared, reviewers_spared}
use Rattle.acvp_store.proofs.Places.{old_apart, old_is_no_set, old_is_no_reviewer, old_spared}
use Rattle.acvp_store.proofs.Texts.{whole_schema, migrated_schema}

-- ---- reads

pub serves_read : {X E : Type 0} (r : Result X E) (old new : State) → ServesStore old → IsRead r old new
    → ServesStore new
serves_read r old new serves h live =
    let was = serves (h.stays.was_open live) in
    record {
      ready = h.stays.settled live;
      schema = (was.schema.0, ap (λ (d : Database). d.schema) (h.stays.now live) ∙ was.schema.1);
      sound = subst IsDatabase (sym (h.stays.now live)) was.sound;
    }

module _ {S : Type 0} (g : Ghosts S) (a b : Held S) (serves : ServesStore (state g a)) (settled : (db : Trees)
    → IsTrue (state g a).is_open → (state g a).may_leave db → db ≡ (state g a).committed.trees) where
  pub reads : {X : Type 0} (r : Result X StoreFault) → IsRead r (state g a) (state g b)
      → Reads may_fail (meaning_of g) r a b
  reads r h = record {
    fault = any r;
    was_open = h.stays.was_open;
    was_clean = h.was_clean;
    stays_open = h.stays_open;
    same = λ live c st. (
      st.0,
      same_schema live st.0 st.1,
      subst (λ (d : Database). Stands st.0 d.trees c) (sym (h.stays.now live)) st.2,
      serves_read r (state g a) (state g b) serves h,
    );
    left = λ clean live c d st clean' db may.
        inl (store_of st.0 (state g a).now db st.1
        (sym (settled db live (h.left clean db may)
        ∙ ap (λ (x : Database). x.trees) (sym ((serves live).ready.settled)))) (serves live).sound c st.2);
    kept = λ clean c d was clean' db may. was (h.was_clean clean) db (h.left clean db may);
  }
    where
      same_schema : IsTrue (state g b).is_open → (layout : Layout) → (state g a).now.schema ≡ schema_of layout
          → (state g b).now.schema ≡ schema_of layout
      same_schema now layout is = ap (λ (d : Database). d.schema) (h.stays.now now) ∙ is

      any : {X : Type 0} (r : Result X StoreFault) → IfErr r may_fail
      any (Ok x) = tt
      any (Err e) = tt

-- what is found of the rows, whichever way the tables lie
module _ {S : Type 0} (g : Ghosts S) (a b : Held S) where
  pub finds : {X Y : Type 0} (r : Result X StoreFault) (shown : X → Y) (selected : Content → Y)
      → (IsTrue (state g b).is_open
      → IfOk r (λ x. InStore (state g a).now (λ layout. (c : Content) → AreWellNumbered c
      → Stands layout (state g a).now.trees c → shown x ≡ selected c)))
      → Finds (meaning_of g) shown r a b selected
  finds (Ok x) shown selected found live = λ c sound st. found live st.0 st.1 c sound st.2
  finds (Err e) shown selected found live = tt

-- ---- changes

pub written_as : {X E : Type 0} (r : Result X E) (old new : State) (P Q : Database → Database → Type 0)
    → ((d e : Database) → P d e → Q d e) → IsWritten r old new P → IsWritten r old new Q
written_as (Ok x) old new P Q turns h = record {
  was_open = h.was_open;
  was_clean = h.was_clean;
  stays_open = h.stays_open;
  settled = h.settled;
  limit = h.limit;
  ok = λ live. turns _ _ (h.ok live);
  err = tt;
  left_ok = λ clean live db may. let it = h.left_ok clean live db may in (it.0, it.1, turns _ _ it.2);
  left_err = tt;
}
written_as (Err e) old new P Q turns h = record {
  was_open = h.was_open;
  was_clean = h.was_clean;
  stays_open = tt;
  settled = h.settled;
  limit = h.limit;
  ok = tt;
  err = h.err;
  left_ok = tt;
  left_err = λ clean live db may.
      elim (h.left_err clean live db may) [ inl was ↦ inl was | inr it ↦ inr (it.0, it.1, turns _ _ it.2) ];
}

-- the tables are the store's after a change that keeps the schema
pub serves_written : {X E : Type 0} (r : Result X E) (old new : State) (Change : Layout → Database → Database → Type 0)
    → ServesStore old → ((layout : Layout) (d e : Database) → Change layout d e → e.schema ≡ schema_of layout)
    → IsWritten r old new (UnderStore Change) → ServesStore new
serves_written (Ok x) old new Change serves keeps h live =
    let was = serves (h.was_open live) in
    let made = h.ok live was.schema.0 was.schema.1 in
    record { ready = h.settled live; schema = (was.schema.0, keeps was.schema.0 _ _ made.1); sound = made.0 was.sound }
serves_written (Err e) old new Change serves keeps h live =
    let was = serves (h.was_open live) in
    record {
      ready = h.settled live;
      schema =
          (was.schema.0, ap (λ (d : Database). d.schema) (h.err live) ∙ was.schema.1);
      sound =
          subst IsDatabase (sym (h.err live)) was.sound;
    }

module _ {S : Type 0} (g : Ghosts S) (a b : Held S) (Change : Layout → Database → Database → Type 0) (change : Content
    → Content) (serves : ServesStore (state g a)) (keeps : (layout : Layout) (d e : Database) → Change layout d e
    → e.schema ≡ schema_of layout)
    (turns : (layout : Layout) (d e : Database) → Change layout d e → (c : Content) → AreWellNumbered c
    → Stands layout d.trees c → Stands layout e.trees (change c)) where
  -- a database with the change is a store's, with the changed content
  made : (live : IsTrue (state g a).is_open) (c : Content) → AreWellNumbered c
      → (st : stands g a c) (after : Database) (db : Trees) → after.trees ≡ db → StaysSound (state g a).now after
      × Change st.0 (state g a).now after → IsStoreOf db (change c)
  made live c sound st after db trees it = store_of st.0 after db (keeps st.0 _ _ it.1) trees (it.0 (serves live).sound)
      (change c) (turns st.0 _ _ it.1 c sound st.2)

  pub changes_sound : {X : Type 0} (r : Result X StoreFault) → IsWritten r (state g a) (state g b) (UnderStore Change)
      → Changes may_fail (meaning_of g) r a b change
  changes_sound (Ok x) h = record {
    fault = tt;
    was_open = h.was_open;
    was_clean = h.was_clean;
    stays_open = h.stays_open;
    ok = λ live c sound st. let it = (h.ok live st.0 st.1).1 in (
      st.0,
      keeps st.0 _ _ it,
      turns st.0 _ _ it c sound st.2,
      serves_written (Ok x) (state g a) (state g b) Change serves keeps h,
    );
    err = tt;
    settled = λ clean live c d sound st clean' db may. let it = h.left_ok clean live db may in
        inl (made live c sound st it.0 db it.1 (it.2 st.0 st.1));
    unsettled = tt;
  }
  changes_sound (Err e) h = record {
    fault = tt;
    was_open = h.was_open;
    was_clean = h.was_clean;
    stays_open = tt;
    ok = tt;
    err = λ live c st. (
      st.0,
      ap (λ (d : Database). d.schema) (h.err live)
          ∙ st.1,
      subst (λ (d : Database). Stands st.0 d.trees c) (sym (h.err live)) st.2,
      serves_written (Err e) (state g a) (state g b) Change serves keeps h,
    );
    settled = tt;
    unsettled = λ clean live c sound st clean' db may. elim (h.left_err clean live db may) [
      | inl was ↦ inl (store_of st.0 (state g a).now db st.1 (sym was) (serves live).sound c st.2)
      | inr it ↦ inr (made live c sound st it.0 db it.1 (it.2 st.0 st.1))
    ];
  }

-- of whichever content
module _ {S : Type 0} (g : Ghosts S) (a b : Held S) (Change : Layout → Database → Database → Type 0) (change : Content
    → Content) (serves : ServesStore (state g a)) (keeps : (layout : Layout) (d e : Database) → Change layout d e
    → e.schema ≡ schema_of layout)
    (turns : (layout : Layout) (d e : Database) → Change layout d e → (c : Content) → Stands layout d.trees c
    → Stands layout e.trees (change c)) where
  pub changes : {X : Type 0} (r : Result X StoreFault) → IsWritten r (state g a) (state g b) (UnderStore Change)
      → Changes may_fail (meaning_of g) r a b change
  changes r h = changes_sound g a b Change change serves keeps (λ layout d e h c sound st. turns layout d e h c st) r h

-- the tables are the store's after the first of two parts
both_under : (First Second : Layout → Database → Database → Type 0)
    → ((layout : Layout) (d e : Database) → First layout d e → e.schema ≡ schema_of layout)
    → (d e : Database) → Both (UnderStore First) (UnderStore Second) d e
    → UnderStore (λ layout. Both (First layout) (Second layout)) d e
both_under First Second keeps d e h layout schema =
    let first = h.1 layout schema in
    let second = h.2 layout (keeps layout d h.0 first.1) in
    (λ sound. second.0 (first.0 sound), (h.0, first.1, second.1))

module _ {S : Type 0} (g : Ghosts S) (a b : Held S) (First Second : Layout → Database → Database → Type 0)
    (change : Content → Content) (serves : ServesStore (state g a))
    (keeps_first : (layout : Layout) (d e : Database) → First layout d e → e.schema ≡ schema_of layout)
    (keeps : (layout : Layout) (d e : Database) → Second layout d e → e.schema ≡ schema_of layout)
    (turns : (layout : Layout) (d e : Database) → Both (First layout) (Second layout) d e → (c : Content)
    → AreWellNumbered c → Stands layout d.trees c → Stands layout e.trees (change c)) where
  pub changes_both : {X : Type 0} (r : Result X StoreFault)
      → IsWritten r (state g a) (state g b) (Both (UnderStore First) (UnderStore Second))
      → Changes may_fail (meaning_of g) r a b change
  changes_both r h = changes_sound g a b (λ layout. Both (First layout) (Second layout)) change serves
      (λ layout d e h. keeps layout _ _ h.2) turns r
      (written_as r (state g a) (state g b) _ _ (both_under First Second keeps_first) h)

-- ---- a read before a change

module _ {S : Type 0} (g : Ghosts S) (a m b : Held S) (change : Content → Content) where
  pub read_then : {X Y : Type 0} (x : X) (r : Result Y StoreFault) → Reads may_fail (meaning_of g) (Ok x) a m
      → Changes may_fail (meaning_of g) r m b change
      → Changes may_fail (meaning_of g) r a b change
  read_then x (Ok y) prior h = record {
    fault = tt;
    was_open = λ live. prior.was_open (h.was_open live);
    was_clean = λ clean. prior.was_clean (h.was_clean clean);
    stays_open = λ clean live. h.stays_open clean (prior.stays_open (h.was_clean clean)).1;
    ok = λ live c sound st. h.ok live c sound (prior.same (h.was_open live) c st);
    err = tt;
    settled = λ clean live c d sound st. let now = (prior.stays_open (h.was_clean clean)).1 in
        h.settled clean now c d sound (prior.same now c st);
    unsettled = tt;
  }
  read_then x (Err e) prior h = record {
    fault = h.fault;
    was_open = λ live. prior.was_open (h.was_open live);
    was_clean = λ clean. prior.was_clean (h.was_clean clean);
    stays_open = tt;
    ok = tt;
    err = λ live c st. h.err live c (prior.same (h.was_open live) c st);
    settled = tt;
    unsettled = λ clean live c sound st. let now = (prior.stays_open (h.was_clean clean)).1 in
        h.unsettled clean now c sound (prior.same now c st);
  }

  -- nothing is left to change
  pub read_alone : {X Y : Type 0} (x : X) (y : Y) → Reads may_fail (meaning_of g) (Ok x) a m
      → (IsTrue (state g m).is_open → (c : Content) → AreWellNumbered c → stands g a c → change c ≡ c)
      → Changes {E = StoreFault} may_fail (meaning_of g) (Ok y) a m change
  read_alone x y prior same = record {
    fault = tt;
    was_open = prior.was_open;
    was_clean = prior.was_clean;
    stays_open = λ clean live. (prior.stays_open clean).1;
    ok = λ live c sound st. subst (stands g m) (sym (same live c sound st)) (prior.same live c st);
    err = tt;
    settled = λ clean live c d sound st. subst (λ x. leaves g m x d) (sym (same (prior.stays_open clean).1 c sound st))
        (prior.left clean live c d st);
    unsettled = tt;
  }

-- ---- one table after another

pub accounts_altered : (change : List AccountRow → List AccountRow) (layout : Layout) (d e : Database)
    → Alters layout account_tree HoldsAccounts change d e → (c : Content) → Stands layout d.trees c
    → Stands layout e.trees (record c { accounts = change c.accounts })
accounts_altered change layout d e h c st = record {
  version = ap (list_any (is_version_row 3)) (h.others.0 (apart 0 2 refl)) ∙ st.version;
  accounts = h.kept c.accounts st.accounts;
  sessions = subst (λ rows. HoldsSessions rows c.sessions) (sym (h.others.1.1.0 (apart 3 2 refl))) st.sessions;
  sets = subst (λ rows. HoldsSets rows c.sets)
      (sym (sets_spared layout 2 d.trees e.trees (set_apart layout 2 refl refl) h.others)) st.sets;
  no_old_sets = old_spared layout 2 d.trees e.trees (old_apart layout 2 refl) h.others st.no_old_sets;
  objects = subst (λ rows. HoldsObjects rows c.objects) (sym (h.others.1.1.1.1.0 (apart 5 2 refl))) st.objects;
  object_numbers = st.object_numbers;
  requests = subst (λ rows. HoldsRequests rows c.requests) (sym (h.others.1.1.1.1.1.0 (apart 7 2 refl))) st.requests;
  reviewers = subst (λ rows. HoldsReviewers rows c.reviewers)
      (sym (reviewers_spared layout 2 d.trees e.trees (reviewer_apart layout 2 refl refl) h.others)) st.reviewers;
}

pub sessions_altered : (change : List SessionRow → List SessionRow) (layout : Layout) (d e : Database)
    → Alters layout session_tree HoldsSessions change d e → (c : Content) → Stands layout d.trees c
    → Stands layout e.trees (record c { sessions = change c.sessions })
sessions_altered change layout d e h c st = record {
  version = ap (list_any (is_version_row 3)) (h.others.0 (apart 0 3 refl)) ∙ st.version;
  accounts = subst (λ rows. HoldsAccounts rows c.accounts) (sym (h.others.1.0 (apart 2 3 refl))) st.accounts;
  sessions = h.kept c.sessions st.sessions;
  sets = subst (λ rows. HoldsSets rows c.sets)
      (sym (sets_spared layout 3 d.trees e.trees (set_apart layout 3 refl refl) h.others)) st.sets;
  no_old_sets = old_spared layout 3 d.trees e.trees (old_apart layout 3 refl) h.others st.no_old_sets;
  objects = subst (λ rows. HoldsObjects rows c.objects) (sym (h.others.1.1.1.1.0 (apart 5 3 refl))) st.objects;
  object_numbers = st.object_numbers;
  requests = subst (λ rows. HoldsRequests rows c.requests) (sym (h.others.1.1.1.1.1.0 (apart 7 3 refl))) st.requests;
  reviewers = subst (λ rows. HoldsReviewers rows c.reviewers)
      (sym (reviewers_spared layout 3 d.trees e.trees (reviewer_apart layout 3 refl refl) h.others)) st.reviewers;
}

pub sets_altered : (change : List SetRow → List SetRow) (layout : Layout) (d e : Database)
    → Alters layout (set_tree layout) HoldsSets change d e → (c : Content) → Stands layout d.trees c
    → Stands layout e.trees (record c { sets = change c.sets })
sets_altered change layout d e h c st = record {
  version = ap (list_any (is_version_row 3)) (h.others.0 (λ e. set_apart layout 0 refl refl (sym e))) ∙ st.version;
  accounts = subst (λ rows. HoldsAccounts rows c.accounts)
      (sym (h.others.1.0 (λ e. set_apart layout 2 refl refl (sym e)))) st.accounts;
  sessions = subst (λ rows. HoldsSessions rows c.sessions)
      (sym (h.others.1.1.0 (λ e. set_apart layout 3 refl refl (sym e)))) st.sessions;
  sets = h.kept c.sets st.sets;
  no_old_sets = old_spared layout (set_tree layout) d.trees e.trees (old_is_no_set layout) h.others st.no_old_sets;
  objects = subst (λ rows. HoldsObjects rows c.objects)
      (sym (h.others.1.1.1.1.0 (λ e. set_apart layout 5 refl refl (sym e)))) st.objects;
  object_numbers = st.object_numbers;
  requests = subst (λ rows. HoldsRequests rows c.requests)
      (sym (h.others.1.1.1.1.1.0 (λ e. set_apart layout 7 refl refl (sym e)))) st.requests;
  reviewers = subst (λ rows. HoldsReviewers rows c.reviewers)
      (sym (reviewers_spared layout (set_tree layout) d.trees e.trees
      (λ e. set_is_no_reviewer layout (sym e)) h.others)) st.reviewers;
}

pub requests_altered : (change : List RequestRow → List RequestRow) (layout : Layout) (d e : Database)
    → Alters layout request_tree HoldsRequests change d e → (c : Content) → Stands layout d.trees c
    → Stands layout e.trees (record c { requests = change c.requests })
requests_altered change layout d e h c st = record {
  version = ap (list_any (is_version_row 3)) (h.others.0 (apart 0 7 refl)) ∙ st.version;
  accounts = subst (λ rows. HoldsAccounts rows c.accounts) (sym (h.others.1.0 (apart 2 7 refl))) st.accounts;
  sessions = subst (λ rows. HoldsSessions rows c.sessions) (sym (h.others.1.1.0 (apart 3 7 refl))) st.sessions;
  sets = subst (λ rows. HoldsSets rows c.sets)
      (sym (sets_spared layout 7 d.trees e.trees (set_apart layout 7 refl refl) h.others)) st.sets;
  no_old_sets = old_spared layout 7 d.trees e.trees (old_apart layout 7 refl) h.others st.no_old_sets;
  objects = subst (λ rows. HoldsObjects rows c.objects) (sym (h.others.1.1.1.1.0 (apart 5 7 refl))) st.objects;
  object_numbers = st.object_numbers;
  requests = h.kept c.requests st.requests;
  reviewers = subst (λ rows. HoldsReviewers rows c.reviewers)
      (sym (reviewers_spared layout 7 d.trees e.trees (reviewer_apart layout 7 refl refl) h.others)) st.reviewers;
}

pub reviewers_altered : (change : List ReviewerRow → List ReviewerRow) (layout : Layout) (d e : Database)
    → Alters layout (reviewer_tree layout) HoldsReviewers change d e → (c : Content) → Stands layout d.trees c
    → Stands layout e.trees (record c { reviewers = change c.reviewers })
reviewers_altered change layout d e h c st = record {
  version = ap (list_any (is_version_row 3)) (h.others.0 (λ e. reviewer_apart layout 0 refl refl (sym e))) ∙ st.version;
  accounts = subst (λ rows. HoldsAccounts rows c.accounts)
      (sym (h.others.1.0 (λ e. reviewer_apart layout 2 refl refl (sym e)))) st.accounts;
  sessions = subst (λ rows. HoldsSessions rows c.sessions)
      (sym (h.others.1.1.0 (λ e. reviewer_apart layout 3 refl refl (sym e)))) st.sessions;
  sets = subst (λ rows. HoldsSets rows c.sets)
      (sym (sets_spared layout (reviewer_tree layout) d.trees e.trees (set_is_no_reviewer layout) h.others)) st.sets;
  no_old_sets = old_spared layout (reviewer_tree layout) d.trees e.trees
      (old_is_no_reviewer layout) h.others st.no_old_sets;
  objects = subst (λ rows. HoldsObjects rows c.objects)
      (sym (h.others.1.1.1.1.0 (λ e. reviewer_apart layout 5 refl refl (sym e)))) st.objects;
  object_numbers = st.object_numbers;
  requests = subst (λ rows. HoldsRequests rows c.requests)
      (sym (h.others.1.1.1.1.1.0 (λ e. reviewer_apart layout 7 refl refl (sym e)))) st.requests;
  reviewers = h.kept c.reviewers st.reviewers;
}

pub reviewer_added : (r : ReviewerRow) (layout : Layout) (d e : Database)
    → Alters layout (reviewer_tree layout) HoldsReviewers (with_reviewer r) d e → (c : Content)
    → Stands layout d.trees c → Stands layout e.trees (after (change.AddReviewer r) c)
unfolding after
reviewer_added r layout d e h c st = reviewers_altered (with_reviewer r) layout d e h c st

pub reviewer_removed : (r : ReviewerRow) (layout : Layout) (d e : Database)
    → Alters layout (reviewer_tree layout) HoldsReviewers (filter (λ row. not (is_pair r row))) d e → (c : Content)
    → Stands layout d.trees c → Stands layout e.trees (after (change.RemoveReviewer r) c)
unfolding after
reviewer_removed r layout d e h c st = reviewers_altered (filter (λ row. not (is_pair r row))) layout d e h c st

fit_registered : (n number : ℕ) → number < 2 ^ 63 → (requests : List RequestRow)
    → AllByRecursion (λ (r : RequestRow). BodyReads r.body) requests
    → FitColumns (approved_objects (request_at n requests) number)
fit_registered n number low [] all = tt
fit_registered n number low (r ∷ requests) all = elim (cases_Bool (r.number == n)) [
  | inl same ↦ rw same (go r.account r.body all.0)
  | inr apart ↦ rw apart (fit_registered n number low requests all.1)
]
  where
    go : (account : ℕ) (b : RequestBody) → BodyReads b → FitColumns (new_objects account b number)
    go account (body.Registration o) reads = ((low, reads), tt)
    go account (body.Certification c) reads = tt

registered : (n number : ℕ) (layout : Layout) (d e : Database) → Registers layout n number d e → (c : Content)
    → AreWellNumbered c → Stands layout d.trees c
    → Stands layout e.trees (record c { objects = c.objects ++ approved_objects (request_at n c.requests) number })
registered n number layout d e h c sound st = record {
  version = ap (list_any (is_version_row 3)) (h.others.0 (apart 0 5 refl)) ∙ st.version;
  accounts = subst (λ rows. HoldsAccounts rows c.accounts) (sym (h.others.1.0 (apart 2 5 refl))) st.accounts;
  sessions = subst (λ rows. HoldsSessions rows c.sessions) (sym (h.others.1.1.0 (apart 3 5 refl))) st.sessions;
  sets = subst (λ rows. HoldsSets rows c.sets)
      (sym (sets_spared layout 5 d.trees e.trees (set_apart layout 5 refl refl) h.others)) st.sets;
  no_old_sets = old_spared layout 5 d.trees e.trees (old_apart layout 5 refl) h.others st.no_old_sets;
  objects = h.kept c.requests c.objects (kinds_of c sound) st.requests st.objects;
  object_numbers = all-append IsKeepable c.objects _ st.object_numbers
      (fit_registered n number h.fits c.requests st.requests.texts);
  requests = subst (λ rows. HoldsRequests rows c.requests) (sym (h.others.1.1.1.1.1.0 (apart 7 5 refl))) st.requests;
  reviewers = subst (λ rows. HoldsReviewers rows c.reviewers)
      (sym (reviewers_spared layout 5 d.trees e.trees (reviewer_apart layout 5 refl refl) h.others)) st.reviewers;
}

pub approved : (x : Approval) (layout : Layout) (d e : Database)
    → Both (Registers layout x.request x.approved)
    (Alters layout request_tree HoldsRequests
    (changed (is_request x.request) (with_status (status.Approved x.approved)))) d e
    → (c : Content) → AreWellNumbered c → Stands layout d.trees c
    → Stands layout e.trees (after_order (order.Approve x) c)
unfolding after_order
approved x layout d e h c sound st =
    requests_altered (changed (is_request x.request) (with_status (status.Approved x.approved))) layout h.0 e h.2 _
    (registered x.request x.approved layout d h.0 h.1 c sound st)

-- one who is there already
pub reviewer_there : (r : ReviewerRow) (c : Content) → is_reviewer r.session r.account c.reviewers ≡ true
    → after (change.AddReviewer r) c ≡ c
unfolding after
reviewer_there r c there =
    ap (λ rows. record c { reviewers = rows }) (ap (λ b. if b then c.reviewers else c.reviewers ++ r ∷ []) there)

-- ---- the beginning

pub kept_none : {A : Type 0} (key : A → ℕ) (stored : A → Row) (rows : List Row) → rows ≡ [] → AreKept key stored rows []
kept_none key stored rows none =
    record { ordered = []; rows_are = none; rising = tt; fits = tt; same = IsPermutation-refl [] }

-- what all the statements that make the store do, one after the other
abbrev pub MakesAll : Database → Database → Type 0
MakesAll = Both (Under (before table.Meta) (Makes table.Meta))
    (Both (Under (before table.Account) (Makes table.Account))
    (Both (Under (before table.Session) (Makes table.Session))
    (Both (Under (before table.Set) (Makes table.Set))
    (Both (Under (before table.Object) (Makes table.Object))
    (Both (Under (before table.Request) (Makes table.Request))
    (Both (Under (before table.Reviewer) (Makes table.Reviewer)) (Under (schema_of Created) (WritesVersion 3))))))))

pub begins : (old new : Database) → MakesAll old new → Under no_schema Begins old new
begins old new h start =
    let d1 = h.1 start in
    let m1 = d1.1 in
    let d2 = h.2.1 m1.schema in
    let m2 = d2.1 in
    let d3 = h.2.2.1 m2.schema in
    let m3 = d3.1 in
    let d4 = h.2.2.2.1 m3.schema in
    let m4 = d4.1 in
    let d5 = h.2.2.2.2.1 m4.schema in
    let m5 = d5.1 in
    let d6 = h.2.2.2.2.2.1 m5.schema in
    let m6 = d6.1 in
    let d7 = h.2.2.2.2.2.2.1 m6.schema in
    let m7 = d7.1 in
    let d8 = h.2.2.2.2.2.2.2 (m7.schema ∙ whole_schema) in
    let v = d8.1 in
    let meta = m7.others.0 ∙ m6.others.0 ∙ m5.others.0 ∙ m4.others.0 ∙ m3.others.0 ∙ m2.others.0 ∙ m1.empty in
    let accounts = v.others.1.0 (apart 2 0 refl) ∙ m7.others.1.0 ∙ m6.others.1.0 ∙ m5.others.1.0 ∙ m4.others.1.0
    ∙ m3.others.1.0 ∙ m2.empty in
    let sessions = v.others.1.1.0 (apart 3 0 refl) ∙ m7.others.1.1.0 ∙ m6.others.1.1.0 ∙ m5.others.1.1.0
    ∙ m4.others.1.1.0 ∙ m3.empty in
    let sets = v.others.1.1.1.0 (apart 4 0 refl) ∙ m7.others.1.1.1.0 ∙ m6.others.1.1.1.0 ∙ m5.others.1.1.1.0
    ∙ m4.empty in
    let objects = v.others.1.1.1.1.0 (apart 5 0 refl) ∙ m7.others.1.1.1.1.0 ∙ m6.others.1.1.1.1.0 ∙ m5.empty in
    let requests = v.others.1.1.1.1.1.0 (apart 7 0 refl) ∙ m7.others.1.1.1.1.1.0 ∙ m6.empty in
    let reviewers = v.others.1.1.1.1.1.1.0 (apart 8 0 refl) ∙ m7.empty in (
      λ sound. d8.0 (d7.0 (d6.0 (d5.0 (d4.0 (d3.0 (d2.0 (d1.0 sound))))))),
      record {
        schema = v.schema;
        stands = record {
          version = v.written meta;
          accounts = kept_none _ _ _ accounts;
          sessions = kept_none _ _ _ sessions;
          sets = record { columns = []; kept = kept_none _ _ _ sets; same = tt };
          no_old_sets = tt;
          objects = record { entries = []; rows_are = objects; rising = tt; same = IsPermutation-refl [] };
          object_numbers = tt;
          requests = record { kept = kept_none _ _ _ requests; texts = tt };
          reviewers = record {
            kept =
                record { entries = []; rows_are = reviewers; rising = tt; same = IsPermutation-refl [] };
            fits = tt;
          };
        };
      },
    )

-- the same of those that make the tables as they lie where those of the first schema were there before them
abbrev pub MakesMigrated : Database → Database → Type 0
MakesMigrated = Both (Under (before table.Meta) (Makes table.Meta))
    (Both (Under (before table.Account) (Makes table.Account))
    (Both (Under (before table.Session) (Makes table.Session))
    (Both (Under (before table.OldSet) (Makes table.OldSet))
    (Both (Under (before table.LaterObject) (Makes table.LaterObject))
    (Both (Under (before table.LaterRequest) (Makes table.LaterRequest))
    (Both (Under (before table.LaterSet) (Makes table.LaterSet))
    (Under (before table.LaterReviewer) (Makes table.LaterReviewer))))))))

pub becomes_migrated : (old new : Database) → MakesMigrated old new → Under no_schema BecomesMigrated old new
becomes_migrated old new h start =
    let d1 = h.1 start in
    let d2 = h.2.1 d1.1.schema in
    let d3 = h.2.2.1 d2.1.schema in
    let d4 = h.2.2.2.1 d3.1.schema in
    let d5 = h.2.2.2.2.1 d4.1.schema in
    let d6 = h.2.2.2.2.2.1 d5.1.schema in
    let d7 = h.2.2.2.2.2.2.1 d6.1.schema in
    let d8 = h.2.2.2.2.2.2.2 d7.1.schema in
    (λ sound. d8.0 (d7.0 (d6.0 (d5.0 (d4.0 (d3.0 (d2.0 (d1.0 sound))))))), d8.1.schema ∙ migrated_schema)
