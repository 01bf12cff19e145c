-- New and decided requests keep their account's rows well numbered.
use Rattle.std.proofs.Common.{◌≡◌, ℕ, ◌+◌, ◌≤◌, Bool, true, false, List, [], ◌∷◌, ◌++◌, length, refl, ap, ◌∙◌, arith}
use Rattle.std.proofs.Common.{length-append}
use Rattle.std.specs.Prelude.{filter, is_some, ◌==◌, ◌&&◌}
use Rattle.std.specs.List.{list_all, list_any}
use Rattle.std.proofs.lemmas.Bool.Decides.{nat_tests}
use Rattle.std.proofs.lemmas.List.{append-nil}
use Rattle.std.proofs.lemmas.List.Elements.{filter-append}
use Rattle.acvp_registry.specs.Object.{KeptObject, object_vendor}
use Rattle.acvp_registry.specs.declared.kind.Kind.{Kind}
use Rattle.acvp_registry.specs.declared.kind.Kind.TheVariants.{Vendor, Module, Environment, Certification}
use Rattle.acvp_tables.specs.Content.{object_at, is_kind}
use Rattle.acvp_tables.specs.State.{State, SessionRecord, IsNumbered, owner_of, first_of_account, objects_in}
use Rattle.acvp_tables.specs.State.{has_registered, has_registered_as, has_vendor, has_given, has_all_given}
use Rattle.acvp_tables.specs.State.{given_number, is_account_there, is_sound_object, is_sound_body, IsWellNumberedFor}
use Rattle.acvp_tables.specs.Changes.{changed, is_request, with_status, new_request, new_objects}
use Rattle.acvp_tables.specs.StateChanges.{after_state, after_order_state}
use Rattle.acvp_tables.specs.Counted.{one_if}
use Rattle.acvp_tables.specs.Next.{IsNextNumber, IsNextFor, IsNextOrderFor, IsNextApproved, IsWaiting}
use Rattle.acvp_tables.specs.declared.rows.ObjectRow.{ObjectRow}
use Rattle.acvp_tables.specs.declared.rows.RequestRow.{RequestRow}
use Rattle.acvp_tables.specs.declared.rows.RequestBody.{RequestBody}
use Rattle.acvp_tables.specs.declared.rows.RequestBody.TheVariants as body
use Rattle.acvp_tables.specs.declared.rows.RequestStatus.{RequestStatus}
use Rattle.acvp_tables.specs.declared.rows.RequestStatus.TheVariants as status
use Rattle.acvp_tables.specs.declared.change.Approval.{Approval}
use Rattle.acvp_tables.specs.declared.change.Change.TheVariants as change
use Rattle.acvp_tables.specs.declared.change.NewRequest.{NewRequest}
use Rattle.acvp_tables.specs.declared.change.OrderChange.TheVariants as order
use Rattle.acvp_tables.proofs.CountedLemmas.{found_all, all_append, one_changed}
use Rattle.acvp_tables.proofs.Numbers.{same_kind, once_numbered}
use Rattle.acvp_tables.proofs.KeptLemmas.{any_before, any_changed, any_kept, found_before, found_last, length-changed}
use Rattle.acvp_tables.proofs.KeptLemmas.{list_all-changed, list_all_weaker, list_any-changed, more_pass}
use Rattle.acvp_tables.proofs.KeptLemmas.{numbered-changed, numbered-push, of_all_weaker, rest_kept, some_found}
use Rattle.acvp_tables.proofs.KeptRows.{is_there, is_for, is_certified, is_registered}

-- ---- what is named is there still

-- whatever object or session was there is there then
abbrev pub KeepsObjects : List ObjectRow → List ObjectRow → Type 0
KeepsObjects old new = (kind : Kind) (n : ℕ) → is_some (object_at kind n old) ≡ true
    → is_some (object_at kind n new) ≡ true

abbrev pub KeepsSessions : List SessionRecord → List SessionRecord → Type 0
KeepsSessions old new = (n : ℕ) → is_there old n ≡ true → is_there new n ≡ true

object_still : (old new : List ObjectRow) → KeepsObjects old new → (object : KeptObject)
    → is_sound_object old object ≡ true
    → is_sound_object new object ≡ true
object_still old new stay object e =
    let vendor : has_vendor old object ≡ true = grind (arith, nat_tests, e) in
    let still : has_vendor new object ≡ true =
    of_all_weaker (λ n. is_some (object_at Vendor n old)) (λ n. is_some (object_at Vendor n new))
    (λ n e. stay Vendor n e) (object_vendor object) vendor in
    grind (arith, nat_tests, e, still)

body_still : (old new : State) → KeepsObjects old.objects new.objects → KeepsSessions old.sessions new.sessions
    → (it : RequestBody)
    → is_sound_body old it ≡ true → is_sound_body new it ≡ true
body_still old new stay remain (body.Registration object) e = object_still old.objects new.objects stay object e
body_still old new stay remain (body.Certification c) e =
    grind (arith, nat_tests, e, stay Module c.module, stay Environment c.environment, remain c.session)

pub asked_still : (old new : State) → KeepsObjects old.objects new.objects → KeepsSessions old.sessions new.sessions
    → (rows : List RequestRow)
    → list_all (λ row. is_sound_body old row.body) rows ≡ true
    → list_all (λ row. is_sound_body new row.body) rows ≡ true
asked_still old new stay remain rows e =
    list_all_weaker (λ (row : RequestRow). is_sound_body old row.body) (λ row. is_sound_body new row.body)
    (λ row e. body_still old new stay remain row.body e) rows e

given_still : (old new : List ObjectRow) → KeepsObjects old new → (it : RequestBody) (n : ℕ) → has_given old it n ≡ true
    → has_given new it n ≡ true
given_still old new stay (body.Registration object) n e = stay object.kind n e
given_still old new stay (body.Certification c) n e = e

all_given_still : (old new : List ObjectRow) → KeepsObjects old new → (rows : List RequestRow)
    → list_all (has_all_given old) rows ≡ true
    → list_all (has_all_given new) rows ≡ true
all_given_still old new stay rows e = list_all_weaker (has_all_given old) (has_all_given new)
    (λ row e. of_all_weaker (has_given old row.body) (has_given new row.body)
    (λ n e. given_still old new stay row.body n e) (given_number row.status) e) rows e

-- where requests that are for a session's certification still are
still_certified : (old new : List RequestRow) (sessions : List SessionRecord)
    → ((row : SessionRecord) (n : ℕ) → list_any (is_for row n) old ≡ true → list_any (is_for row n) new ≡ true)
    → list_all (is_certified old) sessions ≡ true → list_all (is_certified new) sessions ≡ true
still_certified old new sessions gives e = list_all_weaker (is_certified old) (is_certified new)
    (λ row e. of_all_weaker (λ n. list_any (is_for row n) old) (λ n. list_any (is_for row n) new)
    (λ n e. gives row n e) row.last_request e) sessions e

-- ---- a request is new

pub well_asked : (u : ℕ) (row : RequestRow) (mine : State) → is_account_there u mine ≡ true
    → IsNextNumber u (length mine.requests) row.number
    → is_sound_body mine row.body ≡ true → has_all_given mine.objects row ≡ true → IsWellNumberedFor u mine
    → IsWellNumberedFor u (record mine { requests = mine.requests ++ row ∷ [] })
well_asked u row mine there next sound given well = record {
  once = well.once;
  accounts = well.accounts;
  there = λ e. there;
  sessions = well.sessions;
  few_sessions = well.few_sessions;
  requests = numbered-push (λ (row : RequestRow). row.number)
      (first_of_account u) mine.requests row well.requests next.0;
  few_requests = omega (arith, next.1, length-append mine.requests (row ∷ []));
  objects = well.objects;
  asked_for = λ kind. omega (arith, well.asked_for kind, more_pass (has_registered kind) mine.requests (row ∷ []));
  registered = list_all_weaker (is_registered mine.requests) (is_registered (mine.requests ++ row ∷ []))
      (λ object e. any_before (has_registered_as object) mine.requests (row ∷ []) e) mine.objects well.registered;
  given = all_append (has_all_given mine.objects) mine.requests (row ∷ []) well.given (rw given refl);
  sets = well.sets;
  few_sets = well.few_sets;
  some_sets = well.some_sets;
  set_sessions = well.set_sessions;
  certified = still_certified mine.requests (mine.requests ++ row ∷ []) mine.sessions
      (λ session n e. any_before (is_for session n) mine.requests (row ∷ []) e) well.certified;
  asked = all_append (λ (request : RequestRow). is_sound_body mine request.body) mine.requests (row ∷ []) well.asked
      (rw sound refl);
  kept = well.kept;
  created = well.created;
  reviewed = well.reviewed;
  reviewers = well.reviewers;
  few_reviewers = well.few_reviewers;
  pairs_once = well.pairs_once;
}

pub well_requested : (r : NewRequest) (mine : State) → IsWellNumberedFor r.account mine
    → IsNextFor mine (change.NewRequest r)
    → IsWellNumberedFor r.account (after_state (change.NewRequest r) mine)
unfolding after_state
well_requested r mine well next = well_asked r.account (new_request r) mine next.0 next.1 next.2 refl well

-- ---- a request is decided

-- one that waits registers nothing
pub none_registered : (kind : Kind) (row : RequestRow) → row.status ≡ status.Initial → has_registered kind row ≡ false
none_registered kind row initial = rw initial (grind (arith, nat_tests))

no_object_of : (object : ObjectRow) (row : RequestRow) → row.status ≡ status.Initial
    → has_registered_as object row ≡ false
no_object_of object row initial = rw initial (grind (arith, nat_tests))

-- it has this status then
abbrev decided : ℕ → RequestStatus → State → List RequestRow
decided n s mine = changed (is_request n) (with_status s) mine.requests

module _ (u n : ℕ) (s : RequestStatus) (mine : State) (well : IsWellNumberedFor u mine)
    (waiting : IsWaiting n mine) where
  once : length (filter (is_request n) mine.requests) ≤ 1
  once = once_numbered (λ (row : RequestRow). row.number) n (first_of_account u) mine.requests well.requests

  -- its account is there
  there : is_account_there u mine ≡ true
  there = well.there (grind (arith, nat_tests, some_found (is_request n) mine.requests waiting.row waiting.there))

  -- what is there stays registered
  still_registered : list_all (is_registered (decided n s mine)) mine.objects ≡ true
  still_registered = list_all_weaker (is_registered mine.requests) (is_registered (decided n s mine))
      (λ object e. any_kept (has_registered_as object) (is_request n)
      (with_status s) mine.requests waiting.row once waiting.there
      (no_object_of object waiting.row waiting.initial) e) mine.objects well.registered

  -- one more registers an object of the kind, if this one does now
  one_registers : (kind : Kind) → length (filter (has_registered kind) (decided n s mine))
      ≡ length (filter (has_registered kind) mine.requests) + one_if (has_registered kind (with_status s waiting.row))
  one_registers kind =
      let count = rw (none_registered kind waiting.row waiting.initial)
      at (one_changed (has_registered kind) (is_request n)
      (with_status s) mine.requests waiting.row once waiting.there) in
      omega (arith, count)

  -- where the objects are these then
  well_decided : (objects : List ObjectRow) → KeepsObjects mine.objects objects
      → has_all_given objects (with_status s waiting.row) ≡ true
      → ((kind : Kind) → IsNumbered (λ row. row.number) (first_of_account u) (objects_in kind objects))
      → ((kind : Kind) → length (objects_in kind objects) ≤ length (filter (has_registered kind) (decided n s mine)))
      → list_all (is_registered (decided n s mine)) objects ≡ true
      → list_all (λ row. is_sound_object mine.objects row.object) objects ≡ true
      → IsWellNumberedFor u (record mine { requests = decided n s mine; objects = objects })
  well_decided objects stay given numbers asked registered kept = record {
    once = well.once;
    accounts = well.accounts;
    there = λ e. there;
    sessions = well.sessions;
    few_sessions = well.few_sessions;
    requests = numbered-changed (λ (row : RequestRow). row.number) (first_of_account u) (is_request n) (with_status s)
        (λ r. refl) mine.requests
        well.requests;
    few_requests = rw (length-changed (is_request n) (with_status s) mine.requests) well.few_requests;
    objects = numbers;
    asked_for = asked;
    registered = registered;
    given = rest_kept (has_all_given objects) (is_request n)
        (with_status s) mine.requests waiting.row once waiting.there given
        (all_given_still mine.objects objects stay mine.requests well.given);
    sets = well.sets;
    few_sets = well.few_sets;
    some_sets = well.some_sets;
    set_sessions = well.set_sessions;
    certified = still_certified mine.requests (decided n s mine) mine.sessions
        (λ session m e. list_any-changed (is_for session m) (is_request n) (with_status s) (λ r. refl) mine.requests
        ∙ e) well.certified;
    asked = list_all-changed (λ (row : RequestRow). is_sound_body (record mine { objects = objects }) row.body)
        (is_request n) (with_status s)
        (λ r. refl) mine.requests ∙ asked_still mine (record mine { objects = objects }) stay
        (λ n e. e) mine.requests well.asked;
    kept = list_all_weaker (λ (row : ObjectRow). is_sound_object mine.objects row.object)
        (λ row. is_sound_object objects row.object)
        (λ row e. object_still mine.objects objects stay row.object e) objects kept;
    created = well.created;
    reviewed = well.reviewed;
    reviewers = well.reviewers;
    few_reviewers = well.few_reviewers;
    pairs_once = well.pairs_once;
  }

  -- where no object is new
  well_settled : has_all_given mine.objects (with_status s waiting.row) ≡ true
      → IsWellNumberedFor u (record mine { requests = decided n s mine })
  well_settled given = well_decided mine.objects (λ kind m e. e) given well.objects
      (λ kind. omega (arith, well.asked_for kind, one_registers kind))
      still_registered well.kept

pub well_rejected : (u n : ℕ) (mine : State) → IsWellNumberedFor u mine → IsNextOrderFor mine (order.Reject n)
    → IsWellNumberedFor u (after_order_state (order.Reject n) mine)
unfolding after_order_state
well_rejected u n mine well next = well_settled u n status.Rejected mine well next refl

-- ---- an object is registered

is_kind_means : (a b : Kind) → is_kind a b ≡ true → a ≡ b
is_kind_means Vendor Vendor e = refl
is_kind_means Module Module e = refl
is_kind_means Environment Environment e = refl
is_kind_means Certification Certification e = refl
is_kind_means _ _ e = cc

-- it is one more of its kind
objects_count : (new : ObjectRow) (kind : Kind) (rows : List ObjectRow)
    → length (objects_in kind (rows ++ new ∷ [])) ≡ length (objects_in kind rows) + one_if
    (is_kind new.object.kind kind)
objects_count new kind [] = grind (arith, nat_tests)
objects_count new kind (r ∷ rows) = grind (arith, nat_tests, objects_count new kind rows)

-- and has its kind's next number
objects_numbered : (u : ℕ) (new : ObjectRow) (mine : State) (kind : Kind) (b : Bool) → is_kind new.object.kind kind ≡ b
    → IsWellNumberedFor u mine
    → new.number ≡ first_of_account u + length (objects_in new.object.kind mine.objects)
    → IsNumbered (λ row. row.number) (first_of_account u) (objects_in kind (mine.objects ++ new ∷ []))
objects_numbered u new mine kind true e well is =
    let next : new.number ≡ first_of_account u + length (objects_in kind mine.objects)
    = is ∙ ap (λ kind. first_of_account u + length (objects_in kind mine.objects))
    (is_kind_means new.object.kind kind e) in
    simp (filter-append, e) (numbered-push (λ (row : ObjectRow). row.number) (first_of_account u)
    (objects_in kind mine.objects) new
    (well.objects kind) next)
objects_numbered u new mine kind false e well is = simp (filter-append, e, append-nil) (well.objects kind)

-- by a request that waited, under its kind's next number
well_registered : (u n : ℕ) (new : ObjectRow) (mine : State) → IsWellNumberedFor u mine → (waiting : IsWaiting n mine)
    → waiting.row.body ≡ body.Registration new.object
    → new.number ≡ first_of_account u + length (objects_in new.object.kind mine.objects)
    → IsWellNumberedFor u (record mine {
      requests = decided n (status.Approved new.number) mine;
      objects =
          mine.objects ++ new ∷ [];
    })
well_registered u n new mine well waiting is next =
    well_decided u n s mine well waiting (mine.objects ++ new ∷ []) stay (rw is its)
    (λ kind. objects_numbered u new mine kind (is_kind new.object.kind kind) refl well next) asked
    (all_append (is_registered (decided n s mine)) mine.objects (new ∷ []) (still_registered u n s mine well waiting)
    (rw registered refl))
    (all_append (λ (row : ObjectRow). is_sound_object mine.objects row.object) mine.objects (new ∷ []) well.kept
    (rw sound refl))
  where
    s : RequestStatus
    s = status.Approved new.number

    stay : KeepsObjects mine.objects (mine.objects ++ new ∷ [])
    stay kind m e = found_before (λ (row : ObjectRow). is_kind row.object.kind kind && (row.number == m)) mine.objects
        (new ∷ []) e

    its : is_some (object_at new.object.kind new.number (mine.objects ++ new ∷ [])) ≡ true
    its = found_last (λ (row : ObjectRow). is_kind row.object.kind new.object.kind && (row.number == new.number))
        mine.objects new
        (grind (arith, nat_tests, same_kind new.object.kind))

    asked : (kind : Kind) → length (objects_in kind (mine.objects ++ new ∷ [])) ≤ length
        (filter (has_registered kind) (decided n s mine))
    asked kind =
        let one : has_registered kind (with_status s waiting.row) ≡ is_kind new.object.kind kind =
        rw is (grind (arith, nat_tests)) in
        let count = rw one at (one_registers u n s mine well waiting kind) in
        omega (arith, well.asked_for kind, objects_count new kind mine.objects, count)

    registered : is_registered (decided n s mine) new ≡ true
    registered = any_changed (has_registered_as new) (is_request n) (with_status s) mine.requests waiting.row
        (once u n s mine well waiting) waiting.there
        (no_object_of new waiting.row waiting.initial) (rw is (grind (arith, nat_tests, same_kind new.object.kind)))

    sound : is_sound_object mine.objects new.object ≡ true
    sound = rw is at (found_all (is_request n)
        (λ (row : RequestRow). is_sound_body mine row.body) mine.requests waiting.row waiting.there well.asked)

pub well_approved : (a : Approval) (mine : State) → IsWellNumberedFor (owner_of a.request) mine
    → IsNextOrderFor mine (order.Approve a)
    → IsWellNumberedFor (owner_of a.request) (after_order_state (order.Approve a) mine)
unfolding after_order_state
well_approved a mine well next = rw next.0.there (go next.0.row.body refl next.1)
  where
    go : (it : RequestBody) → next.0.row.body ≡ it → IsNextApproved (owner_of a.request) mine it a.approved
        → IsWellNumberedFor (owner_of a.request)
        (record mine {
          requests = decided a.request (status.Approved a.approved) mine;
          objects = mine.objects ++ new_objects next.0.row.account it a.approved;
        })
    go (body.Registration object) is approved = well_registered (owner_of a.request) a.request
        (record { number = a.approved; account = next.0.row.account; object = object }) mine well next.0 is approved
    go (body.Certification c) is approved = rw (append-nil mine.objects)
        (well_settled (owner_of a.request) a.request (status.Approved a.approved) mine well next.0
        (rw is (grind (arith, nat_tests, approved))))
