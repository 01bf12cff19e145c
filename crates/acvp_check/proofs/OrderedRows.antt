-- Kept records are kept in the order of their keys.
use Rattle.std.proofs.Common.{◌≡◌, ℕ, ◌≤◌, Bool, true, List, length, map, Option, None, Some, refl, sym, ap, subst, ◌∙◌}
use Rattle.std.specs.Prelude.{filter, not, ◌&&◌, ◌==◌, nat_lt, is_some}
use Rattle.std.specs.List.{list_all, list_any}
use Rattle.std.proofs.lemmas.List.Sorted.{All-permutation}
use Rattle.acvp_desk.specs.Certifications.{IsLeft}
use Rattle.acvp_desk.specs.Kept.{IsGradedSet, IsKept}
use Rattle.acvp_registry.specs.Object.{KeptObject, object_fault, object_vendor}
use Rattle.acvp_registry.specs.declared.kind.Kind.{Kind}
use Rattle.acvp_registry.specs.declared.kind.Kind.TheVariants.{Vendor, Module, Environment}
use Rattle.acvp_tables.specs.Content.{Content, is_kind, object_at, is_live_in}
use Rattle.acvp_tables.specs.Counted.{is_counted, is_passed_in}
use Rattle.acvp_tables.specs.State.{State, SessionRecord, SetRecord, session_record, set_record, state_of, own}
use Rattle.acvp_tables.specs.State.{owner_of, first_of_account, first_of_session, session_record_at, objects_in}
use Rattle.acvp_tables.specs.State.{sets_in}
use Rattle.acvp_tables.specs.State.{is_account_number, is_account_row, has_rows, has_registered, has_registered_as}
use Rattle.acvp_tables.specs.State.{has_vendor, has_given, has_all_given, given_number, of_all}
use Rattle.acvp_tables.specs.State.{is_sound_object, is_sound_body, certifies, IsWellNumberedFor, IsWellNumbered}
use Rattle.acvp_tables.specs.declared.rows.AccountRow.{AccountRow}
use Rattle.acvp_tables.specs.declared.rows.SessionRow.{SessionRow}
use Rattle.acvp_tables.specs.declared.rows.ObjectRow.{ObjectRow}
use Rattle.acvp_tables.specs.declared.rows.RequestRow.{RequestRow}
use Rattle.acvp_tables.specs.declared.rows.RequestBody.{RequestBody}
use Rattle.acvp_tables.specs.declared.rows.RequestBody.TheVariants as body
use Rattle.acvp_tables.specs.declared.rows.ReviewerRow.{ReviewerRow}
use Rattle.acvp_tables.proofs.KeptLemmas.{list_all_weaker}
use Rattle.acvp_check.specs.Order.{HaveSameRows, AreInOrder, rises}
use Rattle.acvp_check.proofs.CertificationLemmas.{certified_in_order}
use Rattle.acvp_check.proofs.AnsweredLemmas.{answered_in_order}
use Rattle.acvp_check.proofs.EpochLemmas.{epochs_in_order}
use Rattle.acvp_check.proofs.WholeLemmas.{well_for}
use Rattle.acvp_check.proofs.OrderLemmas.{Alike, permuted, alike_all, alike_any, alike_found, alike_length}
use Rattle.acvp_check.proofs.RegistrationLemmas.{registered_in_order}
use Rattle.acvp_check.proofs.OrderLemmas.{alike_filter, alike_map, rises_filter, rises_map, filter_swap, in_order}

pub record StatesAlike (m n : State) : Type 0 where
  pub accounts : Alike m.accounts n.accounts
  pub sessions : Alike m.sessions n.sessions
  pub sets : Alike m.sets n.sets
  pub objects : Alike m.objects n.objects
  pub requests : Alike m.requests n.requests
  pub reviewers : Alike m.reviewers n.reviewers

pub record StateRises (n : State) : Type 0 where
  pub sessions : rises (λ row. row.number) n.sessions ≡ true
  pub sets : rises (λ row. row.number) n.sets ≡ true
  pub objects : (kind : Kind) → rises (λ row. row.number) (objects_in kind n.objects) ≡ true
  pub requests : rises (λ row. row.number) n.requests ≡ true

of_all_same : {X : Type 0} (p q : X → Bool) → ((x : X) → p x ≡ q x) → (o : Option X) → of_all p o ≡ of_all q o
of_all_same p q same None = refl
of_all_same p q same (Some x) = same x

all_same : {R : Type 0} (p q : R → Bool) → ((r : R) → p r ≡ q r) → (rows : List R) → list_all p rows ≡ true
    → list_all q rows ≡ true
all_same p q same rows e = list_all_weaker p q (λ r h. sym (same r) ∙ h) rows e

-- ---- one account's rows

module _ (u : ℕ) (m n : State) (alike : StatesAlike m n) where
  object_there : (kind : Kind) (k : ℕ) → is_some (object_at kind k m.objects) ≡ is_some (object_at kind k n.objects)
  object_there kind k = alike_found
      (λ (row : ObjectRow). is_kind row.object.kind kind && (row.number == k)) m.objects n.objects alike.objects

  session_alike : (k : ℕ) → is_some (session_record_at k m.sessions) ≡ is_some (session_record_at k n.sessions)
  session_alike k = alike_found (λ (row : SessionRecord). row.number == k) m.sessions n.sessions alike.sessions

  vendor_alike : (object : KeptObject) → has_vendor m.objects object ≡ has_vendor n.objects object
  vendor_alike object = of_all_same (λ k. is_some (object_at Vendor k m.objects))
      (λ k. is_some (object_at Vendor k n.objects)) (object_there Vendor) (object_vendor object)

  object_alike : (object : KeptObject) → is_sound_object m.objects object ≡ is_sound_object n.objects object
  object_alike object = ap (λ b. not (is_some (object_fault object.kind object.value)) && b) (vendor_alike object)

  body_alike : (b : RequestBody) → is_sound_body m b ≡ is_sound_body n b
  body_alike (body.Registration object) = object_alike object
  body_alike (body.Certification c) =
      rw (object_there Module c.module, object_there Environment c.environment, session_alike c.session) refl

  given_alike : (b : RequestBody) (k : ℕ) → has_given m.objects b k ≡ has_given n.objects b k
  given_alike (body.Registration object) k = object_there object.kind k
  given_alike (body.Certification c) k = refl

  all_given_alike : (row : RequestRow) → has_all_given m.objects row ≡ has_all_given n.objects row
  all_given_alike row = of_all_same (has_given m.objects row.body) (has_given n.objects row.body) (given_alike row.body)
      (given_number row.status)

  rows_alike : has_rows m ≡ has_rows n
  rows_alike = rw (
    alike_length m.sessions n.sessions alike.sessions,
    alike_length m.objects n.objects alike.objects,
    alike_length m.requests n.requests alike.requests,
  ) refl

  pub well_alike : StateRises n → IsWellNumberedFor u m → IsWellNumberedFor u n
  well_alike up well = record {
    once = subst (λ k. k ≤ 1) (alike_length m.accounts n.accounts alike.accounts) well.once;
    accounts = alike_all is_account_row m.accounts n.accounts alike.accounts well.accounts;
    there = λ some. sym (alike_found (λ (row : AccountRow). row.number == u) m.accounts n.accounts alike.accounts)
        ∙ well.there (rows_alike ∙ some);
    sessions = in_order (λ row. row.number) (first_of_account u) m.sessions n.sessions
        (λ p. alike.sessions (λ row. p row.number)) well.sessions up.sessions;
    few_sessions = subst (λ k. k ≤ 999999) (alike_length m.sessions n.sessions alike.sessions) well.few_sessions;
    requests = in_order (λ row. row.number) (first_of_account u) m.requests n.requests
        (λ p. alike.requests (λ row. p row.number)) well.requests up.requests;
    few_requests = subst (λ k. k ≤ 999999) (alike_length m.requests n.requests alike.requests) well.few_requests;
    objects = λ kind. in_order (λ row. row.number) (first_of_account u) (objects_in kind m.objects)
        (objects_in kind n.objects)
        (λ p. alike_filter (λ (row : ObjectRow). is_kind row.object.kind kind) m.objects n.objects alike.objects
        (λ row. p row.number)) (well.objects kind) (up.objects kind);
    asked_for = λ kind. subst (λ k. k ≤ length (filter (has_registered kind) n.requests))
        (alike.objects (λ (row : ObjectRow). is_kind row.object.kind kind))
        (subst (λ k. length (objects_in kind m.objects) ≤ k) (alike.requests (has_registered kind))
        (well.asked_for kind));
    registered = all_same (λ object. list_any (has_registered_as object) m.requests)
        (λ object. list_any (has_registered_as object) n.requests)
        (λ object. alike_any (has_registered_as object) m.requests n.requests alike.requests) n.objects
        (alike_all (λ object. list_any (has_registered_as object) m.requests) m.objects n.objects alike.objects
        well.registered);
    given = all_same (has_all_given m.objects) (has_all_given n.objects) all_given_alike n.requests
        (alike_all (has_all_given m.objects) m.requests n.requests alike.requests well.given);
    sets = λ s. in_order (λ row. row.number) (first_of_session s) (sets_in s m.sets) (sets_in s n.sets)
        (λ p. alike_filter (λ (row : SetRecord). row.session == s) m.sets n.sets alike.sets (λ row. p row.number))
        (well.sets s)
        (rises_filter (λ row. row.number) (λ (row : SetRecord). row.session == s) n.sets up.sets);
    few_sets = λ s. subst (λ k. k ≤ 20) (alike.sets (λ (row : SetRecord). row.session == s)) (well.few_sets s);
    some_sets = all_same (λ (row : SessionRecord). list_any (λ set. set.session == row.number) m.sets)
        (λ row. list_any (λ set. set.session == row.number) n.sets)
        (λ row. alike_any (λ (set : SetRecord). set.session == row.number) m.sets n.sets alike.sets) n.sessions
        (alike_all (λ (row : SessionRecord). list_any (λ set. set.session == row.number) m.sets) m.sessions n.sessions
        alike.sessions well.some_sets);
    set_sessions = all_same (λ (set : SetRecord). is_some (session_record_at set.session m.sessions))
        (λ set. is_some (session_record_at set.session n.sessions))
        (λ set. session_alike set.session) n.sets
        (alike_all (λ (set : SetRecord). is_some (session_record_at set.session m.sessions)) m.sets n.sets alike.sets
        well.set_sessions);
    certified = all_same (λ (row : SessionRecord).
        of_all (λ k. list_any (λ request. (request.number == k) && certifies row.number request.body) m.requests)
        row.last_request)
        (λ row. of_all (λ k. list_any
        (λ request. (request.number == k) && certifies row.number request.body) n.requests) row.last_request)
        (λ row. of_all_same (λ k.
        list_any (λ request. (request.number == k) && certifies row.number request.body) m.requests)
        (λ k. list_any (λ request. (request.number == k) && certifies row.number request.body) n.requests)
        (λ k. alike_any (λ (request : RequestRow). (request.number == k) && certifies row.number request.body)
        m.requests n.requests alike.requests) row.last_request) n.sessions
        (alike_all (λ (row : SessionRecord).
        of_all (λ k. list_any (λ request. (request.number == k) && certifies row.number request.body) m.requests)
        row.last_request) m.sessions n.sessions alike.sessions well.certified);
    asked = all_same (λ (row : RequestRow). is_sound_body m row.body) (λ row. is_sound_body n row.body)
        (λ row. body_alike row.body) n.requests
        (alike_all (λ (row : RequestRow). is_sound_body m row.body) m.requests n.requests alike.requests well.asked);
    kept = all_same (λ (row : ObjectRow). is_sound_object m.objects row.object)
        (λ row. is_sound_object n.objects row.object) (λ row. object_alike row.object) n.objects
        (alike_all (λ (row : ObjectRow). is_sound_object m.objects row.object) m.objects n.objects alike.objects
        well.kept);
    created = alike_all (λ (row : SessionRecord). nat_lt row.created 4102444800) m.sessions n.sessions alike.sessions
        well.created;
    reviewed = all_same (λ (row : ReviewerRow). is_some (session_record_at row.session m.sessions))
        (λ row. is_some (session_record_at row.session n.sessions))
        (λ row. session_alike row.session) n.reviewers
        (alike_all (λ (row : ReviewerRow). is_some (session_record_at row.session m.sessions)) m.reviewers n.reviewers
        alike.reviewers well.reviewed);
    reviewers = alike_all (λ (row : ReviewerRow). is_account_number row.account) m.reviewers n.reviewers alike.reviewers
        well.reviewers;
    few_reviewers = λ s. subst (λ k. k ≤ 16) (alike.reviewers (λ (row : ReviewerRow). row.session == s))
        (well.few_reviewers s);
    pairs_once = λ s a. subst (λ k. k ≤ 1)
        (alike.reviewers (λ (row : ReviewerRow). (row.session == s) && (row.account == a))) (well.pairs_once s a);
  }

-- ---- all rows

module _ (seeds : List (List ℕ)) (c d : Content) (same : HaveSameRows c d) (up : AreInOrder d) where
  own_alike : (u : ℕ) → StatesAlike (own u (state_of c)) (own u (state_of d))
  unfolding own state_of
  own_alike u = record {
    accounts = alike_filter (λ (row : AccountRow). row.number == u) c.accounts d.accounts
        (permuted c.accounts d.accounts same.accounts);
    sessions = alike_filter (λ (row : SessionRecord). row.account == u) (map session_record c.sessions)
        (map session_record d.sessions)
        (alike_map session_record c.sessions d.sessions (permuted c.sessions d.sessions same.sessions));
    sets = alike_filter (λ (row : SetRecord). owner_of row.session == u) (map set_record c.sets) (map set_record d.sets)
        (alike_map set_record c.sets d.sets (permuted c.sets d.sets same.sets));
    objects = alike_filter (λ (row : ObjectRow). row.account == u) c.objects d.objects
        (permuted c.objects d.objects same.objects);
    requests = alike_filter (λ (row : RequestRow). row.account == u) c.requests d.requests
        (permuted c.requests d.requests same.requests);
    reviewers = alike_filter (λ (row : ReviewerRow). owner_of row.session == u) c.reviewers d.reviewers
        (permuted c.reviewers d.reviewers same.reviewers);
  }

  own_rises : (u : ℕ) → StateRises (own u (state_of d))
  unfolding own state_of
  own_rises u = record {
    sessions = rises_filter (λ row. row.number) (λ (row : SessionRecord). row.account == u)
        (map session_record d.sessions) (rises_map session_record (λ row. row.number) d.sessions up.sessions);
    sets = rises_filter (λ row. row.number) (λ (row : SetRecord). owner_of row.session == u) (map set_record d.sets)
        (rises_map set_record (λ row. row.number) d.sets up.sets);
    objects = λ kind. subst (λ rows. rises (λ (row : ObjectRow). row.number) rows ≡ true)
        (filter_swap (λ (row : ObjectRow). row.account == u) (λ row. is_kind row.object.kind kind) d.objects)
        (rises_filter (λ row. row.number) (λ (row : ObjectRow). row.account == u) (objects_in kind d.objects)
        (up.objects kind));
    requests = rises_filter (λ row. row.number) (λ (row : RequestRow). row.account == u) d.requests up.requests;
  }

  counted_alike : (row : SessionRow) → is_counted c.sets row ≡ is_counted d.sets row
  counted_alike row =
      let sets = permuted c.sets d.sets same.sets in
      rw (sets (is_live_in row.number), sets (is_passed_in row.number)) refl

  pub kept_in_order : IsKept seeds c → IsKept seeds d
  unfolding IsWellNumbered
  kept_in_order is = record {
    sound = λ u. well_alike u (own u (state_of c)) (own u (state_of d)) (own_alike u) (own_rises u) (is.sound u);
    counted = all_same (is_counted c.sets) (is_counted d.sets) counted_alike d.sessions
        (alike_all (is_counted c.sets) c.sessions d.sessions (permuted c.sessions d.sessions same.sessions) is.counted);
    graded = All-permutation (IsGradedSet seeds) c.sets d.sets same.sets is.graded;
  }

  pub left_in_order : IsLeft seeds c → IsLeft seeds d
  left_in_order is = record {
    kept = kept_in_order is.kept;
    certified = certified_in_order c d is.kept.sound same (well_for seeds c is.kept) is.certified;
    registered = registered_in_order c d is.kept.sound same (well_for seeds c is.kept) is.registered;
    epochs = epochs_in_order c d same is.epochs;
    answered = answered_in_order seeds c d same is.answered;
  }
