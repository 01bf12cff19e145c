-- What every run leaves of registrations is so after a request and after an order.
use Rattle.std.proofs.Common.{◌≡◌, ℕ, ◌+◌, ◌≤◌, List, [], ◌∷◌, ◌++◌, length, Bool, true, false, Option, None, Some}
use Rattle.std.proofs.Common.{refl, subst, sym, ◌∙◌}
use Rattle.std.specs.Prelude.{filter, find, option_map, ◌==◌, if◌then◌else◌}
use Rattle.acvp_registry.specs.Object.{KeptObject}
use Rattle.acvp_registry.specs.declared.kind.Kind.{Kind}
use Rattle.acvp_tables.specs.Changes.{after, after_order, changed, is_request, new_certification, new_objects}
use Rattle.acvp_tables.specs.Changes.{new_request, with_status}
use Rattle.acvp_tables.specs.Content.{Content, is_kind, object_at, objects_of, request_at}
use Rattle.acvp_tables.specs.Next.{IsNextApproved, IsNextOrder}
use Rattle.acvp_tables.specs.State.{State, IsWellNumbered, first_of_account, objects_in, own}
use Rattle.acvp_tables.specs.State.{owner_of, state_of}
use Rattle.acvp_tables.specs.declared.change.Approval.{Approval}
use Rattle.acvp_tables.specs.declared.change.Change.{Change}
use Rattle.acvp_tables.specs.declared.change.Change.TheVariants as change
use Rattle.acvp_tables.specs.declared.change.OrderChange.TheVariants as order_change
use Rattle.acvp_tables.specs.declared.rows.ObjectRow.{ObjectRow}
use Rattle.acvp_tables.specs.declared.rows.RequestBody.{RequestBody}
use Rattle.acvp_tables.specs.declared.rows.RequestBody.TheVariants as body
use Rattle.acvp_tables.specs.declared.rows.RequestRow.{RequestRow}
use Rattle.acvp_tables.specs.declared.rows.RequestStatus.TheVariants as status
use Rattle.acvp_tables.proofs.Numbers.{eqb_same, keyed, once_numbered}
use Rattle.acvp_desk.specs.Answer.{accepted_change, content_after, content_effect}
use Rattle.acvp_desk.specs.Orders.{approval, approved_number, content_after_order, content_order_effect, has_account}
use Rattle.acvp_desk.specs.Orders.{order_change as change_for, waiting_request}
use Rattle.acvp_desk.specs.Registrations.{AreRegistered, is_as_asked, is_first_given, is_given, is_given_once}
use Rattle.acvp_desk.specs.Request.{RequestValue}
use Rattle.acvp_desk.specs.declared.keys.Keys.{Keys}
use Rattle.acvp_desk.specs.declared.order.Order.{Order}
use Rattle.acvp_desk.specs.declared.order.Order.TheVariants as order
use Rattle.acvp_desk.proofs.CertifiedRows.{appended, found_is}
use Rattle.acvp_desk.proofs.DecidedRequest.{approved_next, is_there, number_next}
use Rattle.acvp_desk.proofs.RegisteredRows.{all_with_request, all_with_status, asked_of_new, asked_with_more}
use Rattle.acvp_desk.proofs.RegisteredRows.{by_number, filtered_own, given_is, new_found, none_next, once_stays}
use Rattle.acvp_desk.proofs.RegisteredRows.{same_found, gives_none, gives, none_gave}

-- ---- requests

-- where a request comes that waits
with_waiting : (new : RequestRow) → new.status ≡ status.Initial → (c d : Content) → d.objects ≡ c.objects
    → d.requests ≡ c.requests ++ new ∷ [] → AreRegistered c → AreRegistered d
with_waiting new waits c d objects requests is = record {
  asked = rw (objects, requests)
      (all_with_request (is_as_asked c.objects) (is_as_asked c.objects) c.requests new (λ r e. e) (rw waits refl)
      is.asked);
  once = rw requests
      (all_with_request (is_given_once c.requests) (is_given_once (c.requests ++ new ∷ [])) c.requests new
      (once_stays c.requests (c.requests ++ new ∷ [])
      (λ kind k x e. appended (is_given kind k) c.requests (new ∷ []) x e)) (rw waits refl) is.once);
}

change_registered : (it : Change) (c : Content) → AreRegistered c → AreRegistered (after it c)
unfolding after
change_registered (change.NewRequest r) c is =
    with_waiting (new_request r) refl c (after (change.NewRequest r) c) refl refl is
change_registered (change.Certify x) c is =
    with_waiting (new_certification x) refl c (after (change.Certify x) c) refl refl is
change_registered _ c is = record { asked = is.asked; once = is.once }

pub request_registered : (keys : Keys) (m : ℕ) (r : RequestValue) (c : Content) → AreRegistered c
    → AreRegistered (content_effect keys m r c)
request_registered keys m r c is = go (accepted_change keys m r (state_of c))
  where
    go : (made : Option Change) → AreRegistered (content_after made c)
    go None = is
    go (Some it) = change_registered it c is

-- ---- orders

-- no request's number is there twice
pub requests_once : (c : Content) → IsWellNumbered (state_of c) → (n : ℕ)
    → length (filter (is_request n) c.requests) ≤ 1
unfolding IsWellNumbered own state_of
requests_once c well n =
    subst (λ rows. length rows ≤ 1)
    (filtered_own (λ (row : RequestRow). row.number) (λ row. row.account) n c.requests
    (keyed (state_of c) well).requests)
    (once_numbered (λ (row : RequestRow). row.number) n (first_of_account (owner_of n))
    (own (owner_of n) (state_of c)).requests (well (owner_of n)).requests)

module _ (found_own : (u n : ℕ) (state : State) → IsWellNumbered state
    → request_at n (own u state).requests ≡ (if owner_of n == u then request_at n state.requests else None))
    (object_own : (u n : ℕ) (kind : Kind) (state : State) → IsWellNumbered state
    → object_at kind n (own u state).objects ≡ (if owner_of n == u then object_at kind n state.objects else None))
    (names : (n : ℕ) (state : State) (row : RequestRow) → IsWellNumbered state → request_at n state.requests ≡ Some row
    → row.account ≡ owner_of n)
    (objects : (u : ℕ) (kind : Kind) (state : State)
    → objects_in kind (own u state).objects ≡ objects_of kind u state.objects)
    (approved_own : (a : Approval) (state : State) → IsWellNumbered state → IsNextOrder state (order_change.Approve a)
    → owner_of a.approved ≡ owner_of a.request)
    (c : Content) (well : IsWellNumbered (state_of c)) (n : ℕ) (row : RequestRow)
    (found : waiting_request n (state_of c) ≡ Some row) (is : AreRegistered c) where
  abbrev k : ℕ
  k = approved_number (state_of c) row

  there : request_at n c.requests ≡ Some row
  unfolding state_of
  there = (is_there found_own names objects (state_of c) well n row found).there

  waits : row.status ≡ status.Initial
  waits = (is_there found_own names objects (state_of c) well n row found).initial

  -- the object's number is free
  free : (asked : KeptObject) → row.body ≡ body.Registration asked → object_at asked.kind k c.objects ≡ None
  unfolding IsWellNumbered state_of
  free asked asks =
      let u = owner_of n in
      let next : k ≡ first_of_account u + length (objects_in asked.kind (own u (state_of c)).objects) =
      subst (λ b. IsNextApproved u (own u (state_of c)) b k) asks
      (number_next found_own names objects (state_of c) well n row found) in
      let none = none_next (λ (o : ObjectRow). o.number) (λ o. is_kind o.object.kind asked.kind) (first_of_account u) k
      (own u (state_of c)).objects ((well u).objects asked.kind) next in
      let of_u = approved_own (record { request = n; approved = k }) (state_of c) well
      (approved_next found_own names objects (state_of c) well n row found) in
      subst (λ b. (if b then object_at asked.kind k c.objects else None) ≡ None)
      (subst (λ v. (v == u) ≡ true) (sym of_u) (eqb_same u))
      (sym (object_own u k asked.kind (state_of c) well) ∙ none)

  -- so no request was approved with it
  fresh : (kind : Kind) (j : ℕ) → is_given kind j (with_status (status.Approved k) row) ≡ true
      → find (is_given kind j) c.requests ≡ None
  fresh kind j given = go (find (is_given kind j) c.requests) refl
    where
      no_object : object_at kind j c.objects ≡ None
      no_object =
          let it = given_is kind j (with_status (status.Approved k) row) given in
          let same : k ≡ j = cc (it.approved) in
          subst (λ j. object_at kind j c.objects ≡ None) same
          (subst (λ kind. object_at kind k c.objects ≡ None) it.of_kind (free it.object it.asks))

      go : (x : Option RequestRow) → find (is_given kind j) c.requests ≡ x → x ≡ None
      go None e = refl
      go (Some x) e =
          let at = by_number (λ (r : RequestRow). r.number) (is_given kind j) c.requests x e
          (requests_once c well x.number) in
          absurd (none_gave c.objects kind j x no_object (found_is (is_given kind j) c.requests x e)
          (rw at at (is.asked x.number)))

  abbrev after_approval : List RequestRow
  after_approval = changed (is_request n) (with_status (status.Approved k)) c.requests

  gave_stays : (kind : Kind) (j : ℕ) (x : RequestRow) → find (is_given kind j) c.requests ≡ Some x
      → find (is_given kind j) after_approval ≡ Some x
  gave_stays kind j x e =
      same_found (is_given kind j) (is_request n) (with_status (status.Approved k)) row
      (gives_none kind j row (rw waits refl)) (off (is_given kind j (with_status (status.Approved k) row)) refl)
      c.requests there (requests_once c well n) ∙ e
    where
      off : (b : Bool) → is_given kind j (with_status (status.Approved k) row) ≡ b → b ≡ false
      off true on = absurd (let none = fresh kind j on in cc)
      off false on = refl

  given_now : is_given_once after_approval (with_status (status.Approved k) row) ≡ true
  given_now = go row.body refl
    where
      go : (b : RequestBody) → row.body ≡ b → is_first_given after_approval row.number b k ≡ true
      go (body.Certification x) e = refl
      go (body.Registration asked) e =
          let on = gives asked k (with_status (status.Approved k) row) e refl in
          rw (new_found (is_given asked.kind k) (is_request n) (with_status (status.Approved k)) row on c.requests there
          (fresh asked.kind k on)) (eqb_same row.number)

  pub approved : AreRegistered (after_order (approval (state_of c) n row) c)
  unfolding after_order
  approved =
      let new = new_objects row.account row.body k in
      record {
        asked = rw there (all_with_status (is_as_asked c.objects) (is_as_asked (c.objects ++ new)) n (status.Approved k)
            c.requests row there (asked_with_more c.objects new) (asked_of_new c.objects row.account k row.body free)
            is.asked);
        once = all_with_status (is_given_once c.requests) (is_given_once after_approval) n (status.Approved k)
            c.requests row there (once_stays c.requests after_approval gave_stays) given_now is.once;
      }

  pub rejected : AreRegistered (after_order (order_change.Reject n) c)
  unfolding after_order
  rejected =
      let later = changed (is_request n) (with_status status.Rejected) c.requests in
      record {
        asked = all_with_status (is_as_asked c.objects) (is_as_asked c.objects) n status.Rejected c.requests row there
            (λ r e. e) refl is.asked;
        once = all_with_status (is_given_once c.requests) (is_given_once later) n status.Rejected c.requests row there
            (once_stays c.requests later (λ kind j x e.
            same_found (is_given kind j) (is_request n) (with_status status.Rejected) row
            (gives_none kind j row (rw waits refl)) (gives_none kind j (with_status status.Rejected row) refl)
            c.requests there (requests_once c well n) ∙ e)) refl is.once;
      }

module _ (found_own : (u n : ℕ) (state : State) → IsWellNumbered state
    → request_at n (own u state).requests ≡ (if owner_of n == u then request_at n state.requests else None))
    (object_own : (u n : ℕ) (kind : Kind) (state : State) → IsWellNumbered state
    → object_at kind n (own u state).objects ≡ (if owner_of n == u then object_at kind n state.objects else None))
    (names : (n : ℕ) (state : State) (row : RequestRow) → IsWellNumbered state → request_at n state.requests ≡ Some row
    → row.account ≡ owner_of n)
    (objects : (u : ℕ) (kind : Kind) (state : State)
    → objects_in kind (own u state).objects ≡ objects_of kind u state.objects)
    (approved_own : (a : Approval) (state : State) → IsWellNumbered state → IsNextOrder state (order_change.Approve a)
    → owner_of a.approved ≡ owner_of a.request) where
  pub order_registered : (it : Order) (c : Content) → IsWellNumbered (state_of c) → AreRegistered c
      → AreRegistered (content_order_effect it c)
  unfolding change_for after_order
  order_registered (order.AddAccount a secret) c well is = go (has_account a (state_of c))
    where
      go : (b : Bool) → AreRegistered (content_after_order
          (if b then None else Some (order_change.AddAccount (record { account = a; secret = secret }))) c)
      go true = is
      go false = record { asked = is.asked; once = is.once }
  order_registered (order.DisableAccount a) c well is = go (has_account a (state_of c))
    where
      go : (b : Bool)
          → AreRegistered (content_after_order (if b then Some (order_change.DisableAccount a) else None) c)
      go true = record { asked = is.asked; once = is.once }
      go false = is
  order_registered (order.ApproveRequest n) c well is = go (waiting_request n (state_of c)) refl
    where
      go : (found : Option RequestRow) → waiting_request n (state_of c) ≡ found
          → AreRegistered (content_after_order (option_map (approval (state_of c) n) found) c)
      go None e = is
      go (Some row) e = approved found_own object_own names objects approved_own c well n row e is
  order_registered (order.RejectRequest n) c well is = go (waiting_request n (state_of c)) refl
    where
      go : (found : Option RequestRow) → waiting_request n (state_of c) ≡ found
          → AreRegistered (content_after_order (option_map (λ row. order_change.Reject n) found) c)
      go None e = is
      go (Some row) e = rejected found_own object_own names objects approved_own c well n row e is
