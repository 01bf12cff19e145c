-- Registrations among the rows of an account, and among all.
use Rattle.std.proofs.Common.{◌≡◌, ℕ, ◌≤◌, Bool, true, false, List, [], ◌∷◌, length, Option, None, Some}
use Rattle.std.proofs.Common.{refl, ap, subst, sym, ◌∙◌, arith}
use Rattle.std.specs.Prelude.{filter, find, is_some, ◌&&◌, ◌==◌, if◌then◌else◌}
use Rattle.std.specs.List.{flat_map, list_all}
use Rattle.std.proofs.lemmas.Bool.Decides.{nat_tests}
use Rattle.std.proofs.lemmas.List.Concat.{flat_map-cons}
use Rattle.acvp_mac.specs.Conditions.{first_broken}
use Rattle.acvp_policy.specs.Conditions.{is_some_and}
use Rattle.acvp_registry.specs.Object.{KeptObject}
use Rattle.acvp_registry.specs.declared.kind.Kind.{Kind}
use Rattle.acvp_desk.specs.Registrations.{AreRegistered, is_as_asked, is_first_given, is_given, is_given_once}
use Rattle.acvp_desk.specs.Registrations.{is_object_of, is_there_as_asked}
use Rattle.acvp_desk.proofs.CertifiedRows.{found_is}
use Rattle.acvp_desk.proofs.RegisteredRecords.{requests_once}
use Rattle.acvp_desk.proofs.RegisteredRows.{by_number, filtered_own, given_is}
use Rattle.acvp_tables.specs.Content.{Content, is_kind, object_at, request_at}
use Rattle.acvp_tables.specs.State.{IsNumbered, IsWellNumbered, IsWellNumberedFor, first_of_account, given_number}
use Rattle.acvp_tables.specs.State.{has_all_given, has_given, objects_in, of_all, owner_of, own, state_of}
use Rattle.acvp_tables.specs.declared.rows.ObjectRow.{ObjectRow}
use Rattle.acvp_tables.specs.declared.rows.RequestBody.{RequestBody}
use Rattle.acvp_tables.specs.declared.rows.RequestBody.TheVariants as body
use Rattle.acvp_tables.specs.declared.rows.RequestRow.{RequestRow}
use Rattle.acvp_tables.specs.declared.rows.RequestStatus.TheVariants as status
use Rattle.acvp_tables.proofs.KeptLemmas.{list_all-filter, list_all_weaker, of_all_weaker}
use Rattle.acvp_tables.proofs.Numbers.{by_class, eqb_same, filter_both, keyed, once_numbered}
use Rattle.acvp_check.specs.Conditions.{finding, is_beyond_kept, registration_conditions}
use Rattle.acvp_check.specs.Conditions.{registration_row_conditions}
use Rattle.acvp_check.specs.declared.finding.Finding.{Finding}
use Rattle.acvp_check.specs.declared.finding.RowKey.TheVariants as key
use Rattle.acvp_check.specs.declared.finding.Wrong.TheVariants as wrong
use Rattle.acvp_check.specs.Order.{HaveSameRows}
use Rattle.acvp_check.specs.Rows.{rows_of}
use Rattle.acvp_check.proofs.AccountLemmas.{of_each, to_each}
use Rattle.acvp_check.proofs.CertificationLemmas.{all_found, among_own, of_found, request_same}
use Rattle.acvp_check.proofs.CertificationLemmas.{requests_own, same_found}
use Rattle.acvp_check.proofs.HeldLemmas.{last_holds}
use Rattle.acvp_check.proofs.Holds.{all_both, both, holds}
use Rattle.acvp_check.proofs.OrderLemmas.{alike_found, filter_swap, permuted}

-- ---- whose a number is that a request gave

-- where a registration is approved, the object's number is the account's
abbrev gives_of : ℕ → RequestBody → ℕ → Bool
gives_of u (body.Registration asked) k = owner_of k == u
gives_of u (body.Certification c) k = true

abbrev gives_own : ℕ → RequestRow → Bool
gives_own u row = of_all (gives_of u row.body) (given_number row.status)

-- one that gave a number of the kind gave the account's
gave_own : (u : ℕ) (kind : Kind) (k : ℕ) (r : RequestRow) → gives_own u r ≡ true → is_given kind k r ≡ true
    → (owner_of k == u) ≡ true
gave_own u kind k r own given =
    let it = given_is kind k r given in
    by it.object it.asks it.approved
  where
    by : (object : KeptObject) → r.body ≡ body.Registration object → r.status ≡ status.Approved k
        → (owner_of k == u) ≡ true
    by object asks approved = rw (asks, approved) at own

module _ (c : Content) (sound : IsWellNumbered (state_of c)) where
  objects_own : (u k : ℕ) (kind : Kind) → object_at kind k (rows_of u c).objects
      ≡ (if owner_of k == u then object_at kind k c.objects else None)
  unfolding rows_of state_of
  objects_own u k kind =
      among_own (λ (o : ObjectRow). is_kind o.object.kind kind && (o.number == k))
      (λ o. owner_of o.number == o.account) (λ o. o.account) u (owner_of k == u)
      (λ o keyed at. grind (arith, nat_tests, keyed, at)) c.objects (keyed (state_of c) sound).objects

  -- what an approved request gave is of the account, as its object is
  given_own : (u : ℕ) → list_all (has_all_given (rows_of u c).objects) (rows_of u c).requests ≡ true
      → list_all (gives_own u) (rows_of u c).requests ≡ true
  given_own u given =
      list_all_weaker (has_all_given (rows_of u c).objects) (gives_own u) own (rows_of u c).requests given
    where
      at : (k : ℕ) (kind : Kind) (b : Bool)
          → is_some (if b then object_at kind k c.objects else None) ≡ true → b ≡ true
      at k kind true is = refl
      at k kind false is = absurd (cc)

      by : (b : RequestBody) (n : Option ℕ) → of_all (has_given (rows_of u c).objects b) n ≡ true
          → of_all (gives_of u b) n ≡ true
      by b None is = refl
      by (body.Registration asked) (Some k) is =
          at k asked.kind (owner_of k == u) (rw (objects_own u k asked.kind) at is)
      by (body.Certification x) (Some k) is = refl

      own : (r : RequestRow) → has_all_given (rows_of u c).objects r ≡ true → gives_own u r ≡ true
      own r is = by r.body (given_number r.status) is

  module _ (wells : (u : ℕ) → IsWellNumberedFor u (state_of (rows_of u c))) where
    own_given : (u : ℕ) → list_all (gives_own u) (rows_of u c).requests ≡ true
    unfolding state_of
    own_given u = given_own u (wells u).given

    all_given : list_all (λ (r : RequestRow). gives_own r.account r) c.requests ≡ true
    unfolding rows_of
    all_given = by_class (λ a b. a == b) (λ (r : RequestRow). r.account) (λ u r. gives_own u r) eqb_same c.requests
        own_given

    -- who gave a number is found among the account's requests
    given_among : (u k : ℕ) (kind : Kind) → find (is_given kind k) (rows_of u c).requests
        ≡ (if owner_of k == u then find (is_given kind k) c.requests else None)
    unfolding rows_of
    given_among u k kind =
        among_own (is_given kind k) (λ (r : RequestRow). gives_own r.account r) (λ r. r.account) u (owner_of k == u)
        tells c.requests all_given
      where
        tells : (r : RequestRow) → gives_own r.account r ≡ true → is_given kind k r ≡ true
            → (r.account == u) ≡ (owner_of k == u)
        tells r own given =
            let is = gave_own r.account kind k r own given in
            grind (arith, nat_tests, is)

    -- ---- where the conditions hold

    asked_of_all : (u : ℕ) (r : RequestRow) → is_as_asked (rows_of u c).objects r ≡ true
        → is_as_asked c.objects r ≡ true
    asked_of_all u r is = go r.body (given_number r.status) is
      where
        at : (asked : KeptObject) (k : ℕ) (b : Bool)
            → is_some_and (if b then object_at asked.kind k c.objects else None) (is_object_of r.account asked) ≡ true
            → is_some_and (object_at asked.kind k c.objects) (is_object_of r.account asked) ≡ true
        at asked k true is = is
        at asked k false is = absurd (cc)

        go : (b : RequestBody) (n : Option ℕ) → of_all (is_there_as_asked (rows_of u c).objects r.account b) n ≡ true
            → of_all (is_there_as_asked c.objects r.account b) n ≡ true
        go b None is = refl
        go (body.Registration asked) (Some k) is =
            at asked k (owner_of k == u) (rw (objects_own u k asked.kind) at is)
        go (body.Certification x) (Some k) is = refl

    once_of_all : (u : ℕ) (r : RequestRow) → is_given_once (rows_of u c).requests r ≡ true
        → is_given_once c.requests r ≡ true
    once_of_all u r is = go r.body (given_number r.status) is
      where
        at : (kind : Kind) (k : ℕ) (b : Bool)
            → is_some_and (if b then find (is_given kind k) c.requests else None) (λ x. x.number == r.number) ≡ true
            → is_some_and (find (is_given kind k) c.requests) (λ x. x.number == r.number) ≡ true
        at kind k true is = is
        at kind k false is = absurd (cc)

        go : (b : RequestBody) (n : Option ℕ) → of_all (is_first_given (rows_of u c).requests r.number b) n ≡ true
            → of_all (is_first_given c.requests r.number b) n ≡ true
        go b None is = refl
        go (body.Registration asked) (Some k) is =
            at asked.kind k (owner_of k == u) (rw (given_among u k asked.kind) at is)
        go (body.Certification x) (Some k) is = refl

    pub all_registered : ((u : ℕ) → holds (registration_conditions (rows_of u c)) ≡ true) → AreRegistered c
    unfolding registration_conditions
    all_registered is = record {
      asked = λ n. by n (is_as_asked (rows_of (owner_of n) c).objects) (is_as_asked c.objects)
          (asked_of_all (owner_of n)) (parts (owner_of n)).0;
      once = λ n. by n (is_given_once (rows_of (owner_of n) c).requests) (is_given_once c.requests)
          (once_of_all (owner_of n)) (parts (owner_of n)).1;
    }
      where
        parts : (u : ℕ) → (list_all (is_as_asked (rows_of u c).objects) (rows_of u c).requests ≡ true)
            × (list_all (is_given_once (rows_of u c).requests) (rows_of u c).requests ≡ true)
        parts u =
            let mine = rows_of u c in
            let rows = of_each (registration_row_conditions mine) mine.requests (is u) in (
              list_all_weaker (λ r. holds (registration_row_conditions mine r)) (is_as_asked mine.objects)
                  (λ r h. (both (is_as_asked mine.objects r) (is_given_once mine.requests r && true) h).0) mine.requests
                  rows,
              list_all_weaker (λ r. holds (registration_row_conditions mine r)) (is_given_once mine.requests)
                  (λ r h. (both (is_given_once mine.requests r) true
                  (both (is_as_asked mine.objects r) (is_given_once mine.requests r && true) h).1).0) mine.requests
                  rows,
            )

        by : (n : ℕ) (p q : RequestRow → Bool) → ((r : RequestRow) → p r ≡ true → q r ≡ true)
            → list_all p (rows_of (owner_of n) c).requests ≡ true → of_all q (request_at n c.requests) ≡ true
        by n p q weaker all =
            let mine = of_found (λ (r : RequestRow). r.number == n) p (rows_of (owner_of n) c).requests all in
            of_all_weaker p q weaker (request_at n c.requests)
            (rw (requests_own c sound (owner_of n) n, eqb_same (owner_of n)) at mine)

    -- ---- where the records are registered rightly

    module _ (registered : AreRegistered c) (u : ℕ) where
      abbrev mine : Content
      mine = rows_of u c

      asked_holds : (r : RequestRow) → gives_own u r ≡ true → is_as_asked c.objects r ≡ true
          → is_as_asked mine.objects r ≡ true
      asked_holds r own is = go r.body (given_number r.status) own is
        where
          go : (b : RequestBody) (n : Option ℕ) → of_all (gives_of u b) n ≡ true
              → of_all (is_there_as_asked c.objects r.account b) n ≡ true
              → of_all (is_there_as_asked mine.objects r.account b) n ≡ true
          go b None own is = refl
          go (body.Registration asked) (Some k) own is = rw (objects_own u k asked.kind, own) is
          go (body.Certification x) (Some k) own is = refl

      once_holds : (r : RequestRow) → gives_own u r ≡ true → is_given_once c.requests r ≡ true
          → is_given_once mine.requests r ≡ true
      once_holds r own is = go r.body (given_number r.status) own is
        where
          go : (b : RequestBody) (n : Option ℕ) → of_all (gives_of u b) n ≡ true
              → of_all (is_first_given c.requests r.number b) n ≡ true
              → of_all (is_first_given mine.requests r.number b) n ≡ true
          go b None own is = refl
          go (body.Registration asked) (Some k) own is = rw (given_among u k asked.kind, own) is
          go (body.Certification x) (Some k) own is = refl

      numbered_requests : IsNumbered (λ (row : RequestRow). row.number) (first_of_account u) mine.requests
      unfolding state_of
      numbered_requests = (wells u).requests

      -- what holds of a request among all holds of it among the account's
      each_holds : (p q : RequestRow → Bool)
          → ((r : RequestRow) → gives_own u r ≡ true → p r ≡ true → q r ≡ true)
          → ((n : ℕ) → of_all p (request_at n c.requests) ≡ true) → list_all q mine.requests ≡ true
      each_holds p q weaker all =
          all_found (λ (row : RequestRow). row.number) q (first_of_account u) mine.requests numbered_requests
          (λ n low. rw (requests_own c sound u n) (by n (owner_of n == u) (there n)))
        where
          there : (n : ℕ) → of_all (gives_own u) (if owner_of n == u then request_at n c.requests else None) ≡ true
          there n = rw (requests_own c sound u n) at (of_found (λ (row : RequestRow). row.number == n) (gives_own u)
              mine.requests (own_given u))

          found : (row : Option RequestRow) → of_all (gives_own u) row ≡ true → of_all p row ≡ true
              → of_all q row ≡ true
          found None own is = refl
          found (Some row) own is = weaker row own is

          by : (n : ℕ) (b : Bool) → of_all (gives_own u) (if b then request_at n c.requests else None) ≡ true
              → of_all q (if b then request_at n c.requests else None) ≡ true
          by n true own = found (request_at n c.requests) own (all n)
          by n false own = refl

      pub registrations_hold : holds (registration_conditions mine) ≡ true
      unfolding registration_conditions
      registrations_hold =
          to_each (registration_row_conditions mine) mine.requests
          (all_both (is_as_asked mine.objects) (λ r. is_given_once mine.requests r && true) mine.requests
          (each_holds (is_as_asked c.objects) (is_as_asked mine.objects) asked_holds registered.asked)
          (last_holds (is_given_once mine.requests) mine.requests
          (each_holds (is_given_once c.requests) (is_given_once mine.requests) once_holds registered.once)))

-- ---- which condition is broken

rows_found : (mine : Content) (rows : List RequestRow) (found : Finding)
    → first_broken (flat_map (registration_row_conditions mine) rows) ≡ Some found → is_beyond_kept found.wrong ≡ true
rows_found mine [] found is = absurd (cc)
rows_found mine (r ∷ rows) found is =
    go (is_as_asked mine.objects r) (is_given_once mine.requests r)
    (subst (λ conditions. first_broken conditions ≡ Some found)
    (flat_map-cons (registration_row_conditions mine) r rows) is) (rows_found mine rows found)
  where
    go : (asked once : Bool)
        → first_broken ((asked, finding (key.Request r.number) wrong.NotAsAsked)
        ∷ (once, finding (key.Request r.number) wrong.GivenTwice)
        ∷ flat_map (registration_row_conditions mine) rows) ≡ Some found
        → (first_broken (flat_map (registration_row_conditions mine) rows) ≡ Some found
        → is_beyond_kept found.wrong ≡ true)
        → is_beyond_kept found.wrong ≡ true
    go true true is later = later is
    go true false is later = let same : finding (key.Request r.number) wrong.GivenTwice ≡ found = cc in rw (← same) refl
    go false once is later = let same : finding (key.Request r.number) wrong.NotAsAsked ≡ found = cc in rw (← same) refl

pub registration_found : (mine : Content) (found : Finding)
    → first_broken (registration_conditions mine) ≡ Some found → is_beyond_kept found.wrong ≡ true
unfolding registration_conditions
registration_found mine found is = rows_found mine mine.requests found is

-- ---- rows in another order

module _ (c d : Content) (sound : IsWellNumbered (state_of c)) (same : HaveSameRows c d)
    (wells : (u : ℕ) → IsWellNumberedFor u (state_of (rows_of u c))) where
  objects_once : (kind : Kind) (k : ℕ)
      → length (filter (λ (o : ObjectRow). is_kind o.object.kind kind && (o.number == k)) c.objects) ≤ 1
  unfolding rows_of state_of
  objects_once kind k =
      let of_kind = filtered_own (λ (o : ObjectRow). o.number) (λ o. o.account) k (objects_in kind c.objects)
      (list_all-filter (λ (o : ObjectRow). owner_of o.number == o.account) (λ o. is_kind o.object.kind kind) c.objects
      (keyed (state_of c) sound).objects) in
      let own : filter (λ (o : ObjectRow). o.account == owner_of k) (objects_in kind c.objects)
      ≡ objects_in kind (rows_of (owner_of k) c).objects =
      filter_swap (λ (o : ObjectRow). o.account == owner_of k) (λ o. is_kind o.object.kind kind) c.objects in
      subst (λ rows. length rows ≤ 1)
      (sym (filter_both (λ (o : ObjectRow). o.number == k) (λ o. is_kind o.object.kind kind) c.objects ∙ sym of_kind
      ∙ ap (λ rows. filter (λ (o : ObjectRow). o.number == k) rows) own))
      (once_numbered (λ (o : ObjectRow). o.number) k (first_of_account (owner_of k))
      (objects_in kind (rows_of (owner_of k) c).objects) ((wells (owner_of k)).objects kind))

  object_same : (kind : Kind) (k : ℕ) → object_at kind k d.objects ≡ object_at kind k c.objects
  object_same kind k = same_found (λ (o : ObjectRow). is_kind o.object.kind kind && (o.number == k)) c.objects d.objects
      same.objects (objects_once kind k)

  asked_same : (r : RequestRow) → is_as_asked c.objects r ≡ true → is_as_asked d.objects r ≡ true
  asked_same r is = go r.body (given_number r.status) is
    where
      go : (b : RequestBody) (n : Option ℕ) → of_all (is_there_as_asked c.objects r.account b) n ≡ true
          → of_all (is_there_as_asked d.objects r.account b) n ≡ true
      go b None is = refl
      go (body.Registration asked) (Some k) is = rw (object_same asked.kind k) is
      go (body.Certification x) (Some k) is = refl

  module _ (registered : AreRegistered c) where
    -- one that gave a number is the first in the other order too
    first_same : (kind : Kind) (k : ℕ) (y : RequestRow) → find (is_given kind k) d.requests ≡ Some y
        → is_some_and (find (is_given kind k) c.requests) (λ x. x.number == y.number) ≡ true
    first_same kind k y found =
        let it = given_is kind k y (found_is (is_given kind k) d.requests y found) in
        by it.object it.asks it.of_kind it.approved
      where
        once : length (filter (λ (r : RequestRow). r.number == y.number) d.requests) ≤ 1
        once = subst (λ m. m ≤ 1) (permuted c.requests d.requests same.requests (λ r. r.number == y.number))
            (requests_once c sound y.number)

        there : request_at y.number c.requests ≡ Some y
        there = sym (request_same c d sound same wells y.number)
            ∙ by_number (λ (r : RequestRow). r.number) (is_given kind k) d.requests y found once

        by : (object : KeptObject) → y.body ≡ body.Registration object → object.kind ≡ kind
            → y.status ≡ status.Approved k
            → is_some_and (find (is_given kind k) c.requests) (λ x. x.number == y.number) ≡ true
        by object asks of approved =
            let first = rw there at (registered.once y.number) in
            rw (asks, approved, of) at first

    once_same : (r : RequestRow) → is_given_once c.requests r ≡ true → is_given_once d.requests r ≡ true
    once_same r is = go r.body (given_number r.status) is
      where
        at : (kind : Kind) (k : ℕ) (x y : Option RequestRow) → find (is_given kind k) c.requests ≡ x
            → find (is_given kind k) d.requests ≡ y → is_some x ≡ is_some y
            → is_some_and x (λ x. x.number == r.number) ≡ true → is_some_and y (λ x. x.number == r.number) ≡ true
        at kind k None y ex ey alike is = absurd (cc)
        at kind k (Some x) None ex ey alike is = absurd (cc)
        at kind k (Some x) (Some y) ex ey alike is =
            let first : (x.number == y.number) ≡ true = rw ex at (first_same kind k y ey) in
            grind (arith, nat_tests, first, is)

        go : (b : RequestBody) (n : Option ℕ) → of_all (is_first_given c.requests r.number b) n ≡ true
            → of_all (is_first_given d.requests r.number b) n ≡ true
        go b None is = refl
        go (body.Registration asked) (Some k) is =
            let given = is_given asked.kind k in
            at asked.kind k (find given c.requests) (find given d.requests) refl refl
            (alike_found given c.requests d.requests (permuted c.requests d.requests same.requests)) is
        go (body.Certification x) (Some k) is = refl

    pub registered_in_order : AreRegistered d
    registered_in_order = record {
      asked = λ n. rw (request_same c d sound same wells n) (of_all_weaker (is_as_asked c.objects)
          (is_as_asked d.objects) asked_same (request_at n c.requests) (registered.asked n));
      once = λ n. rw (request_same c d sound same wells n) (of_all_weaker (is_given_once c.requests)
          (is_given_once d.requests) once_same (request_at n c.requests) (registered.once n));
    }
