-- A request that is decided is next: it waits, and its number is its account's next of the kind.
use Rattle.std.proofs.Common.{◌≡◌, ◌≢◌, ◌∙◌, ℕ, suc, ◌+◌, ◌≤◌, List, [], ◌∷◌, length, filter, Bool, true, false, Option}
use Rattle.std.proofs.Common.{None, Some, refl, sym, ap, arith}
use Rattle.std.proofs.lemmas.Bool.Decides.{nat_tests}
use Rattle.std.specs.Prelude.{◌==◌, ◌&&◌, not, find, is_some, option_and_then, if◌then◌else◌}
use Rattle.std.specs.List.{list_all}
use Rattle.acvp_registry.specs.Object.{KeptObject, object_fault, is_fit}
use Rattle.acvp_registry.specs.declared.kind.Kind.{Kind}
use Rattle.acvp_registry.specs.declared.kind.Kind.TheVariants.{Vendor, Module, Environment, Certification}
use Rattle.acvp_tables.specs.Content.{Content, count_of as rows_of, counts_of, objects_of, request_at, purpose_of}
use Rattle.acvp_tables.specs.declared.summary.Counted.TheVariants.{Objects}
use Rattle.acvp_tables.specs.Next.{IsNextApproved, IsNextOrderFor, IsWaiting}
use Rattle.acvp_tables.specs.State.{State, own, owner_of, first_of_account, has_registered, has_vendor, is_sound_body}
use Rattle.acvp_tables.specs.State.{objects_in, record_counts, state_of, IsWellNumbered}
use Rattle.acvp_tables.specs.declared.change.OrderChange.TheVariants as order_change
use Rattle.acvp_tables.specs.declared.rows.RequestBody.{RequestBody}
use Rattle.acvp_tables.specs.declared.rows.RequestBody.TheVariants as body
use Rattle.acvp_tables.specs.declared.rows.RequestRow.{RequestRow}
use Rattle.acvp_tables.specs.declared.rows.RequestStatus.{RequestStatus}
use Rattle.acvp_tables.specs.declared.rows.RequestStatus.TheVariants as status
use Rattle.acvp_desk.specs.Orders.{approved_as, approved_number, count_of_kind, if_initial, is_initial, waiting_request}

-- what is found among rows that pass a test passes it
pub found_passes : {X : Type 0} (p q : X → Bool) (xs : List X) (x : X) → find p xs ≡ Some x → list_all q xs ≡ true
    → q x ≡ true
found_passes p q [] x is all = absurd (cc)
found_passes {X = X} p q (y ∷ xs) x is all = go (p y) refl (q y) refl is (found_passes p q xs x)
  where
    go : (a : Bool) → p y ≡ a → (b : Bool) → q y ≡ b → (if a then Some y else find p xs) ≡ Some x
        → (find p xs ≡ Some x → list_all q xs ≡ true → q x ≡ true) → q x ≡ true
    go a e false f is later = absurd (let all = rw f at all in cc)
    go true e true f is later = let same : y ≡ x = cc in rw (← same) f
    go false e true f is later = later is (rw f at all)

-- a request that is kept registers no certification
no_certification : (vendor : Bool) (object : KeptObject) → object.kind ≡ Certification
    → (not (is_some (object_fault object.kind object.value)) && vendor) ≡ true → ⊥
unfolding object_fault is_fit
no_certification vendor object is sound = absurd (let sound = rw is at sound in cc)

counted : (objects : (u : ℕ) (kind : Kind) (state : State)
    → objects_in kind (own u state).objects ≡ objects_of kind u state.objects)
    → (state : State) (u : ℕ) (kind : Kind) → (kind ≡ Certification → ⊥)
    → count_of_kind kind (record_counts u state) ≡ length (objects_in kind (own u state).objects)
counted objects state u Vendor other = ap length (sym (objects u Vendor state))
counted objects state u Module other = ap length (sym (objects u Module state))
counted objects state u Environment other = ap length (sym (objects u Environment state))
counted objects state u Certification other = absurd (other refl)

few_pass : {X : Type 0} (p : X → Bool) (xs : List X) → length (filter p xs) ≤ length xs
few_pass p [] = omega arith
few_pass p (x ∷ xs) = go (p x) (few_pass p xs)
  where
    go : (b : Bool) → length (filter p xs) ≤ length xs
        → length (if b then x ∷ filter p xs else filter p xs) ≤ suc (length xs)
    go true few = omega (arith, few)
    go false few = omega (arith, few)

-- in sound records an account has at most 999999 objects of a kind
pub few_of_kind : (objects : (u : ℕ) (kind : Kind) (state : State)
    → objects_in kind (own u state).objects ≡ objects_of kind u state.objects)
    → (state : State) → IsWellNumbered state → (u : ℕ) (kind : Kind)
    → count_of_kind kind (record_counts u state) ≤ 999999
unfolding IsWellNumbered
few_of_kind objects state well u kind = go kind
  where
    few : (kind : Kind) → length (objects_in kind (own u state).objects) ≤ 999999
    few kind =
        let asked = (well u).asked_for kind in
        let most = (well u).few_requests in
        let fewer = few_pass (has_registered kind) (own u state).requests in
        omega (arith, asked, most, fewer)

    go : (kind : Kind) → count_of_kind kind (record_counts u state) ≤ 999999
    go Vendor = rw (objects u Vendor state) at (few Vendor)
    go Module = rw (objects u Module state) at (few Module)
    go Environment = rw (objects u Environment state) at (few Environment)
    go Certification = omega arith

status_is : (s : RequestStatus) → is_initial s ≡ true → s ≡ status.Initial
status_is status.Initial e = refl
status_is (status.Approved n) e = absurd (cc)
status_is status.Rejected e = absurd (cc)

-- a request that is there is among its account's, and what it names is there
module _ (requests : (u n : ℕ) (state : State) → IsWellNumbered state
    → request_at n (own u state).requests ≡ (if owner_of n == u then request_at n state.requests else None))
    (state : State) (well : IsWellNumbered state) (n : ℕ) (row : RequestRow)
    (there : request_at n state.requests ≡ Some row) where
  pub own_request : request_at n (own (owner_of n) state).requests ≡ Some row
  own_request = let same : (owner_of n == owner_of n) ≡ true = grind (arith, nat_tests) in
      rw (requests (owner_of n) n state well, same) there

  pub sound_request : is_sound_body (own (owner_of n) state) row.body ≡ true
  unfolding IsWellNumbered
  sound_request = found_passes (λ (r : RequestRow). r.number == n)
      (λ (r : RequestRow). is_sound_body (own (owner_of n) state) r.body)
      (own (owner_of n) state).requests row own_request (asked_of well)
    where
      asked_of : IsWellNumbered state
          → list_all (λ (r : RequestRow). is_sound_body (own (owner_of n) state) r.body)
          (own (owner_of n) state).requests ≡ true
      asked_of well = (well (owner_of n)).asked

module _ (requests : (u n : ℕ) (state : State) → IsWellNumbered state
    → request_at n (own u state).requests ≡ (if owner_of n == u then request_at n state.requests else None))
    (names : (n : ℕ) (state : State) (row : RequestRow) → IsWellNumbered state → request_at n state.requests ≡ Some row
    → row.account ≡ owner_of n)
    (objects : (u : ℕ) (kind : Kind) (state : State)
    → objects_in kind (own u state).objects ≡ objects_of kind u state.objects)
    (state : State) (well : IsWellNumbered state) (n : ℕ) (row : RequestRow)
    (found : waiting_request n state ≡ Some row) where
  pub record IsThere : Type 0 where
    pub there : request_at n state.requests ≡ Some row
    pub initial : row.status ≡ status.Initial

  pub is_there : IsThere
  is_there = go (request_at n state.requests) refl found
    where
      at : (r : RequestRow) (b : Bool) → is_initial r.status ≡ b → request_at n state.requests ≡ Some r
          → (if b then Some r else None) ≡ Some row → IsThere
      at r true i e is = let same : r ≡ row = cc in
          record { there = rw (← same) e; initial = rw (← same) (status_is r.status i) }
      at r false i e is = absurd (cc)

      go : (r : Option RequestRow) → request_at n state.requests ≡ r → option_and_then if_initial r ≡ Some row → IsThere
      go None e is = absurd (cc)
      go (Some r) e is = at r (is_initial r.status) refl e is

  waits : IsWaiting n (own (owner_of n) state)
  waits = record {
    row = row;
    there = own_request requests state well n row is_there.there;
    initial = is_there.initial;
  }

  pub rejected_next : IsNextOrderFor (own (owner_of n) state) (order_change.Reject n)
  rejected_next = waits

  pub number_next : IsNextApproved (owner_of n) (own (owner_of n) state) row.body (approved_number state row)
  number_next =
      rw (names n state row well is_there.there) (go row.body (sound_request requests state well n row is_there.there))
    where
      go : (b : RequestBody) → is_sound_body (own (owner_of n) state) b ≡ true
          → IsNextApproved (owner_of n) (own (owner_of n) state) b (approved_as state (owner_of n) (purpose_of b))
      go (body.Registration object) kept = ap (λ k. first_of_account (owner_of n) + k)
          (counted objects state (owner_of n) object.kind
          (λ is. no_certification (has_vendor (own (owner_of n) state).objects object) object is kept))
      go (body.Certification c) kept = refl

  pub approved_next : IsNextOrderFor (own (owner_of n) state)
      (order_change.Approve (record { request = n; approved = approved_number state row }))
  unfolding waits
  approved_next = (waits, number_next)

-- how many of a kind are registered, by the count of its objects
pub registered_as : (kind : Kind) (u : ℕ) (c : Content) (count registered : ℕ)
    → record_counts u (state_of c) ≡ counts_of u c → count ≡ rows_of (Objects kind) u c
    → (kind ≢ Certification → registered ≡ count) → (kind ≡ Certification → registered ≡ 0)
    → registered ≡ count_of_kind kind (record_counts u (state_of c))
registered_as Vendor u c count registered follows is some none = some (λ e. let impossible = e in cc) ∙ is
    ∙ ap (λ n. n.vendors) (sym follows)
registered_as Module u c count registered follows is some none = some (λ e. let impossible = e in cc) ∙ is
    ∙ ap (λ n. n.modules) (sym follows)
registered_as Environment u c count registered follows is some none = some (λ e. let impossible = e in cc) ∙ is
    ∙ ap (λ n. n.environments) (sym follows)
registered_as Certification u c count registered follows is some none = none refl
