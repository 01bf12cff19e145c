-- What every run leaves of registrations, among rows that change.
use Rattle.std.proofs.Common.{◌≡◌, ℕ, ◌+◌, ◌≤◌, List, [], ◌∷◌, ◌++◌, length, Bool, true, false, Option, None, Some}
use Rattle.std.proofs.Common.{refl, ap, arith}
use Rattle.std.specs.Prelude.{filter, find, option_map, ◌==◌, ◌&&◌, if◌then◌else◌}
use Rattle.std.specs.List.{list_all}
use Rattle.std.proofs.lemmas.Bool.Decides.{nat_tests}
use Rattle.std.proofs.lemmas.Slice.Eq.{bytes_eq-Decides}
use Rattle.acvp_policy.specs.Conditions.{is_some_and}
use Rattle.acvp_registry.specs.Object.{KeptObject, object_text}
use Rattle.acvp_registry.specs.declared.kind.Kind.{Kind}
use Rattle.acvp_registry.specs.declared.kind.Kind.TheVariants.{Vendor, Module, Environment, Certification}
use Rattle.acvp_tables.specs.Changes.{changed, is_request, new_objects, with_status}
use Rattle.acvp_tables.specs.Content.{is_kind, object_at, request_at}
use Rattle.acvp_tables.specs.State.{IsNumbered, given_number, is_approved_as, is_registration_of, of_all, owner_of}
use Rattle.acvp_tables.specs.declared.rows.ObjectRow.{ObjectRow}
use Rattle.acvp_tables.specs.declared.rows.RequestBody.{RequestBody}
use Rattle.acvp_tables.specs.declared.rows.RequestBody.TheVariants as body
use Rattle.acvp_tables.specs.declared.rows.RequestRow.{RequestRow}
use Rattle.acvp_tables.specs.declared.rows.RequestStatus.{RequestStatus}
use Rattle.acvp_tables.specs.declared.rows.RequestStatus.TheVariants as status
use Rattle.acvp_tables.proofs.Numbers.{same_kind}
use Rattle.acvp_desk.specs.Registrations.{is_as_asked, is_first_given, is_given, is_given_once, is_object_of}
use Rattle.acvp_desk.specs.Registrations.{is_there_as_asked}
use Rattle.acvp_desk.proofs.CertifiedRows.{appended, behind, found_is, request_changed}

-- ---- rows that are found

-- one that is found and passes is counted
found_counts : {R : Type 0} (p q : R → Bool) (rows : List R) (x : R) → find p rows ≡ Some x → q x ≡ true
    → 1 ≤ length (filter q rows)
found_counts p q [] x found on = absurd (cc)
found_counts {R = R} p q (r ∷ rows) x found on = go (p r) refl (q r) refl found (found_counts p q rows x)
  where
    go : (a : Bool) → p r ≡ a → (b : Bool) → q r ≡ b → (if a then Some r else find p rows) ≡ Some x
        → (find p rows ≡ Some x → q x ≡ true → 1 ≤ length (filter q rows)) → 1 ≤ length (filter q (r ∷ rows))
    go a e true f found later = rw f (omega arith)
    go true e false f found later = let same : r ≡ x = cc in absurd (let on = rw (← same, f) at on in cc)
    go false e false f found later = rw f (later found on)

-- among rows whose numbers differ, one that is found is found by its number
pub by_number : {R : Type 0} (number : R → ℕ) (p : R → Bool) (rows : List R) (x : R) → find p rows ≡ Some x
    → length (filter (λ r. number r == number x) rows) ≤ 1 → find (λ r. number r == number x) rows ≡ Some x
by_number number p [] x found once = absurd (cc)
by_number {R = R} number p (r ∷ rows) x found once =
    go (p r) refl (number r == number x) refl found once (by_number number p rows x)
  where
    itself : (number x == number x) ≡ true
    itself = grind (arith, nat_tests)

    go : (a : Bool) → p r ≡ a → (b : Bool) → (number r == number x) ≡ b
        → (if a then Some r else find p rows) ≡ Some x
        → length (filter (λ r. number r == number x) (r ∷ rows)) ≤ 1
        → (find p rows ≡ Some x → length (filter (λ r. number r == number x) rows) ≤ 1
        → find (λ r. number r == number x) rows ≡ Some x)
        → find (λ r. number r == number x) (r ∷ rows) ≡ Some x
    go true e b f found once later = let same : r ≡ x = cc in rw (same, itself) refl
    go false e true f found once later =
        let more = found_counts p (λ r. number r == number x) rows x found itself in
        absurd (omega (arith, more, rw f at once))
    go false e false f found once later = rw f (later found (rw f at once))

-- where each row is of the class that its number names, those of a number are in that class
pub filtered_own : {R : Type 0} (number class : R → ℕ) (n : ℕ) (rows : List R)
    → list_all (λ r. owner_of (number r) == class r) rows ≡ true
    → filter (λ r. number r == n) (filter (λ r. class r == owner_of n) rows) ≡ filter (λ r. number r == n) rows
filtered_own number class n [] all = refl
filtered_own {R = R} number class n (r ∷ rows) all =
    grind (arith, nat_tests, tells, filtered_own number class n rows)
  where
    tells : (owner_of (number r) == class r) ≡ true → (number r == n) ≡ true → (class r == owner_of n) ≡ true
    tells keyed at = grind (arith, nat_tests, keyed, at)

-- ---- rows of which one changes

unchanged : {R : Type 0} (test : R → Bool) (f : R → R) (rows : List R) → length (filter test rows) ≤ 0
    → changed test f rows ≡ rows
unchanged test f [] few = refl
unchanged {R = R} test f (r ∷ rows) few = go (test r) refl few (unchanged test f rows)
  where
    go : (b : Bool) → test r ≡ b → length (filter test (r ∷ rows)) ≤ 0
        → (length (filter test rows) ≤ 0 → changed test f rows ≡ rows) → changed test f (r ∷ rows) ≡ r ∷ rows
    go true e few later = absurd (omega (arith, rw e at few))
    go false e few later = rw e (ap (λ rest. r ∷ rest) (later (rw e at few)))

module _ {R : Type 0} (p test : R → Bool) (f : R → R) (x : R) where
  -- where it doesn't pass, before and after, the same is found
  pub same_found : p x ≡ false → p (f x) ≡ false → (rows : List R) → find test rows ≡ Some x
      → length (filter test rows) ≤ 1 → find p (changed test f rows) ≡ find p rows
  same_found off out [] found once = refl
  same_found off out (r ∷ rows) found once = go (test r) refl found once (same_found off out rows)
    where
      go : (b : Bool) → test r ≡ b → (if b then Some r else find test rows) ≡ Some x
          → length (filter test (r ∷ rows)) ≤ 1
          → (find test rows ≡ Some x → length (filter test rows) ≤ 1 → find p (changed test f rows) ≡ find p rows)
          → find p (changed test f (r ∷ rows)) ≡ find p (r ∷ rows)
      go true e found once later =
          let same : r ≡ x = cc in
          let few : length (filter test rows) ≤ 0 = omega (arith, rw e at once) in
          rw (e, same, off, out, unchanged test f rows few) refl
      go false e found once later =
          rw e (ap (λ rest. if p r then Some r else rest) (later found (rw e at once)))

  -- where it passes then, and none did, it is found
  pub new_found : p (f x) ≡ true → (rows : List R) → find test rows ≡ Some x → find p rows ≡ None
      → find p (changed test f rows) ≡ Some (f x)
  new_found on [] found none = absurd (cc)
  new_found on (r ∷ rows) found none = go (test r) refl (p r) refl found none (new_found on rows)
    where
      go : (b : Bool) → test r ≡ b → (a : Bool) → p r ≡ a → (if b then Some r else find test rows) ≡ Some x
          → (if a then Some r else find p rows) ≡ None
          → (find test rows ≡ Some x → find p rows ≡ None → find p (changed test f rows) ≡ Some (f x))
          → find p (changed test f (r ∷ rows)) ≡ Some (f x)
      go true e a g found none later = let same : r ≡ x = cc in rw (e, same, on) refl
      go false e true g found none later = absurd (cc)
      go false e false g found none later = rw (e, g) (later found none)

-- ---- numbers without gaps

-- no row of the kind has the next number
pub none_next : {R : Type 0} (number : R → ℕ) (q : R → Bool) (i k : ℕ) (rows : List R)
    → IsNumbered number i (filter q rows) → k ≡ i + length (filter q rows)
    → find (λ r. q r && (number r == k)) rows ≡ None
none_next number q i k [] numbered next = refl
none_next {R = R} number q i k (r ∷ rows) numbered next =
    go (q r) refl numbered next (none_next number q i k rows) (none_next number q (i + 1) k rows)
  where
    go : (b : Bool) → q r ≡ b → IsNumbered number i (filter q (r ∷ rows)) → k ≡ i + length (filter q (r ∷ rows))
        → (IsNumbered number i (filter q rows) → k ≡ i + length (filter q rows)
        → find (λ r. q r && (number r == k)) rows ≡ None)
        → (IsNumbered number (i + 1) (filter q rows) → k ≡ (i + 1) + length (filter q rows)
        → find (λ r. q r && (number r == k)) rows ≡ None)
        → find (λ r. q r && (number r == k)) (r ∷ rows) ≡ None
    go true e numbered next here past =
        let numbered' = rw e at numbered in
        let first : number r ≡ i = cc (numbered') in
        let rest : IsNumbered number (i + 1) (filter q rows) = cc (numbered') in
        let far = rw e at next in
        let off : (number r == k) ≡ false = grind (arith, nat_tests, first, far) in
        rw (e, off) (past rest (omega (arith, far)))
    go false e numbered next here past = rw e (here (rw e at numbered) (rw e at next))

-- ---- what holds of all requests

-- where a request comes
pub all_with_request : (q then_holds : RequestRow → Bool) (requests : List RequestRow) (new : RequestRow)
    → ((r : RequestRow) → q r ≡ true → then_holds r ≡ true) → then_holds new ≡ true
    → ((m : ℕ) → of_all q (request_at m requests) ≡ true)
    → (m : ℕ) → of_all then_holds (request_at m (requests ++ new ∷ [])) ≡ true
all_with_request q then_holds requests new stays holds all m = go (request_at m requests) refl (all m)
  where
    added : (b : Bool) → of_all then_holds (if b then Some new else None) ≡ true
    added true = holds
    added false = refl

    go : (found : Option RequestRow) → request_at m requests ≡ found → of_all q found ≡ true
        → of_all then_holds (request_at m (requests ++ new ∷ [])) ≡ true
    go None found is = rw (behind (λ r. r.number == m) requests (new ∷ []) found) (added (new.number == m))
    go (Some r) found is = rw (appended (λ r. r.number == m) requests (new ∷ []) r found) (stays r is)

-- where one is decided
pub all_with_status : (q then_holds : RequestRow → Bool) (n : ℕ) (s : RequestStatus) (requests : List RequestRow)
    (row : RequestRow) → request_at n requests ≡ Some row
    → ((r : RequestRow) → q r ≡ true → then_holds r ≡ true) → then_holds (with_status s row) ≡ true
    → ((m : ℕ) → of_all q (request_at m requests) ≡ true)
    → (m : ℕ) → of_all then_holds (request_at m (changed (is_request n) (with_status s) requests)) ≡ true
all_with_status q then_holds n s requests row there stays holds all m =
    rw (request_changed n (with_status s) (λ r. refl) m requests) (go (request_at m requests) refl (all m))
  where
    at : (r : RequestRow) → request_at m requests ≡ Some r → q r ≡ true → (b : Bool) → (r.number == n) ≡ b
        → then_holds (if b then with_status s r else r) ≡ true
    at r found is false e = stays r is
    at r found is true e =
        let its : (r.number == m) ≡ true = found_is (λ r. r.number == m) requests r found in
        let equal : m ≡ n = grind (arith, nat_tests, its, e) in
        let found = rw equal at found in
        let same : r ≡ row = cc in
        rw same holds

    go : (found : Option RequestRow) → request_at m requests ≡ found → of_all q found ≡ true
        → of_all then_holds (option_map (λ r. if is_request n r then with_status s r else r) found) ≡ true
    go None found is = refl
    go (Some r) found is = at r found is (r.number == n) refl

-- ---- objects as they were asked for

pub asked_with_more : (objects more : List ObjectRow) (r : RequestRow) → is_as_asked objects r ≡ true
    → is_as_asked (objects ++ more) r ≡ true
asked_with_more objects more r is = go r.body (given_number r.status) is
  where
    found : (asked : KeptObject) (k : ℕ) (o : Option ObjectRow) → object_at asked.kind k objects ≡ o
        → is_some_and o (is_object_of r.account asked) ≡ true
        → is_some_and (object_at asked.kind k (objects ++ more)) (is_object_of r.account asked) ≡ true
    found asked k None e is = absurd (cc)
    found asked k (Some o) e is =
        rw (appended (λ (o : ObjectRow). is_kind o.object.kind asked.kind && (o.number == k)) objects more o e) is

    go : (b : RequestBody) (given : Option ℕ) → of_all (is_there_as_asked objects r.account b) given ≡ true
        → of_all (is_there_as_asked (objects ++ more) r.account b) given ≡ true
    go b None is = refl
    go (body.Registration asked) (Some k) is = found asked k (object_at asked.kind k objects) refl is
    go (body.Certification c) (Some k) is = refl

-- what an approval registers is as it was asked for, where the number is free
pub asked_of_new : (objects : List ObjectRow) (account k : ℕ) (b : RequestBody)
    → ((asked : KeptObject) → b ≡ body.Registration asked → object_at asked.kind k objects ≡ None)
    → is_there_as_asked (objects ++ new_objects account b k) account b k ≡ true
asked_of_new objects account k (body.Certification c) free = refl
asked_of_new objects account k (body.Registration asked) free =
    let new : ObjectRow = record { number = k; account = account; object = asked } in
    let itself : (k == k) ≡ true = grind (arith, nat_tests) in
    let own : (account == account) ≡ true = grind (arith, nat_tests) in
    let text = (bytes_eq-Decides (object_text asked) (object_text asked)).1 refl in
    rw (
      behind (λ (o : ObjectRow). is_kind o.object.kind asked.kind && (o.number == k)) objects (new ∷ [])
          (free asked refl),
      same_kind asked.kind,
      itself,
      own,
      text,
    ) refl

-- ---- numbers that are given once

pub once_stays : (requests later : List RequestRow)
    → ((kind : Kind) (k : ℕ) (x : RequestRow) → find (is_given kind k) requests ≡ Some x
    → find (is_given kind k) later ≡ Some x)
    → (r : RequestRow) → is_given_once requests r ≡ true → is_given_once later r ≡ true
once_stays requests later same r is = go r.body (given_number r.status) is
  where
    at : (kind : Kind) (k : ℕ) (x : Option RequestRow) → find (is_given kind k) requests ≡ x
        → is_some_and x (λ x. x.number == r.number) ≡ true
        → is_some_and (find (is_given kind k) later) (λ x. x.number == r.number) ≡ true
    at kind k None e is = absurd (cc)
    at kind k (Some x) e is = rw (same kind k x e) is

    go : (b : RequestBody) (given : Option ℕ) → of_all (is_first_given requests r.number b) given ≡ true
        → of_all (is_first_given later r.number b) given ≡ true
    go b None is = refl
    go (body.Registration asked) (Some k) is = at asked.kind k (find (is_given asked.kind k) requests) refl is
    go (body.Certification c) (Some k) is = refl

-- a request that isn't approved with a number gives none
pub gives_none : (kind : Kind) (k : ℕ) (r : RequestRow) → is_approved_as k r.status ≡ false → is_given kind k r ≡ false
gives_none kind k r off = rw off (go (is_registration_of kind r.body))
  where
    go : (b : Bool) → (b && false) ≡ false
    go true = refl
    go false = refl

-- and one that is gives it
pub gives : (asked : KeptObject) (k : ℕ) (r : RequestRow) → r.body ≡ body.Registration asked
    → r.status ≡ status.Approved k → is_given asked.kind k r ≡ true
gives asked k r asks approved = rw (asks, approved, same_kind asked.kind) (grind (arith, nat_tests))

kind_is : (a b : Kind) → is_kind a b ≡ true → a ≡ b
kind_is Vendor Vendor e = refl
kind_is Module Module e = refl
kind_is Environment Environment e = refl
kind_is Certification Certification e = refl
kind_is _ _ e = cc

-- what a request gives is of the kind that it asks for, under the number that its approval has
pub record Gives (kind : Kind) (k : ℕ) (r : RequestRow) : Type 0 where
  pub object : KeptObject
  pub asks : r.body ≡ body.Registration object
  pub of_kind : object.kind ≡ kind
  pub approved : r.status ≡ status.Approved k

pub given_is : (kind : Kind) (k : ℕ) (r : RequestRow) → is_given kind k r ≡ true → Gives kind k r
given_is kind k r is = go r.body refl r.status refl is
  where
    go : (b : RequestBody) → r.body ≡ b → (s : RequestStatus) → r.status ≡ s
        → (is_registration_of kind b && is_approved_as k s) ≡ true → Gives kind k r
    go (body.Certification c) e s f is = absurd (cc)
    go (body.Registration object) e status.Initial f is = absurd (grind (arith, nat_tests, is))
    go (body.Registration object) e status.Rejected f is = absurd (grind (arith, nat_tests, is))
    go (body.Registration object) e (status.Approved m) f is =
        let of : is_kind object.kind kind ≡ true = grind (arith, nat_tests, is) in
        let equal : m ≡ k = grind (arith, nat_tests, is) in
        record { object = object; asks = e; of_kind = kind_is object.kind kind of; approved = rw (← equal) f }

-- no request gave a number under which no object is
pub none_gave : (objects : List ObjectRow) (kind : Kind) (k : ℕ) (r : RequestRow) → object_at kind k objects ≡ None
    → is_given kind k r ≡ true → is_as_asked objects r ≡ true → ⊥
none_gave objects kind k r free given is =
    let it = given_is kind k r given in
    by it.object it.asks it.of_kind it.approved
  where
    by : (object : KeptObject) → r.body ≡ body.Registration object → object.kind ≡ kind → r.status ≡ status.Approved k
        → ⊥
    by object asks of approved = absurd (let is = rw (asks, approved, of, free) at is in cc)
