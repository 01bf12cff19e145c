-- The rows of an account, by the range of their numbers.
use Rattle.std.proofs.Common.{◌≡◌, ◌<◌, ◌≤◌, ℕ, zero, suc, ◌+◌, ◌*◌, List, [], ◌∷◌, map, drop, length, Bool, true}
use Rattle.std.proofs.Common.{false, refl, sym, ap, subst, ◌∙◌, arith}
use Rattle.std.specs.Prelude.{◌==◌, ◌&&◌, filter}
use Rattle.acvp_tables.specs.State.{IsWellNumbered, state_of, own}
use Rattle.acvp_tables.proofs.Numbers.{keyed, few_objects}
use Rattle.acvp_store.proofs.Words.{AllByRecursion, AreWellNumbered, Content, filter-map, first_of_account, IsAscending}
use Rattle.acvp_store.proofs.Words.{IsNumbered, Kind, length-map, list_all, map-map, nat_le, nat_tests, ObjectRow}
use Rattle.acvp_store.proofs.Words.{objects_in, objects_of, owner_of, range_with_len, RequestRow, requests_of}
use Rattle.acvp_store.proofs.Words.{session_record, SessionRow, sessions_of}

abbrev pub last_number : ℕ → ℕ
last_number account = account * 1000000 + 999999

module _ {A : Type 0} (key account : A → ℕ) where
  -- its number is one of the account's, from that on which lies so far behind the first
  abbrev pub in_range : ℕ → ℕ → A → Bool
  in_range u o a = nat_le (first_of_account u + o) (key a) && nat_le (key a) (last_number u)

  abbrev pub of_account : ℕ → A → Bool
  of_account u a = account a == u

  -- each number is one of its account's
  abbrev pub IsKeyed : List A → Type 0
  IsKeyed list = list_all (λ a. owner_of (key a) == account a) list ≡ true

  -- its number lies at least so high
  abbrev from : ℕ → A → Bool
  from m a = nat_le m (key a)

  same_test : (u o : ℕ) (a : A) → (owner_of (key a) == account a) ≡ true
      → in_range u o a ≡ (of_account u a && from (first_of_account u + o) a)
  same_test u o a is = grind (arith, nat_tests, is)

  -- of those that pass
  range_of : (u o : ℕ) (q : A → Bool) (list : List A) → IsKeyed list
      → filter (λ a. q a && in_range u o a) list ≡ filter (from (first_of_account u + o))
      (filter (λ a. q a && of_account u a) list)
  range_of u o q [] is = refl
  range_of u o q (a ∷ list) is = grind (arith, nat_tests, same_test u o a, range_of u o q list)

  from_below : (m i : ℕ) (list : List A) → m ≤ i → IsNumbered key i list → filter (from m) list ≡ list
  from_below m i [] low is = refl
  from_below m i (a ∷ list) low is =
      let here : key a ≡ i = cc (is) in
      let rest : IsNumbered key (i + 1) list = cc (is) in
      let passes : from m a ≡ true = grind (arith, nat_tests, here) in
      rw passes (ap (λ xs. a ∷ xs) (from_below m (i + 1) list (omega arith) rest))

  from_drops : (o i : ℕ) (list : List A) → IsNumbered key i list → filter (from (i + o)) list ≡ drop o list
  from_drops zero i list is = from_below (i + zero) i list (omega arith) is
  from_drops (suc o) i [] is = refl
  from_drops (suc o) i (a ∷ list) is =
      let here : key a ≡ i = cc (is) in
      let rest : IsNumbered key (i + 1) list = cc (is) in
      let fails : from (i + suc o) a ≡ false = grind (arith, nat_tests, here) in
      let same : i + suc o ≡ (i + 1) + o = omega arith in
      rw fails (ap (λ m. filter (from m) list) same ∙ from_drops o (i + 1) list rest)

  -- those that pass, without as many of the first
  pub range_drops : (u o : ℕ) (q : A → Bool) (list : List A) → IsKeyed list
      → IsNumbered key (first_of_account u) (filter (λ a. q a && of_account u a) list)
      → filter (λ a. q a && in_range u o a) list ≡ drop o (filter (λ a. q a && of_account u a) list)
  range_drops u o q list is numbered = range_of u o q list is
      ∙ from_drops o (first_of_account u) (filter (λ a. q a && of_account u a) list) numbered

-- ---- in order

beyond : {A : Type 0} (key : A → ℕ) (m i : ℕ) (list : List A) → m < i → IsNumbered key i list
    → AllByRecursion (λ b. m < key b) list
beyond key m i [] low is = tt
beyond key m i (a ∷ list) low is =
    let here : key a ≡ i = cc (is) in
    let rest : IsNumbered key (i + 1) list = cc (is) in
    (omega arith, beyond key m (i + 1) list (omega arith) rest)

rising : {A : Type 0} (key : A → ℕ) (i : ℕ) (list : List A) → IsNumbered key i list
    → IsAscending (λ a b. key a < key b) list
rising key i [] is = tt
rising key i (a ∷ list) is =
    let here : key a ≡ i = cc (is) in
    let rest : IsNumbered key (i + 1) list = cc (is) in
    (beyond key (key a) (i + 1) list (omega arith) rest, rising key (i + 1) list rest)

pub rising_dropped : {A : Type 0} (key : A → ℕ) (o i : ℕ) (list : List A) → IsNumbered key i list
    → IsAscending (λ a b. key a < key b) (drop o list)
rising_dropped key zero i list is = rising key i list is
rising_dropped key (suc o) i [] is = tt
rising_dropped key (suc o) i (a ∷ list) is =
    let rest : IsNumbered key (i + 1) list = cc (is) in
    rising_dropped key o (i + 1) list rest

-- ---- of well numbered rows

all_mapped : {A B : Type 0} (f : A → B) (p : B → Bool) (list : List A) → list_all p (map f list) ≡ true
    → list_all (λ a. p (f a)) list ≡ true
all_mapped f p [] h = refl
all_mapped f p (a ∷ list) h = grind (arith, h, all_mapped f p list)

pub record Selection {A : Type 0} (key : A → ℕ) (u : ℕ) (list : List A) : Type 0 where
  pub numbered : IsNumbered key (first_of_account u) list
  pub few : length list ≤ 999999

pub session_numbers : (c : Content) → AreWellNumbered c
    → IsKeyed (λ (s : SessionRow). s.number) (λ s. s.account) c.sessions
unfolding state_of
session_numbers c sound =
    all_mapped session_record (λ r. owner_of r.number == r.account) c.sessions (keyed (state_of c) sound).sessions

pub session_selection : (c : Content) (u : ℕ) → AreWellNumbered c
    → Selection (λ (s : SessionRow). s.number) u (sessions_of u c.sessions)
unfolding IsWellNumbered own state_of
session_selection c u sound =
    let mine = filter-map (λ r. r.account == u) session_record c.sessions in
    let numbered = rw mine at (sound u).sessions in
    let few = rw mine at (sound u).few_sessions in
    record {
      numbered = sym (map-map (λ r. r.number) session_record (sessions_of u c.sessions)) ∙ numbered
          ∙ ap (range_with_len (first_of_account u)) (length-map (sessions_of u c.sessions) session_record);
      few = subst (λ n. n ≤ 999999) (length-map (sessions_of u c.sessions) session_record) few;
    }

pub request_numbers : (c : Content) → AreWellNumbered c
    → IsKeyed (λ (r : RequestRow). r.number) (λ r. r.account) c.requests
unfolding state_of
request_numbers c sound = (keyed (state_of c) sound).requests

pub request_selection : (c : Content) (u : ℕ) → AreWellNumbered c
    → Selection (λ (r : RequestRow). r.number) u (requests_of u c.requests)
unfolding IsWellNumbered own state_of
request_selection c u sound = record {
  numbered = (sound u).requests;
  few = (sound u).few_requests;
}

pub object_numbers : (c : Content) → AreWellNumbered c
    → IsKeyed (λ (o : ObjectRow). o.number) (λ o. o.account) c.objects
unfolding state_of
object_numbers c sound = (keyed (state_of c) sound).objects

within_account : (kind : Kind) (u : ℕ) (objects : List ObjectRow)
    → objects_in kind (filter (λ row. row.account == u) objects) ≡ objects_of kind u objects
within_account kind u [] = refl
within_account kind u (o ∷ objects) = grind (arith, nat_tests, within_account kind u objects)

pub object_selection : (c : Content) (kind : Kind) (u : ℕ) → AreWellNumbered c
    → Selection (λ (o : ObjectRow). o.number) u (objects_of kind u c.objects)
unfolding IsWellNumbered own state_of
object_selection c kind u sound = record {
  numbered = subst (λ list. IsNumbered (λ (o : ObjectRow). o.number) (first_of_account u) list)
      (within_account kind u c.objects) ((sound u).objects kind);
  few = subst (λ list. length list ≤ 999999) (within_account kind u c.objects)
      (few_objects u (own u (state_of c)) kind (sound u));
}
