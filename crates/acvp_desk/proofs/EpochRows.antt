-- The epochs of vector sets, among rows that change and rows that come.
use Rattle.std.proofs.Common.{◌≡◌, ℕ, ◌+◌, ◌*◌, ◌≤◌, List, [], ◌∷◌, ◌++◌, length, map, Bool, true, false, Some, None}
use Rattle.std.proofs.Common.{refl, arith}
use Rattle.std.proofs.lemmas.Bool.Decides.{nat_tests}
use Rattle.std.proofs.lemmas.List.Elements.{All-head, All-tail}
use Rattle.std.proofs.lemmas.List.Folds.{list_all-append}
use Rattle.std.proofs.lemmas.Option.{slice_get_within}
use Rattle.std.specs.Prelude.{All, filter, find, is_some, nat_le, nat_lt, not, ◌==◌, ◌&&◌, ◌||◌, if◌then◌else◌}
use Rattle.std.specs.List.{list_all}
use Rattle.acvp_caps.specs.Capability.{CapabilityValue}
use Rattle.acvp_tables.specs.Changes.{changed, new_sets}
use Rattle.acvp_tables.specs.State.{IsNumbered, SessionRecord, SetRecord, first_of_account, owner_of, session_record_at}
use Rattle.acvp_tables.specs.State.{set_record}
use Rattle.acvp_tables.specs.declared.rows.SetRow.{SetRow}
use Rattle.acvp_tables.proofs.KeptLemmas.{list_all_weaker, past_last}
use Rattle.acvp_desk.specs.Epochs.{is_in_its_epoch, is_no_earlier}
use Rattle.acvp_desk.specs.Kept.{IsGradedSet}
use Rattle.acvp_desk.specs.NewSessions.{newest_epoch}
use Rattle.acvp_desk.proofs.NextSession.{left_true, right_true}

-- ---- rows that change

-- where each row keeps its session and its epoch
module _ (f : SetRow → SetRow) (session : (r : SetRow) → (f r).session ≡ r.session)
    (epoch : (r : SetRow) → (f r).epoch ≡ r.epoch) where
  in_epoch_same : (others : List SetRow) (set : SetRow)
      → is_in_its_epoch (map f others) (f set) ≡ is_in_its_epoch others set
  in_epoch_same [] set = refl
  in_epoch_same (o ∷ others) set =
      rw (session o, session set, epoch o, epoch set, in_epoch_same others set) refl

  all_same : (others sets : List SetRow)
      → list_all (is_in_its_epoch (map f others)) (map f sets) ≡ list_all (is_in_its_epoch others) sets
  all_same others [] = refl
  all_same others (set ∷ sets) = rw (in_epoch_same others set, all_same others sets) refl

pub rising_once_changed : (test : SetRow → Bool) (f : SetRow → SetRow) → ((r : SetRow) → (f r).session ≡ r.session)
    → ((r : SetRow) → (f r).epoch ≡ r.epoch) → (sets : List SetRow)
    → list_all (is_in_its_epoch sets) sets ≡ true
    → list_all (is_in_its_epoch (changed test f sets)) (changed test f sets) ≡ true
rising_once_changed test f session epoch sets rising =
    rw (all_same (λ r. if test r then f r else r) (λ r. same_session r (test r)) (λ r. same_epoch r (test r)) sets sets)
    rising
  where
    same_session : (r : SetRow) (b : Bool) → (if b then f r else r).session ≡ r.session
    same_session r true = session r
    same_session r false = refl

    same_epoch : (r : SetRow) (b : Bool) → (if b then f r else r).epoch ≡ r.epoch
    same_epoch r true = epoch r
    same_epoch r false = refl

-- ---- rows that come

-- the vector set is another account's, or of a session before this one
abbrev pub is_before : ℕ → SetRow → Bool
is_before session set = not (owner_of set.session == owner_of session) || nat_lt set.session session

abbrev pub is_no_later : ℕ → SetRow → Bool
is_no_later epoch set = nat_le set.epoch epoch

module _ (session epoch : ℕ) where
  -- a vector set of an earlier session, beside those of a new one
  before_new : (set : SetRow) (i : ℕ) (capabilities : List CapabilityValue) → is_before session set ≡ true
      → is_in_its_epoch (new_sets session epoch i capabilities) set ≡ true
  before_new set i [] before = refl
  before_new set i (capability ∷ rest) before =
      rw (before_new set (i + 1) rest before) (go (owner_of set.session) (owner_of session) before)
    where
      go : (a b : ℕ) → (not (a == b) || nat_lt set.session session) ≡ true
          → ((not (b == a) || nat_lt set.session session || nat_le epoch set.epoch) && true) ≡ true
      go a b before = grind (arith, nat_tests, before)

  -- a vector set of the epoch, beside those of a session that was made under it
  among_new : (set : SetRow) (i : ℕ) (capabilities : List CapabilityValue) → set.epoch ≡ epoch
      → is_in_its_epoch (new_sets session epoch i capabilities) set ≡ true
  among_new set i [] under = refl
  among_new set i (capability ∷ rest) under =
      rw (among_new set (i + 1) rest under, under)
      (go (not (owner_of session == owner_of set.session)) (nat_lt set.session session))
    where
      go : (a b : Bool) → ((a || b || nat_le epoch epoch) && true) ≡ true
      go a b = grind (arith, nat_tests)

  module _ (sets : List SetRow) (no_later : list_all (is_no_later epoch) sets ≡ true) where
    -- a vector set of the epoch, beside those under no later one
    behind_old : (set : SetRow) → set.epoch ≡ epoch → is_in_its_epoch sets set ≡ true
    behind_old set under =
        list_all_weaker (is_no_later epoch) (λ other. is_no_earlier other set) (λ other is.
        grind (arith, nat_tests, under, is)) sets no_later

    each_new : (i : ℕ) (rest all : List CapabilityValue)
        → list_all (is_in_its_epoch (sets ++ new_sets session epoch 1 all)) (new_sets session epoch i rest) ≡ true
    each_new i [] all = refl
    each_new i (capability ∷ rest) all =
        let set : SetRow = record {
          number = session * 100 + i;
          session = session;
          capability = capability;
          epoch = epoch;
          cancelled = false;
          graded = None;
        } in
        rw (
          list_all-append (λ other. is_no_earlier other set) sets (new_sets session epoch 1 all),
          behind_old set refl,
          among_new set 1 all refl,
          each_new (i + 1) rest all,
        ) refl

    each_old : (rest : List SetRow) (all : List CapabilityValue) → list_all (is_before session) rest ≡ true
        → list_all (is_in_its_epoch sets) rest ≡ true
        → list_all (is_in_its_epoch (sets ++ new_sets session epoch 1 all)) rest ≡ true
    each_old [] all before rising = refl
    each_old (set ∷ rest) all before rising =
        let here = left_true (is_before session set) (list_all (is_before session) rest) before in
        let later = right_true (is_before session set) (list_all (is_before session) rest) before in
        rw (
          list_all-append (λ other. is_no_earlier other set) sets (new_sets session epoch 1 all),
          left_true (is_in_its_epoch sets set) (list_all (is_in_its_epoch sets) rest) rising,
          before_new set 1 all here,
          each_old rest all later
              (right_true (is_in_its_epoch sets set) (list_all (is_in_its_epoch sets) rest) rising),
        ) refl

    -- where the vector sets of a session come that is behind each other of its account, under the newest epoch
    pub rising_with_sets : list_all (is_before session) sets ≡ true → (capabilities : List CapabilityValue)
        → list_all (is_in_its_epoch sets) sets ≡ true
        → list_all (is_in_its_epoch (sets ++ new_sets session epoch 1 capabilities))
        (sets ++ new_sets session epoch 1 capabilities) ≡ true
    rising_with_sets before capabilities rising =
        let new = new_sets session epoch 1 capabilities in
        rw (
          list_all-append (is_in_its_epoch (sets ++ new)) sets new,
          each_old sets capabilities before rising,
          each_new 1 capabilities capabilities,
        ) refl

-- ---- rows that are there

-- no vector set's epoch is later than the newest
pub none_later : (seeds : List (List ℕ)) (epoch : ℕ) (sets : List SetRow) → newest_epoch seeds ≡ Some epoch
    → All (IsGradedSet seeds) sets → list_all (is_no_later epoch) sets ≡ true
unfolding IsGradedSet
none_later [] epoch sets newest graded = absurd (cc)
none_later (seed ∷ seeds) epoch sets newest graded = go sets graded
  where
    last : length seeds ≡ epoch
    last = cc

    go : (sets : List SetRow) → All (IsGradedSet (seed ∷ seeds)) sets → list_all (is_no_later epoch) sets ≡ true
    go [] graded = refl
    go (set ∷ sets) graded =
        let it = All-head (IsGradedSet (seed ∷ seeds)) set sets graded in
        let low = slice_get_within (seed ∷ seeds) set.epoch it.0 it.1 in
        let here : nat_le set.epoch epoch ≡ true = grind (arith, nat_tests, low, last) in
        rw (here, go sets (All-tail (IsGradedSet (seed ∷ seeds)) set sets graded)) refl

-- among numbers without gaps, one that is there is before the next
pub below_next : {R : Type 0} (number : R → ℕ) (n i : ℕ) (rows : List R) → IsNumbered number i rows
    → is_some (find (λ row. number row == n) rows) ≡ true → nat_lt n (i + length rows) ≡ true
below_next number n i rows numbered there = go (nat_lt n (i + length rows)) refl
  where
    go : (b : Bool) → nat_lt n (i + length rows) ≡ b → b ≡ true
    go true e = refl
    go false e =
        let past : i + length rows ≤ n = grind (arith, nat_tests, e) in
        absurd (let none = past_last number n i rows numbered past in cc)

-- the session of each vector set is before its account's next one
module _ (u n : ℕ) (owned : owner_of n ≡ u) (sessions : List SessionRecord)
    (next : n ≡ first_of_account u + length sessions)
    (numbered : IsNumbered (λ row. row.number) (first_of_account u) sessions) where
  abbrev is_there : SetRecord → Bool
  is_there set = is_some (session_record_at set.session sessions)

  abbrev is_own : SetRecord → Bool
  is_own set = owner_of set.session == u

  pub all_before : (sets : List SetRow) → list_all is_there (filter is_own (map set_record sets)) ≡ true
      → list_all (is_before n) sets ≡ true
  all_before [] there = refl
  all_before (set ∷ sets) there = go (is_own (set_record set)) refl there (all_before sets)
    where
      go : (b : Bool) → is_own (set_record set) ≡ b
          → list_all is_there (filter is_own (map set_record (set ∷ sets))) ≡ true
          → (list_all is_there (filter is_own (map set_record sets)) ≡ true → list_all (is_before n) sets ≡ true)
          → list_all (is_before n) (set ∷ sets) ≡ true
      go false e there later = rw (owned, e) (later (rw e at there))
      go true e there later =
          let all = rw e at there in
          let rest = list_all is_there (filter is_own (map set_record sets)) in
          let low = below_next (λ (row : SessionRecord). row.number) set.session (first_of_account u) sessions numbered
          (left_true (is_there (set_record set)) rest all) in
          let here : nat_lt set.session n ≡ true = rw next low in
          rw (owned, e, here) (later (right_true (is_there (set_record set)) rest all))
