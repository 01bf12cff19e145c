-- The conditions on an account's rows hold exactly where these are well numbered and counted.
use Rattle.std.proofs.Common.{◌≡◌, ℕ, ◌≤◌, Bool, true, false, List, [], ◌∷◌, ◌++◌, length, map, refl, sym, ap, subst}
use Rattle.std.proofs.Common.{◌∙◌, inl, inr, arith}
use Rattle.std.specs.Prelude.{filter, not, ◌&&◌, ◌||◌, ◌==◌, nat_le, nat_lt, is_some, slice_get}
use Rattle.std.specs.List.{flat_map, list_all, list_any}
use Rattle.std.proofs.lemmas.Bool.{cases_Bool}
use Rattle.std.proofs.lemmas.Bool.Decides.{nat_tests}
use Rattle.std.proofs.lemmas.List.{length-map}
use Rattle.std.proofs.lemmas.List.Folds.{list_all-map}
use Rattle.acvp_mac.specs.Conditions.{Condition}
use Rattle.acvp_registry.specs.declared.kind.Kind.{Kind}
use Rattle.acvp_registry.specs.declared.kind.Kind.TheVariants.{Vendor, Module, Environment, Certification}
use Rattle.acvp_tables.specs.Content.{Content, session_at}
use Rattle.acvp_tables.specs.Counted.{is_counted}
use Rattle.acvp_tables.specs.State.{session_record, set_record, state_of, first_of_account, first_of_session}
use Rattle.acvp_tables.specs.State.{objects_in, sets_in}
use Rattle.acvp_tables.specs.State.{is_account_number, is_account_row, has_rows, is_account_there, has_registered}
use Rattle.acvp_tables.specs.State.{has_registered_as, of_all, session_record_at}
use Rattle.acvp_tables.specs.State.{is_sound_object, is_sound_body, has_all_given, certifies, IsNumbered}
use Rattle.acvp_tables.specs.State.{IsWellNumberedFor}
use Rattle.acvp_tables.specs.declared.rows.SessionRow.{SessionRow}
use Rattle.acvp_tables.specs.declared.rows.SetRow.{SetRow}
use Rattle.acvp_tables.specs.declared.rows.ReviewerRow.{ReviewerRow}
use Rattle.acvp_tables.proofs.KeptLemmas.{list_all_weaker}
use Rattle.acvp_check.specs.declared.finding.RowKey.TheVariants as key
use Rattle.acvp_check.specs.Conditions.{numbered, account_row_conditions, own_row_conditions, sets_of, is_certified}
use Rattle.acvp_check.specs.Conditions.{session_own_conditions, session_count_conditions, session_counter_conditions}
use Rattle.acvp_check.specs.Conditions.{set_numbers, session_row_conditions, session_conditions}
use Rattle.acvp_check.specs.Conditions.{is_disposed, set_row_conditions, set_conditions, request_row_conditions}
use Rattle.acvp_check.specs.Conditions.{request_conditions, object_row_conditions, object_key, kind_conditions}
use Rattle.acvp_check.specs.Conditions.{all_kinds_conditions, object_conditions}
use Rattle.acvp_check.specs.Conditions.{reviewers_in, reviewers_at, reviewer_own_conditions, reviewer_count_conditions}
use Rattle.acvp_check.specs.Conditions.{reviewer_row_conditions, reviewer_conditions, kept_conditions}
use Rattle.acvp_check.proofs.Joins.{found_any, session_there}
use Rattle.acvp_check.proofs.Holds.{holds, both, joint, holds-joined, holds-each, numbers_rise, numbered_records}
use Rattle.acvp_check.proofs.Holds.{at_passing, none_passing, none_without, then_holds, holds_then}

pub split : {F : Type 0} (xs ys : List (Condition F)) → holds (xs ++ ys) ≡ true → (holds xs ≡ true) × (holds ys ≡ true)
split xs ys e = both (holds xs) (holds ys) (sym (holds-joined xs ys) ∙ e)

pub join : {F : Type 0} (xs ys : List (Condition F)) → holds xs ≡ true → holds ys ≡ true → holds (xs ++ ys) ≡ true
join xs ys ex ey = holds-joined xs ys ∙ joint (holds xs) (holds ys) ex ey

pub of_each : {R F : Type 0} (f : R → List (Condition F)) (rows : List R) → holds (flat_map f rows) ≡ true
    → list_all (λ r. holds (f r)) rows ≡ true
of_each f rows e = sym (holds-each f rows) ∙ e

pub to_each : {R F : Type 0} (f : R → List (Condition F)) (rows : List R) → list_all (λ r. holds (f r)) rows ≡ true
    → holds (flat_map f rows) ≡ true
to_each f rows e = holds-each f rows ∙ e

pub records_all : {R Q : Type 0} (h : R → Q) (p : Q → Bool) (rows : List R) → list_all (λ r. p (h r)) rows ≡ true
    → list_all p (map h rows) ≡ true
records_all h p rows e = list_all-map p h rows ∙ e

pub rows_all : {R Q : Type 0} (h : R → Q) (p : Q → Bool) (rows : List R) → list_all p (map h rows) ≡ true
    → list_all (λ r. p (h r)) rows ≡ true
rows_all h p rows e = sym (list_all-map p h rows) ∙ e

pub records_any : {R Q : Type 0} (h : R → Q) (p : Q → Bool) (rows : List R)
    → list_any p (map h rows) ≡ list_any (λ r. p (h r)) rows
records_any h p [] = refl
records_any h p (r ∷ rows) = ap (λ b. p (h r) || b) (records_any h p rows)

pub set_records : (s : ℕ) (rows : List SetRow) → sets_in s (map set_record rows) ≡ map set_record (sets_of s rows)
set_records s [] = refl
set_records s (r ∷ rows) = grind (arith, nat_tests, set_records s rows)

pub within : (n most : ℕ) → nat_le n most ≡ true → n ≤ most
within n most e = grind (arith, nat_tests, e)

pub is_within : (n most : ℕ) → n ≤ most → nat_le n most ≡ true
is_within n most e = grind (arith, nat_tests, e)

-- ---- the parts

pub record Parts (seeds : List (List ℕ)) (u : ℕ) (mine : Content) : Type 0 where
  pub own : holds (own_row_conditions u mine) ≡ true
  pub sessions : holds (session_conditions u mine) ≡ true
  pub sets : holds (set_conditions seeds mine) ≡ true
  pub requests : holds (request_conditions u mine) ≡ true
  pub objects : holds (object_conditions u mine) ≡ true
  pub reviewers : holds (reviewer_conditions mine) ≡ true

pub parts : (seeds : List (List ℕ)) (u : ℕ) (mine : Content) → holds (kept_conditions seeds u mine) ≡ true
    → Parts seeds u mine
parts seeds u mine e =
    let two = own_row_conditions u mine ++ session_conditions u mine in
    let three = two ++ set_conditions seeds mine in
    let four = three ++ request_conditions u mine in
    let five = four ++ object_conditions u mine in
    let a = split five (reviewer_conditions mine) e in
    let b = split four (object_conditions u mine) a.0 in
    let d = split three (request_conditions u mine) b.0 in
    let f = split two (set_conditions seeds mine) d.0 in
    let h = split (own_row_conditions u mine) (session_conditions u mine) f.0 in
    record { own = h.0; sessions = h.1; sets = f.1; requests = d.1; objects = b.1; reviewers = a.1 }

pub whole : (seeds : List (List ℕ)) (u : ℕ) (mine : Content) → Parts seeds u mine
    → holds (kept_conditions seeds u mine) ≡ true
whole seeds u mine p =
    let two = own_row_conditions u mine ++ session_conditions u mine in
    let three = two ++ set_conditions seeds mine in
    let four = three ++ request_conditions u mine in
    let five = four ++ object_conditions u mine in
    let a = join (own_row_conditions u mine) (session_conditions u mine) p.own p.sessions in
    let b = join two (set_conditions seeds mine) a p.sets in
    let d = join three (request_conditions u mine) b p.requests in
    let f = join four (object_conditions u mine) d p.objects in
    join five (reviewer_conditions mine) f p.reviewers

-- ---- each part

pub record OwnHolds (u : ℕ) (mine : Content) : Type 0 where
  pub once : length mine.accounts ≤ 1
  pub there : has_rows (state_of mine) ≡ true → is_account_there u (state_of mine) ≡ true
  pub rows : list_all is_account_row mine.accounts ≡ true

pub own_holds : (u : ℕ) (mine : Content) → holds (own_row_conditions u mine) ≡ true → OwnHolds u mine
unfolding own_row_conditions
own_holds u mine e =
    let a = both (nat_le (length mine.accounts) 1) _ e in
    let b = both (not (has_rows (state_of mine)) || is_account_there u (state_of mine))
    (holds (flat_map account_row_conditions mine.accounts)) a.1 in
    record {
      once = within (length mine.accounts) 1 a.0;
      there = then_holds (has_rows (state_of mine)) (is_account_there u (state_of mine)) b.0;
      rows = list_all_weaker (λ r. holds (account_row_conditions r)) is_account_row
          (λ r h. (both (is_account_row r) true h).0) mine.accounts
          (of_each account_row_conditions mine.accounts b.1);
    }

pub holds_own : (u : ℕ) (mine : Content) → OwnHolds u mine → holds (own_row_conditions u mine) ≡ true
unfolding own_row_conditions
holds_own u mine h =
    joint (nat_le (length mine.accounts) 1) _ (is_within (length mine.accounts) 1 h.once)
    (joint (not (has_rows (state_of mine)) || is_account_there u (state_of mine)) _
    (holds_then (has_rows (state_of mine)) (is_account_there u (state_of mine)) h.there)
    (to_each account_row_conditions mine.accounts
    (list_all_weaker is_account_row (λ r. holds (account_row_conditions r))
    (λ r e. joint (is_account_row r) true e refl) mine.accounts h.rows)))

pub record SessionHolds (mine : Content) (row : SessionRow) : Type 0 where
  pub created : nat_lt row.created 4102444800 ≡ true
  pub certified : is_certified mine.requests row ≡ true
  pub some : list_any (λ set. set.session == row.number) mine.sets ≡ true
  pub few : nat_le (length (sets_of row.number mine.sets)) 20 ≡ true
  pub counted : is_counted mine.sets row ≡ true
  pub numbers : holds (set_numbers row.number mine.sets) ≡ true

session_holds : (mine : Content) (row : SessionRow) → holds (session_row_conditions mine row) ≡ true
    → SessionHolds mine row
unfolding session_own_conditions session_count_conditions session_counter_conditions
session_holds mine row e =
    let a = both (nat_lt row.created 4102444800) _ e in
    let b = both (is_certified mine.requests row) _ a.1 in
    let d = both (list_any (λ set. set.session == row.number) mine.sets) _ b.1 in
    let f = both (nat_le (length (sets_of row.number mine.sets)) 20) _ d.1 in
    let h = both (is_counted mine.sets row) (holds (set_numbers row.number mine.sets)) f.1 in
    record { created = a.0; certified = b.0; some = d.0; few = f.0; counted = h.0; numbers = h.1 }

session_bool : Content → SessionRow → Bool
session_bool mine row = nat_lt row.created 4102444800 &&
    (is_certified mine.requests row && (list_any (λ set. set.session == row.number) mine.sets
    && (nat_le (length (sets_of row.number mine.sets)) 20 &&
    (is_counted mine.sets row && holds (set_numbers row.number mine.sets)))))

pub record SessionsHold (u : ℕ) (mine : Content) : Type 0 where
  pub few : length mine.sessions ≤ 999999
  pub numbers : IsNumbered (λ row. row.number) (first_of_account u) mine.sessions
  pub rows : list_all (λ row. holds (session_row_conditions mine row)) mine.sessions ≡ true

sessions_hold : (u : ℕ) (mine : Content) → holds (session_conditions u mine) ≡ true → SessionsHold u mine
unfolding session_conditions
sessions_hold u mine e =
    let a = both (nat_le (length mine.sessions) 999999) _ e in
    let b = split (numbered (λ row. row.number) (λ row. key.Session row.number) (first_of_account u) mine.sessions)
    (flat_map (session_row_conditions mine) mine.sessions) a.1 in
    record {
      few = within (length mine.sessions) 999999 a.0;
      numbers = numbers_rise (λ row. row.number) (λ row. key.Session row.number) (first_of_account u) mine.sessions b.0;
      rows = of_each (session_row_conditions mine) mine.sessions b.1;
    }

pub record RequestsHold (u : ℕ) (mine : Content) : Type 0 where
  pub few : length mine.requests ≤ 999999
  pub numbers : IsNumbered (λ row. row.number) (first_of_account u) mine.requests
  pub sound : list_all (λ row. is_sound_body (state_of mine) row.body) mine.requests ≡ true
  pub given : list_all (has_all_given mine.objects) mine.requests ≡ true

requests_hold : (u : ℕ) (mine : Content) → holds (request_conditions u mine) ≡ true → RequestsHold u mine
unfolding request_conditions
requests_hold u mine e =
    let a = both (nat_le (length mine.requests) 999999) _ e in
    let b = split (numbered (λ row. row.number) (λ row. key.Request row.number) (first_of_account u) mine.requests)
    (flat_map (request_row_conditions mine) mine.requests) a.1 in
    let rows = of_each (request_row_conditions mine) mine.requests b.1 in
    record {
      few = within (length mine.requests) 999999 a.0;
      numbers = numbers_rise (λ row. row.number) (λ row. key.Request row.number) (first_of_account u) mine.requests b.0;
      sound = list_all_weaker (λ r. holds (request_row_conditions mine r)) (λ r. is_sound_body (state_of mine) r.body)
          (λ r h. (both (is_sound_body (state_of mine) r.body) (has_all_given mine.objects r && true) h).0)
          mine.requests rows;
      given = list_all_weaker (λ r. holds (request_row_conditions mine r)) (has_all_given mine.objects)
          (λ r h. (both (has_all_given mine.objects r) true
          (both (is_sound_body (state_of mine) r.body) (has_all_given mine.objects r && true) h).1).0) mine.requests
          rows;
    }

pub record KindHolds (u : ℕ) (mine : Content) (kind : Kind) : Type 0 where
  pub few : length (objects_in kind mine.objects) ≤ length (filter (has_registered kind) mine.requests)
  pub numbers : IsNumbered (λ row. row.number) (first_of_account u) (objects_in kind mine.objects)

kind_holds : (u : ℕ) (mine : Content) (kind : Kind) → holds (kind_conditions u mine kind) ≡ true → KindHolds u mine kind
kind_holds u mine kind e =
    let a = both (nat_le (length (objects_in kind mine.objects)) (length (filter (has_registered kind) mine.requests)))
    _ e in
    record {
      few = within (length (objects_in kind mine.objects)) (length (filter (has_registered kind) mine.requests)) a.0;
      numbers = numbers_rise (λ row. row.number) object_key (first_of_account u) (objects_in kind mine.objects) a.1;
    }

of_kinds : (p : Kind → Bool) → p Vendor ≡ true → p Module ≡ true → p Environment ≡ true → p Certification ≡ true
    → (kind : Kind) → p kind ≡ true
of_kinds p v m e c Vendor = v
of_kinds p v m e c Module = m
of_kinds p v m e c Environment = e
of_kinds p v m e c Certification = c

pub record ObjectsHold (u : ℕ) (mine : Content) : Type 0 where
  pub kinds : (kind : Kind) → holds (kind_conditions u mine kind) ≡ true
  pub registered : list_all (λ object. list_any (has_registered_as object) mine.requests) mine.objects ≡ true
  pub kept : list_all (λ row. is_sound_object mine.objects row.object) mine.objects ≡ true

objects_hold : (u : ℕ) (mine : Content) → holds (object_conditions u mine) ≡ true → ObjectsHold u mine
unfolding object_conditions all_kinds_conditions
objects_hold u mine e =
    let a = split (all_kinds_conditions u mine) (flat_map (object_row_conditions mine) mine.objects) e in
    let two = kind_conditions u mine Vendor ++ kind_conditions u mine Module in
    let three = two ++ kind_conditions u mine Environment in
    let n = split three (kind_conditions u mine Certification) a.0 in
    let m = split two (kind_conditions u mine Environment) n.0 in
    let v = split (kind_conditions u mine Vendor) (kind_conditions u mine Module) m.0 in
    let rows = of_each (object_row_conditions mine) mine.objects a.1 in
    record {
      kinds = of_kinds (λ kind. holds (kind_conditions u mine kind)) v.0 v.1 m.1 n.1;
      registered = list_all_weaker (λ r. holds (object_row_conditions mine r))
          (λ object. list_any (has_registered_as object) mine.requests)
          (λ r h. (both (list_any (has_registered_as r) mine.requests)
          (is_sound_object mine.objects r.object && true) h).0) mine.objects rows;
      kept = list_all_weaker (λ r. holds (object_row_conditions mine r)) (λ r. is_sound_object mine.objects r.object)
          (λ r h. (both (is_sound_object mine.objects r.object) true
          (both (list_any (has_registered_as r) mine.requests)
          (is_sound_object mine.objects r.object && true) h).1).0) mine.objects rows;
    }

pub record ReviewersHold (mine : Content) : Type 0 where
  pub named : list_all (λ row. is_some (session_at row.session mine.sessions)) mine.reviewers ≡ true
  pub numbers : list_all (λ row. is_account_number row.account) mine.reviewers ≡ true
  pub few : list_all (λ row. nat_le (length (reviewers_in row.session mine.reviewers)) 16) mine.reviewers ≡ true
  pub once : list_all (λ row. nat_le (length (reviewers_at row.session row.account mine.reviewers)) 1) mine.reviewers
      ≡ true

pub record ReviewerHolds (mine : Content) (row : ReviewerRow) : Type 0 where
  pub named : is_some (session_at row.session mine.sessions) ≡ true
  pub number : is_account_number row.account ≡ true
  pub few : nat_le (length (reviewers_in row.session mine.reviewers)) 16 ≡ true
  pub once : nat_le (length (reviewers_at row.session row.account mine.reviewers)) 1 ≡ true

reviewer_holds : (mine : Content) (row : ReviewerRow) → holds (reviewer_row_conditions mine row) ≡ true
    → ReviewerHolds mine row
unfolding reviewer_own_conditions reviewer_count_conditions
reviewer_holds mine row e =
    let a = both (is_some (session_at row.session mine.sessions)) _ e in
    let b = both (is_account_number row.account) _ a.1 in
    let d = both (nat_le (length (reviewers_in row.session mine.reviewers)) 16) _ b.1 in
    let f = both (nat_le (length (reviewers_at row.session row.account mine.reviewers)) 1) true d.1 in
    record { named = a.0; number = b.0; few = d.0; once = f.0 }

reviewers_hold : (mine : Content) → holds (reviewer_conditions mine) ≡ true → ReviewersHold mine
unfolding reviewer_conditions
reviewers_hold mine e =
    let rows = of_each (reviewer_row_conditions mine) mine.reviewers e in
    record {
      named = list_all_weaker _ (λ row. is_some (session_at row.session mine.sessions))
          (λ r h. (reviewer_holds mine r h).named) mine.reviewers rows;
      numbers = list_all_weaker _ (λ row. is_account_number row.account)
          (λ r h. (reviewer_holds mine r h).number) mine.reviewers rows;
      few = list_all_weaker _ (λ row. nat_le (length (reviewers_in row.session mine.reviewers)) 16)
          (λ r h. (reviewer_holds mine r h).few) mine.reviewers rows;
      once = list_all_weaker _ (λ row. nat_le (length (reviewers_at row.session row.account mine.reviewers)) 1)
          (λ r h. (reviewer_holds mine r h).once) mine.reviewers rows;
    }

pub record SetHolds (seeds : List (List ℕ)) (mine : Content) (row : SetRow) : Type 0 where
  pub there : is_some (session_at row.session mine.sessions) ≡ true
  pub seed : is_some (slice_get seeds row.epoch) ≡ true
  pub disposed : of_all is_disposed row.graded ≡ true

pub set_holds : (seeds : List (List ℕ)) (mine : Content) (row : SetRow)
    → holds (set_row_conditions seeds mine row) ≡ true → SetHolds seeds mine row
set_holds seeds mine row e =
    let a = both (is_some (session_at row.session mine.sessions)) _ e in
    let b = both (is_some (slice_get seeds row.epoch)) _ a.1 in
    let d = both (of_all is_disposed row.graded) true b.1 in
    record { there = a.0; seed = b.0; disposed = d.0 }

pub sets_hold : (seeds : List (List ℕ)) (mine : Content) → holds (set_conditions seeds mine) ≡ true
    → list_all (λ row. holds (set_row_conditions seeds mine row)) mine.sets ≡ true
unfolding set_conditions
sets_hold seeds mine e = of_each (set_row_conditions seeds mine) mine.sets e

-- ---- none broken gives well numbered

-- of a session without a row there is no set
no_sets : (mine : Content) (s : ℕ) → list_all (λ row. is_some (session_at row.session mine.sessions)) mine.sets ≡ true
    → list_any (λ row. row.number == s) mine.sessions ≡ false → sets_of s mine.sets ≡ []
no_sets mine s there none = none_without (λ (row : SetRow). is_some (session_at row.session mine.sessions))
    (λ row. row.session == s) apart mine.sets there
  where
    apart : (row : SetRow) → is_some (session_at row.session mine.sessions) ≡ true → (row.session == s) ≡ false
    apart row is = elim (cases_Bool (row.session == s)) [
      | inl same ↦
          let at : row.session ≡ s = grind (arith, nat_tests, same) in
          let some : list_any (λ (r : SessionRow). r.number == s) mine.sessions ≡ true =
          sym (found_any (λ (r : SessionRow). r.number == s) mine.sessions)
          ∙ subst (λ n. is_some (session_at n mine.sessions) ≡ true) at is in
          absurd (cc (some, none))
      | inr other ↦ other
    ]

-- what holds of the sets of each session that is there, and of no sets
of_sets : (mine : Content) (p : ℕ → List SetRow → Bool) → ((s : ℕ) → p s [] ≡ true)
    → list_all (λ row. is_some (session_at row.session mine.sessions)) mine.sets ≡ true
    → list_all (λ row. p row.number (sets_of row.number mine.sets)) mine.sessions ≡ true → (s : ℕ)
    → p s (sets_of s mine.sets) ≡ true
of_sets mine p empty there all s = elim (cases_Bool (list_any (λ row. row.number == s) mine.sessions)) [
  | inl some ↦ at_passing (λ (row : SessionRow). p row.number (sets_of row.number mine.sets)) (λ row. row.number == s)
      (p s (sets_of s mine.sets))
      (λ row e. ap (λ n. p n (sets_of n mine.sets)) (same row e)) mine.sessions all some
  | inr none ↦ rw (no_sets mine s there none) (empty s)
]
  where
    same : (row : SessionRow) → (row.number == s) ≡ true → row.number ≡ s
    same row e = grind (arith, nat_tests, e)

few_in : (mine : Content)
    → list_all (λ row. nat_le (length (reviewers_in row.session mine.reviewers)) 16) mine.reviewers ≡ true
    → (s : ℕ) → length (reviewers_in s mine.reviewers) ≤ 16
few_in mine all s = elim (cases_Bool (list_any (λ row. row.session == s) mine.reviewers)) [
  | inl some ↦ within (length (reviewers_in s mine.reviewers)) 16
      (at_passing (λ (row : ReviewerRow). nat_le (length (reviewers_in row.session mine.reviewers)) 16)
      (λ row. row.session == s)
      (nat_le (length (reviewers_in s mine.reviewers)) 16)
      (λ row e. ap (λ n. nat_le (length (reviewers_in n mine.reviewers)) 16) (same row e)) mine.reviewers all some)
  | inr none ↦ rw (none_passing (λ (row : ReviewerRow). row.session == s) mine.reviewers none) (omega arith)
]
  where
    same : (row : ReviewerRow) → (row.session == s) ≡ true → row.session ≡ s
    same row e = grind (arith, nat_tests, e)

once_at : (mine : Content)
    → list_all (λ row. nat_le (length (reviewers_at row.session row.account mine.reviewers)) 1) mine.reviewers ≡ true
    → (s a : ℕ) → length (reviewers_at s a mine.reviewers) ≤ 1
once_at mine all s a = elim (cases_Bool (list_any (λ row. (row.session == s) && (row.account == a)) mine.reviewers)) [
  | inl some ↦ within (length (reviewers_at s a mine.reviewers)) 1
      (at_passing (λ (row : ReviewerRow). nat_le (length (reviewers_at row.session row.account mine.reviewers)) 1)
      (λ row. (row.session == s) && (row.account == a))
      (nat_le (length (reviewers_at s a mine.reviewers)) 1) is mine.reviewers all some)
  | inr none ↦ rw (none_passing (λ (row : ReviewerRow). (row.session == s) && (row.account == a)) mine.reviewers none)
      (omega arith)
]
  where
    is : (row : ReviewerRow) → ((row.session == s) && (row.account == a)) ≡ true
        → nat_le (length (reviewers_at row.session row.account mine.reviewers)) 1
        ≡ nat_le (length (reviewers_at s a mine.reviewers)) 1
    is row e =
        let at : row.session ≡ s = grind (arith, nat_tests, e) in
        let of : row.account ≡ a = grind (arith, nat_tests, e) in
        rw (at, of) refl

pub well : (seeds : List (List ℕ)) (u : ℕ) (mine : Content) → holds (kept_conditions seeds u mine) ≡ true
    → IsWellNumberedFor u (state_of mine)
unfolding state_of
well seeds u mine e =
    let p = parts seeds u mine e in
    let own = own_holds u mine p.own in
    let sessions = sessions_hold u mine p.sessions in
    let requests = requests_hold u mine p.requests in
    let objects = objects_hold u mine p.objects in
    let reviewers = reviewers_hold mine p.reviewers in
    let there : list_all (λ row. is_some (session_at row.session mine.sessions)) mine.sets ≡ true =
    list_all_weaker (λ r. holds (set_row_conditions seeds mine r))
    (λ (row : SetRow). is_some (session_at row.session mine.sessions))
    (λ r h. (set_holds seeds mine r h).there) mine.sets (sets_hold seeds mine p.sets) in
    record {
      once = own.once;
      accounts = own.rows;
      there = own.there;
      sessions = numbered_records session_record (λ row. row.number)
          (first_of_account u) mine.sessions sessions.numbers;
      few_sessions = rw (length-map mine.sessions session_record) sessions.few;
      requests = requests.numbers;
      few_requests = requests.few;
      objects = λ kind. (kind_holds u mine kind (objects.kinds kind)).numbers;
      asked_for = λ kind. (kind_holds u mine kind (objects.kinds kind)).few;
      registered = objects.registered;
      given = requests.given;
      sets = λ s. rw (set_records s mine.sets)
          (numbered_records set_record (λ row. row.number) (first_of_session s) (sets_of s mine.sets)
          (numbers_rise (λ set. set.number) (λ set. key.Set set.number) (first_of_session s) (sets_of s mine.sets)
          (of_sets mine (λ n rows. holds
          (numbered (λ (set : SetRow). set.number) (λ set. key.Set set.number) (first_of_session n) rows))
          (λ n. refl) there
          (list_all_weaker (λ r. holds (session_row_conditions mine r)) (λ r. holds (set_numbers r.number mine.sets))
          (λ r h. (session_holds mine r h).numbers) mine.sessions sessions.rows) s)));
      few_sets = λ s. rw (set_records s mine.sets)
          (rw (length-map (sets_of s mine.sets) set_record) (within (length (sets_of s mine.sets)) 20
          (of_sets mine (λ n rows. nat_le (length rows) 20) (λ n. refl) there
          (list_all_weaker (λ r. holds (session_row_conditions mine r))
          (λ r. nat_le (length (sets_of r.number mine.sets)) 20)
          (λ r h. (session_holds mine r h).few) mine.sessions sessions.rows) s)));
      some_sets = records_all session_record
          (λ row. list_any (λ set. set.session == row.number) (map set_record mine.sets)) mine.sessions
          (list_all_weaker (λ r. holds (session_row_conditions mine r))
          (λ r. list_any (λ set. set.session == r.number) (map set_record mine.sets))
          (λ r h. records_any set_record (λ set. set.session == r.number) mine.sets
          ∙ (session_holds mine r h).some) mine.sessions sessions.rows);
      set_sessions = records_all set_record
          (λ set. is_some (session_record_at set.session (map session_record mine.sessions))) mine.sets
          (list_all_weaker (λ (r : SetRow). is_some (session_at r.session mine.sessions))
          (λ r. is_some (session_record_at r.session (map session_record mine.sessions)))
          (λ r h. session_there r.session mine.sessions ∙ h) mine.sets there);
      certified = records_all session_record
          (λ row. of_all (λ n. list_any
          (λ request. (request.number == n) && certifies row.number request.body) mine.requests) row.last_request)
          mine.sessions
          (list_all_weaker (λ r. holds (session_row_conditions mine r)) (is_certified mine.requests)
          (λ r h. (session_holds mine r h).certified) mine.sessions sessions.rows);
      asked = requests.sound;
      kept = objects.kept;
      created = records_all session_record (λ row. nat_lt row.created 4102444800) mine.sessions
          (list_all_weaker (λ r. holds (session_row_conditions mine r)) (λ r. nat_lt r.created 4102444800)
          (λ r h. (session_holds mine r h).created) mine.sessions sessions.rows);
      reviewed = list_all_weaker (λ (r : ReviewerRow). is_some (session_at r.session mine.sessions))
          (λ r. is_some (session_record_at r.session (map session_record mine.sessions)))
          (λ r h. session_there r.session mine.sessions ∙ h) mine.reviewers reviewers.named;
      reviewers = reviewers.numbers;
      few_reviewers = few_in mine reviewers.few;
      pairs_once = once_at mine reviewers.once;
    }

pub counted : (seeds : List (List ℕ)) (u : ℕ) (mine : Content) → holds (kept_conditions seeds u mine) ≡ true
    → list_all (is_counted mine.sets) mine.sessions ≡ true
counted seeds u mine e =
    list_all_weaker (λ r. holds (session_row_conditions mine r)) (is_counted mine.sets)
    (λ r h. (session_holds mine r h).counted) mine.sessions
    (sessions_hold u mine (parts seeds u mine e).sessions).rows
