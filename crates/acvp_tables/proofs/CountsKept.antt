-- Each change keeps each session's counters right.
use Rattle.std.proofs.Common.{◌≡◌, ℕ, ◌+◌, ◌/◌, Bool, true, false, List, [], ◌∷◌, ◌++◌, length, filter, map, Option}
use Rattle.std.proofs.Common.{Some, None, refl, ap, sym, ◌∙◌}
use Rattle.std.proofs.Common.{length-append, arith}
use Rattle.std.specs.Prelude.{◌==◌, not, is_some, option_map, if◌then◌else◌}
use Rattle.std.specs.List.{list_all}
use Rattle.std.proofs.lemmas.Bool.Decides.{nat_tests}
use Rattle.std.proofs.lemmas.List.Elements.{filter-append}
use Rattle.std.proofs.lemmas.List.Folds.{list_all-map}
use Rattle.acvp_caps.specs.Capability.{CapabilityValue}
use Rattle.acvp_tables.specs.Content.{Content, is_live_in, session_at}
use Rattle.acvp_tables.specs.Changes.{changed, after, is_session, is_set, new_session, new_sets, with_graded}
use Rattle.acvp_tables.specs.Changes.{with_passed, with_counts, with_last_request}
use Rattle.acvp_tables.specs.Changes.{cancelled_session, cancelled_set}
use Rattle.acvp_tables.specs.Counted.{one_if, is_passed, answers_passed, is_passed_in, live_count, passed_count}
use Rattle.acvp_tables.specs.Counted.{is_counted, IsCounted, AreThere, IsNextCount}
use Rattle.acvp_tables.specs.Own.{Fits}
use Rattle.acvp_tables.specs.Next.{IsNext}
use Rattle.acvp_tables.specs.State.{State, SessionRecord, SetRecord, session_record, set_record, state_of, own}
use Rattle.acvp_tables.specs.State.{owner_of, session_record_at, sets_in}
use Rattle.acvp_tables.specs.State.{first_of_account, IsWellNumbered, AreWellNumbered}
use Rattle.acvp_tables.specs.declared.rows.SessionRow.{SessionRow}
use Rattle.acvp_tables.specs.declared.rows.SetRow.{SetRow}
use Rattle.acvp_tables.specs.declared.change.Change.{Change}
use Rattle.acvp_tables.specs.declared.change.Change.TheVariants as change
use Rattle.acvp_tables.specs.declared.change.NewSession.{NewSession}
use Rattle.acvp_tables.specs.declared.change.KeptAnswers.{KeptAnswers}
use Rattle.acvp_tables.specs.declared.change.CancelledSet.{CancelledSet}
use Rattle.acvp_tables.proofs.CountedLemmas.{found_passes, found_all, one_changed, same_passed, all_changed, all_weaker}
use Rattle.acvp_tables.proofs.CountedLemmas.{none_has, all_append}
use Rattle.acvp_tables.proofs.Numbers.{filter-within, keyed, session_found, sets_found, once}
use Rattle.acvp_tables.proofs.Selections.{session_follows, sets_follow}
use Rattle.acvp_tables.proofs.KeptLemmas.{none_selected, past_last}

-- ---- a new session

-- its number is that of no session, and of no set's
record IsFree (n : ℕ) (c : Content) : Type 0 where
  session : session_at n c.sessions ≡ None
  sets : filter (λ row. row.session == n) c.sets ≡ []

next_free : (c : Content) (s : NewSession) → AreWellNumbered c → IsNext (state_of c) (change.NewSession s)
    → IsFree s.number c
unfolding IsWellNumbered
next_free c s sound next = record {
  session = no_row (session_at n c.sessions) (ap is_some (sym (session_follows n c) ∙ sym one) ∙ past);
  sets = no_rows (filter (λ row. row.session == n) c.sets) (sym (sets_follow n c) ∙ sym some ∙ none);
}
  where
    n : ℕ
    n = s.number

    state : State
    state = state_of c

    mine : State
    mine = own s.account state

    its : (owner_of n == s.account) ≡ true
    its = grind (arith, nat_tests, next.0)

    one : session_record_at n mine.sessions ≡ session_record_at n state.sessions
    one = rw its at (session_found s.account n state (keyed state sound))

    some : sets_in n mine.sets ≡ sets_in n state.sets
    some = rw its at (sets_found s.account n state)

    past : is_some (session_record_at n mine.sessions) ≡ false
    past = past_last (λ (row : SessionRecord). row.number) n (first_of_account s.account) mine.sessions
        (sound s.account).sessions (omega (arith, next.1.1.0))

    apart : (set : SetRecord) → is_some (session_record_at set.session mine.sessions) ≡ true → (set.session == n) ≡ true
        → ⊥
    apart set there e =
        let is : set.session ≡ n = grind (arith, nat_tests, e) in
        let no : true ≡ false = sym there ∙ ap (λ m. is_some (session_record_at m mine.sessions)) is ∙ past in
        cc

    none : sets_in n mine.sets ≡ []
    none = none_selected (λ (set : SetRecord). is_some (session_record_at set.session mine.sessions))
        (λ set. set.session == n) apart mine.sets
        (sound s.account).set_sessions

    no_row : (row : Option SessionRow) → is_some (option_map session_record row) ≡ false → row ≡ None
    no_row None e = refl
    no_row (Some row) e = cc

    no_rows : (rows : List SetRow) → map set_record rows ≡ [] → rows ≡ []
    no_rows [] e = refl
    no_rows (row ∷ rows) e = cc

live_new : (n s epoch i : ℕ) (capabilities : List CapabilityValue)
    → live_count n (new_sets s epoch i capabilities) ≡ (if s == n then length capabilities else 0)
live_new n s epoch i [] = grind (arith, nat_tests)
live_new n s epoch i (c ∷ rest) = grind (arith, nat_tests, live_new n s epoch (i + 1) rest)

passed_new : (n s epoch i : ℕ) (capabilities : List CapabilityValue)
    → passed_count n (new_sets s epoch i capabilities) ≡ 0
passed_new n s epoch i [] = refl
passed_new n s epoch i (c ∷ rest) = grind (arith, nat_tests, passed_new n s epoch (i + 1) rest)

appended : {R : Type 0} (p : R → Bool) (xs ys : List R)
    → length (filter p (xs ++ ys)) ≡ length (filter p xs) + length (filter p ys)
appended p xs ys = ap length (filter-append p xs ys) ∙ length-append (filter p xs) (filter p ys)

counted_new : (c : Content) (s : NewSession) → IsFree s.number c → IsCounted c
    → IsCounted (after (change.NewSession s) c)
unfolding after
counted_new c s free counted = all_append (is_counted (c.sets ++ new)) c.sessions (new_session s ∷ [])
    (all_weaker (is_counted c.sets) (is_counted (c.sets ++ new)) (λ row. not (row.number == s.number)) old c.sessions
    (none_has (is_session s.number) c.sessions free.session) counted)
    (rw last refl)
  where
    new : List SetRow
    new = new_sets s.number s.epoch 1 s.registration.capabilities

    live : (n : ℕ) → live_count n (c.sets ++ new)
        ≡ live_count n c.sets + (if s.number == n then length s.registration.capabilities else 0)
    live n = appended (is_live_in n) c.sets new
        ∙ ap (λ k. live_count n c.sets + k) (live_new n s.number s.epoch 1 s.registration.capabilities)

    passed : (n : ℕ) → passed_count n (c.sets ++ new) ≡ passed_count n c.sets
    passed n = omega (
      arith,
      appended (is_passed_in n) c.sets new,
      passed_new n s.number s.epoch 1 s.registration.capabilities,
    )

    none : (q : SetRow → Bool) → ((row : SetRow) → q row ≡ true → (row.session == s.number) ≡ true)
        → length (filter q c.sets) ≡ 0
    none q gives = ap length (sym (filter-within q (λ row. row.session == s.number) gives c.sets)
        ∙ ap (filter q) free.sets)

    last : is_counted (c.sets ++ new) (new_session s) ≡ true
    last =
        let no_live = none (is_live_in s.number) (λ row e. grind (arith, nat_tests, e)) in
        let no_passed = none (is_passed_in s.number) (λ row e. grind (arith, nat_tests, e)) in
        grind (arith, nat_tests, live s.number, passed s.number, no_live, no_passed)

    old : (row : SessionRow) → not (row.number == s.number) ≡ true → is_counted c.sets row ≡ true
        → is_counted (c.sets ++ new) row ≡ true
    old row other e = grind (arith, nat_tests, other, e, live row.number, passed row.number)

-- ---- changes of a set and its session

abbrev is_keyed : SetRow → Bool
is_keyed row = (row.number / 100) == row.session

sets_keyed : (c : Content) → AreWellNumbered c → list_all is_keyed c.sets ≡ true
unfolding state_of
sets_keyed c sound = sym (list_all-map (λ (row : SetRecord). (row.number / 100) == row.session) set_record c.sets)
    ∙ (keyed (state_of c) sound).sets

-- as many sets of another session pass as before
elsewhere : (c : Content) (v session m : ℕ) (f : SetRow → SetRow) (q : SetRow → Bool) → AreWellNumbered c
    → (v / 100) ≡ session → (m == session) ≡ false
    → ((r : SetRow) → (f r).session ≡ r.session) → ((r : SetRow) → (r.session == m) ≡ false → q r ≡ false)
    → length (filter q (changed (is_set v) f c.sets)) ≡ length (filter q c.sets)
elsewhere c v session m f q sound of apart stays off =
    same_passed q (is_set v) is_keyed f both c.sets (sets_keyed c sound)
  where
    both : (r : SetRow) → is_keyed r ≡ true → is_set v r ≡ true → q (f r) ≡ q r
    both r k e =
        let other : (r.session == m) ≡ false = grind (arith, nat_tests, k, e, of, apart) in
        off (f r) (rw (stays r) other) ∙ sym (off r other)

-- the session's counters are right where they come with the change, and the others' are still
set_counted : (c : Content) (v session : ℕ) (f : SetRow → SetRow) (g : SessionRow → SessionRow) → AreWellNumbered c
    → (v / 100) ≡ session
    → ((r : SetRow) → (f r).session ≡ r.session)
    → ((r : SessionRow) → is_counted c.sets r ≡ true → r.number ≡ session
    → is_counted (changed (is_set v) f c.sets) (g r) ≡ true)
    → IsCounted c → list_all (is_counted (changed (is_set v) f c.sets)) (changed (is_session session) g c.sessions)
    ≡ true
set_counted c v session f g sound of stays here counted =
    all_changed (is_counted c.sets) (is_counted (changed (is_set v) f c.sets)) (is_session session) g
    (λ r e t. here r e (grind (arith, nat_tests, t))) there
    c.sessions counted
  where
    there : (r : SessionRow) → is_counted c.sets r ≡ true → is_session session r ≡ false
        → is_counted (changed (is_set v) f c.sets) r ≡ true
    there r e t =
        let live = elsewhere c v session r.number f (is_live_in r.number) sound of t stays
        (λ x off. grind (arith, nat_tests, off)) in
        let passed = elsewhere c v session r.number f (is_passed_in r.number) sound of t stays
        (λ x off. grind (arith, nat_tests, off)) in
        grind (arith, nat_tests, e, live, passed)

counted_kept : (c : Content) (k : KeptAnswers) → AreWellNumbered c → Fits (change.KeepAnswers k)
    → IsNextCount c (change.KeepAnswers k) → IsCounted c
    → IsCounted (after (change.KeepAnswers k) c)
unfolding after
counted_kept c k sound fits next counted =
    set_counted c k.set k.session (with_graded k.graded) (with_passed k.passed) sound fits (λ r. refl) here counted
  where
    new : List SetRow
    new = changed (is_set k.set) (with_graded k.graded) c.sets

    here : (r : SessionRow) → is_counted c.sets r ≡ true → r.number ≡ k.session
        → is_counted new (with_passed k.passed r) ≡ true
    here r e is =
        let live : live_count r.number new ≡ live_count r.number c.sets
        = same_passed (is_live_in r.number) (is_set k.set) is_keyed (with_graded k.graded) (λ r k e. refl) c.sets
        (sets_keyed c sound) in
        let passed : k.passed ≡ passed_count r.number new = rw is next in
        grind (arith, nat_tests, e, live, passed)

counted_cancelled : (c : Content) (x : CancelledSet) → AreWellNumbered c → Fits (change.CancelSet x)
    → IsNextCount c (change.CancelSet x) → IsCounted c
    → IsCounted (after (change.CancelSet x) c)
unfolding after
counted_cancelled c x sound fits next counted =
    set_counted c x.set x.session cancelled_set (with_counts x.live x.passed) sound fits (λ r. refl) here counted
  where
    new : List SetRow
    new = changed (is_set x.set) cancelled_set c.sets

    here : (r : SessionRow) → is_counted c.sets r ≡ true → r.number ≡ x.session
        → is_counted new (with_counts x.live x.passed r) ≡ true
    here r e is =
        let live : x.live ≡ live_count r.number new = rw is next.0 in
        let passed : x.passed ≡ passed_count r.number new = rw is next.1 in
        grind (arith, nat_tests, live, passed)

-- ---- counters that differ by one set's part

-- what the counters of a session that is there are
pub record Counters (n : ℕ) (c : Content) (row : SessionRow) : Type 0 where
  pub live : row.live ≡ live_count n c.sets
  pub passed : row.passed ≡ passed_count n c.sets

pub counters : (n : ℕ) (c : Content) (row : SessionRow) → session_at n c.sessions ≡ Some row → IsCounted c
    → Counters n c row
counters n c row found counted =
    let has : (row.number == n) ≡ true = found_passes (is_session n) c.sessions row found in
    let is : row.number ≡ n = grind (arith, nat_tests, has) in
    let e : is_counted c.sets row ≡ true = found_all (is_session n) (is_counted c.sets) c.sessions row found counted in
    record { live = rw (← is) (grind (arith, nat_tests, e)); passed = rw (← is) (grind (arith, nat_tests, e)) }

pub kept_differs : (k : KeptAnswers) (c : Content) → AreWellNumbered c → IsCounted c
    → (there : AreThere k.session k.set c)
    → k.passed + one_if (answers_passed there.set_row.graded) ≡ there.row.passed + one_if
    (is_passed k.graded.disposition) → IsNextCount c (change.KeepAnswers k)
kept_differs k c sound counted there next =
    let x = there.set_row in
    let was = counters k.session c there.row there.has_session counted in
    let before : is_passed_in k.session x ≡ answers_passed x.graded = grind (arith, nat_tests, there.live) in
    let now : is_passed_in k.session (with_graded k.graded x) ≡ is_passed k.graded.disposition =
    grind (arith, nat_tests, there.live) in
    let sum = one_changed (is_passed_in k.session) (is_set k.set) (with_graded k.graded) c.sets x
    (once c sound k.set) there.has_set in
    omega (arith, rw (before, now) at sum, next, was.passed)

pub cancelled_differs : (x : CancelledSet) (c : Content) → AreWellNumbered c → IsCounted c
    → (there : AreThere x.session x.set c)
    → x.live + 1 ≡ there.row.live → x.passed + one_if (answers_passed there.set_row.graded) ≡ there.row.passed
    → IsNextCount c (change.CancelSet x)
cancelled_differs x c sound counted there less fewer =
    let set = there.set_row in
    let was = counters x.session c there.row there.has_session counted in
    let before : is_passed_in x.session set ≡ answers_passed set.graded = grind (arith, nat_tests, there.live) in
    let off : is_live_in x.session (cancelled_set set) ≡ false = grind (arith, nat_tests) in
    let off_too : is_passed_in x.session (cancelled_set set) ≡ false = grind (arith, nat_tests) in
    let lives = one_changed (is_live_in x.session) (is_set x.set) cancelled_set c.sets set
    (once c sound x.set) there.has_set in
    let passes = one_changed (is_passed_in x.session) (is_set x.set) cancelled_set c.sets set
    (once c sound x.set) there.has_set in (
      omega (arith, rw (there.live, off) at lives, less, was.live),
      omega (arith, rw (before, off_too) at passes, fewer, was.passed),
    )

-- ---- all changes

-- rows that are changed in what isn't counted
uncounted : (sets : List SetRow) (n : ℕ) (f : SessionRow → SessionRow)
    → ((r : SessionRow) → is_counted sets (f r) ≡ is_counted sets r)
    → (rows : List SessionRow) → list_all (is_counted sets) rows ≡ true
    → list_all (is_counted sets) (changed (is_session n) f rows) ≡ true
uncounted sets n f keeps rows all =
    all_changed (is_counted sets) (is_counted sets) (is_session n) f (λ r e t. keeps r ∙ e) (λ r e t. e) rows all

pub counted_after : (it : Change) (c : Content) → AreWellNumbered c → IsNext (state_of c) it → IsNextCount c it
    → IsCounted c → IsCounted (after it c)
unfolding after
counted_after (change.NewSession s) c sound next count counted = counted_new c s (next_free c s sound next) counted
counted_after (change.KeepAnswers k) c sound next count counted = counted_kept c k sound next.0 count counted
counted_after (change.CancelSession n) c sound next count counted =
    uncounted c.sets n cancelled_session (λ r. refl) c.sessions counted
counted_after (change.CancelSet x) c sound next count counted = counted_cancelled c x sound next.0 count counted
counted_after (change.Certify r) c sound next count counted =
    uncounted c.sets r.certification.session (with_last_request r.number) (λ r. refl) c.sessions counted
counted_after _ c sound next count counted = counted
