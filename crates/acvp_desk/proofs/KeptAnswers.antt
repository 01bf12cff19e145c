-- What is read of a vector set for a submission, and that the records are kept right where its answers are kept.
use Rattle.std.proofs.Common.{◌≡◌, ◌≤◌, ℕ, ◌+◌, List, [], ◌∷◌, map, length, filter, find, Bool, true, false, ◌&&◌, ◌==◌}
use Rattle.std.proofs.Common.{Option, None, Some, refl, sym, ap, ◌∙◌, subst, arith}
use Rattle.std.specs.Prelude.{◌/◌, not, option_map, option_and_then, is_some, if◌then◌else◌}
use Rattle.std.specs.List.{All}
use Rattle.std.proofs.lemmas.Bool.Decides.{nat_tests}
use Rattle.std.proofs.lemmas.List.Elements.{All-cons, All-head, All-tail}
use Rattle.acvp_answers.specs.Answer.{Answer}
use Rattle.acvp_gen.specs.Prompt.{PromptsValue}
use Rattle.acvp_gen.specs.Prompts.{prompts_of}
use Rattle.acvp_policy.specs.Conditions.{is_some_and}
use Rattle.acvp_policy.specs.declared.facts.SessionFacts.{SessionFacts}
use Rattle.acvp_tables.specs.Changes.{after, changed, is_set, with_graded}
use Rattle.acvp_tables.specs.Content.{Content, is_live_in, live_sets, session_at, set_at, set_summary}
use Rattle.acvp_tables.specs.Counted.{AreThere, IsCounted, IsNextCount, is_counted, is_passed, is_passed_in}
use Rattle.acvp_tables.specs.Counted.{answers_passed, one_if, passed_count}
use Rattle.acvp_tables.specs.Graded.{GradedValue}
use Rattle.acvp_tables.specs.Next.{IsNext}
use Rattle.acvp_tables.specs.State.{State, SetRecord, state_of, session_record, session_record_at, set_record}
use Rattle.acvp_tables.specs.State.{set_record_at, live_records, AreWellNumbered, IsWellNumbered}
use Rattle.acvp_tables.specs.StateChanges.{after_state}
use Rattle.acvp_tables.specs.declared.change.Change.{Change}
use Rattle.acvp_tables.specs.declared.change.Change.TheVariants as change
use Rattle.acvp_tables.specs.declared.change.KeptAnswers.{KeptAnswers}
use Rattle.acvp_tables.specs.declared.rows.SessionRow.{SessionRow}
use Rattle.acvp_tables.specs.declared.rows.SetRow.{SetRow}
use Rattle.acvp_tables.specs.declared.summary.SetSummary.{SetSummary}
use Rattle.acvp_desk.specs.Kept.{IsGradedSet, IsKept}
use Rattle.acvp_desk.specs.Answer.{content_after}
use Rattle.acvp_desk.specs.Place.{facts_of_session, session_facts}
use Rattle.acvp_desk.specs.Private.SetRows.{source_with}
use Rattle.acvp_desk.specs.Replies.{answers_change, prompts_from, submission_change}
use Rattle.acvp_desk.specs.Sets.{if_live_in, others_passed, set_facts, set_passes, source_of, submission_for}
use Rattle.acvp_desk.specs.Sets.{submission_to}
use Rattle.acvp_desk.specs.Submissions.{answers_at, graded_on, kept_answers}
use Rattle.acvp_desk.specs.declared.found.SetSource.{SetSource}
use Rattle.acvp_desk.specs.declared.found.Submission.{Submission}
use Rattle.acvp_desk.proofs.PassedSession.{found_holds, graded_passes, passed_is}

-- ---- one row of a list

abbrev few : {R : Type 0} → (R → Bool) → List R → Type 0
few test rows = length (filter test rows) ≤ 1

found_is : {R : Type 0} (t : R → Bool) (rows : List R) (x : R) → find t rows ≡ Some x → t x ≡ true
found_is t [] x found = absurd (cc)
found_is t (r ∷ rows) x found = go (t r) refl (found_is t rows x)
  where
    go : (b : Bool) → t r ≡ b → (find t rows ≡ Some x → t x ≡ true) → t x ≡ true
    go true e later = let same : Some r ≡ Some x = rw e at found in let is : r ≡ x = cc in rw (← is) e
    go false e later = later (rw e at found)

none_both : {R : Type 0} (t p : R → Bool) (rows : List R) → length (filter t rows) ≤ 0
    → length (filter (λ r. t r && p r) rows) ≡ 0
none_both t p [] none = refl
none_both t p (r ∷ rows) none = go (t r) refl (none_both t p rows)
  where
    go : (b : Bool) → t r ≡ b → (length (filter t rows) ≤ 0 → length (filter (λ r. t r && p r) rows) ≡ 0)
        → length (filter (λ r. t r && p r) (r ∷ rows)) ≡ 0
    go true e later = absurd (let none = rw e at none in omega (arith, none))
    go false e later = rw e (later (rw e at none))

one_both : {R : Type 0} (t p : R → Bool) (rows : List R) (x : R) → few t rows → find t rows ≡ Some x
    → length (filter (λ r. t r && p r) rows) ≡ one_if (p x)
one_both t p [] x once found = absurd (cc)
one_both {R = R} t p (r ∷ rows) x once found = go (t r) refl (one_both t p rows x)
  where
    at : (b : Bool) → p r ≡ b → t r ≡ true → length (filter (λ r. t r && p r) rows) ≡ 0
        → length (filter (λ r. t r && p r) (r ∷ rows)) ≡ one_if (p r)
    at true e is none = rw (is, e) (omega (arith, none))
    at false e is none = rw (is, e) none

    go : (b : Bool) → t r ≡ b
        → (few t rows → find t rows ≡ Some x → length (filter (λ r. t r && p r) rows) ≡ one_if (p x))
        → length (filter (λ r. t r && p r) (r ∷ rows)) ≡ one_if (p x)
    go true e later =
        let same : Some r ≡ Some x = rw e at found in
        let is : r ≡ x = cc in
        let once' = rw e at once in
        rw (← is) (at (p r) refl e (none_both t p rows (omega (arith, once'))))
    go false e later = rw e (later (rw e at once) (rw e at found))

-- the first row of a changed list
first_changed : {R : Type 0} (t : R → Bool) (f : R → R) (r : R) (rows : List R) (b : Bool) → t r ≡ b
    → changed t f (r ∷ rows) ≡ (if b then f r else r) ∷ changed t f rows
first_changed t f r rows b e = ap (λ b. (if b then f r else r) ∷ changed t f rows) e

none_changed : {R : Type 0} (P : R → Type 0) (t : R → Bool) (f : R → R) (rows : List R) → length (filter t rows) ≤ 0
    → All P rows → All P (changed t f rows)
none_changed P t f [] none all = all
none_changed P t f (r ∷ rows) none all = go (t r) refl (none_changed P t f rows)
  where
    go : (b : Bool) → t r ≡ b → (length (filter t rows) ≤ 0 → All P rows → All P (changed t f rows))
        → All P (changed t f (r ∷ rows))
    go true e later = absurd (let none = rw e at none in omega (arith, none))
    go false e later =
        subst (λ rows. All P rows) (sym (first_changed t f r rows false e))
        (All-cons P r (changed t f rows) (All-head P r rows all) (later (rw e at none) (All-tail P r rows all)))

-- the one row that is changed has what each has
pub one_changed : {R : Type 0} (P : R → Type 0) (t : R → Bool) (f : R → R) (rows : List R) (x : R) → few t rows
    → find t rows ≡ Some x → P (f x)
    → All P rows → All P (changed t f rows)
one_changed P t f [] x once found has all = all
one_changed {R = R} P t f (r ∷ rows) x once found has all = go (t r) refl (one_changed P t f rows x)
  where
    go : (b : Bool) → t r ≡ b → (few t rows → find t rows ≡ Some x → P (f x) → All P rows → All P (changed t f rows))
        → All P (changed t f (r ∷ rows))
    go true e later =
        let same : Some r ≡ Some x = rw e at found in
        let is : x ≡ r = cc in
        let once' = rw e at once in
        subst (λ rows. All P rows) (sym (first_changed t f r rows true e))
        (All-cons P (f r) (changed t f rows) (subst (λ y. P (f y)) is has)
        (none_changed P t f rows (omega (arith, once')) (All-tail P r rows all)))
    go false e later =
        subst (λ rows. All P rows) (sym (first_changed t f r rows false e))
        (All-cons P r (changed t f rows) (All-head P r rows all)
        (later (rw e at once) (rw e at found) has (All-tail P r rows all)))

-- ---- the counters

abbrev beside : List (List ℕ) → ℕ → SetRecord → Bool
beside seeds n row = not (row.number == n) && set_passes seeds row

-- those that have passed are the others, and this one where it has
parts : (seeds : List (List ℕ)) (session n : ℕ) (sets : List SetRow) → All (IsGradedSet seeds) sets
    → passed_count session sets ≡ length (filter (beside seeds n) (map set_record (live_sets session sets))) + length
    (filter (λ row. is_set n row && is_passed_in session row) sets)
parts seeds session n [] graded = refl
parts seeds session n (row ∷ sets) graded =
    go (is_live_in session row) (answers_passed row.graded) (row.number == n) refl refl refl
    (graded_passes seeds row (All-head (IsGradedSet seeds) row sets graded))
    (parts seeds session n sets (All-tail (IsGradedSet seeds) row sets graded))
  where
    go : (live pass this : Bool) → is_live_in session row ≡ live → answers_passed row.graded ≡ pass
        → (row.number == n) ≡ this
        → answers_passed row.graded ≡ set_passes seeds (set_record row)
        → passed_count session sets
        ≡ length (filter (beside seeds n) (map set_record (live_sets session sets))) + length
        (filter (λ row. is_set n row && is_passed_in session row) sets)
        → passed_count session (row ∷ sets)
        ≡ length (filter (beside seeds n) (map set_record (live_sets session (row ∷ sets)))) + length
        (filter (λ row. is_set n row && is_passed_in session row) (row ∷ sets))
    go true true true live pass this passes later = rw (live, pass, this) (omega (arith, later))
    go true true false live pass this passes later = rw (live, pass, this, sym passes ∙ pass) (omega (arith, later))
    go true false true live pass this passes later = rw (live, pass, this) later
    go true false false live pass this passes later = rw (live, pass, this, sym passes ∙ pass) later
    go false pass true live is this passes later = rw (live, this) later
    go false pass false live is this passes later = rw (live, this) later

module _ (once : (n : ℕ) (c : Content) → AreWellNumbered c → length (filter (is_set n) c.sets) ≤ 1)
    (sets : (s : ℕ) (c : Content) → live_records s (state_of c).sets ≡ map set_record (live_sets s c.sets)) where
  -- the counter that is kept counts the others, and this set where it has passed
  pub others_are : (seeds : List (List ℕ)) (session n : ℕ) (c : Content) → IsKept seeds c
      → (there : AreThere session n c)
      → others_passed seeds session n (state_of c).sets + one_if (answers_passed there.set_row.graded)
      ≡ there.row.passed
  others_are seeds session n c kept there =
      let row = there.row in
      let set = there.set_row in
      let counted : is_counted c.sets row ≡ true =
      found_holds (λ r. r.number == session) (is_counted c.sets) c.sessions row there.has_session kept.counted in
      let named : (row.number == session) ≡ true =
      found_is (λ r. r.number == session) c.sessions row there.has_session in
      let is : row.number ≡ session = grind (arith, nat_tests, named) in
      let passed : row.passed ≡ passed_count row.number c.sets = grind (arith, nat_tests, counted) in
      let passed' : row.passed ≡ passed_count session c.sets = rw is at passed in
      let split = parts seeds session n c.sets kept.graded in
      let one : length (filter (λ row. is_set n row && is_passed_in session row) c.sets)
      ≡ one_if (is_passed_in session set)
      = one_both (is_set n) (is_passed_in session) c.sets set (once n c kept.sound) there.has_set in
      let same : is_passed_in session set ≡ answers_passed set.graded = rw (there.live) refl in
      rw (sets session c) (omega (arith, passed', split, rw same at one))

  -- ---- what is read

  module _ (follows : (n : ℕ) (c : Content)
      → set_record_at n (state_of c).sets ≡ option_map set_record (set_at n c.sets))
      (seeds : List (List ℕ)) (c : Content) (session n : ℕ) where
    pub no_set_is : None ≡ option_map set_summary (set_at n c.sets)
        → None ≡ submission_for seeds session n (state_of c).sets
    unfolding submission_for
    no_set_is none = rw (follows n c) (go (set_at n c.sets) none)
      where
        go : (row : Option SetRow) → None ≡ option_map set_summary row
            → None ≡ option_map (submission_to seeds session n (state_of c).sets)
            (option_and_then (if_live_in session) (option_map set_record row))
        go None e = refl
        go (Some row) e = absurd (cc)

    pub set_is_off : (set : SetSummary) → Some set ≡ option_map set_summary (set_at n c.sets)
        → ((set.session == session) && not set.cancelled) ≡ false
        → None ≡ submission_for seeds session n (state_of c).sets
    unfolding submission_for
    set_is_off set found off = rw (follows n c) (go (set_at n c.sets) found)
      where
        go : (row : Option SetRow) → Some set ≡ option_map set_summary row
            → None ≡ option_map (submission_to seeds session n (state_of c).sets)
            (option_and_then (if_live_in session) (option_map set_record row))
        go None e = absurd (cc)
        go (Some row) e =
            let same : set ≡ set_summary row = cc in
            let off' : ((row.session == session) && not row.cancelled) ≡ false = rw same at off in
            rw off' refl

    pub set_is : (set : SetSummary) (source : SetSource) (row : SessionRow) (others : ℕ) → IsKept seeds c
        → Some set ≡ option_map set_summary (set_at n c.sets)
        → ((set.session == session) && not set.cancelled) ≡ true
        → Some source ≡ option_map (source_with set) (set_at n c.sets)
        → Some row ≡ session_at session c.sessions
        → others + one_if (is_some_and set.disposition is_passed) ≡ row.passed
        → Some (record { source = source; others = others }) ≡ submission_for seeds session n (state_of c).sets
    unfolding submission_for
    set_is set source srow others kept found live has there counted =
        rw (follows n c) (go (set_at n c.sets) refl found has)
      where
        go : (row : Option SetRow) → set_at n c.sets ≡ row → Some set ≡ option_map set_summary row
            → Some source ≡ option_map (source_with set) row
            → Some (record { source = source; others = others })
            ≡ option_map (submission_to seeds session n (state_of c).sets)
            (option_and_then (if_live_in session) (option_map set_record row))
        go None at e f = absurd (cc)
        go (Some row) at e f =
            let same : set ≡ set_summary row = cc in
            let made : source ≡ source_with set row = cc in
            let live' : ((row.session == session) && not row.cancelled) ≡ true = rw same at live in
            let all = others_are seeds session n c kept
            (record { row = srow; set_row = row; has_session = sym there; has_set = at; live = live' }) in
            let passed : others + one_if
            (is_some_and (option_map (λ (g : GradedValue). g.disposition) row.graded) is_passed) ≡ srow.passed =
            rw same at counted in
            let passed' : others + one_if (answers_passed row.graded) ≡ srow.passed =
            rw (passed_is row.graded) passed in
            let is : others ≡ others_passed seeds session n (state_of c).sets = omega (arith, all, passed') in
            rw (live', made, same, is) refl

-- ---- what is kept

pub found_has : {R : Type 0} (P : R → Type 0) (t : R → Bool) (rows : List R) (x : R) → find t rows ≡ Some x → All P rows
    → P x
found_has P t [] x found all = absurd (cc)
found_has {R = R} P t (r ∷ rows) x found all = go (t r) refl (found_has P t rows x)
  where
    go : (b : Bool) → t r ≡ b → (find t rows ≡ Some x → All P rows → P x) → P x
    go true e later = let same : Some r ≡ Some x = rw e at found in let is : r ≡ x = cc in
        subst P is (All-head P r rows all)
    go false e later = later (rw e at found) (All-tail P r rows all)

-- answers that are graded by the prompts of the set of a row are right
rightly_graded : (seeds : List (List ℕ)) (n : ℕ) (row : SetRow) (prompts : PromptsValue) (answers : List Answer)
    → row.number ≡ n → IsGradedSet seeds row
    → prompts_from seeds n (source_of (set_record row)) ≡ Some prompts
    → IsGradedSet seeds (with_graded (graded_on prompts answers) row)
unfolding IsGradedSet
rightly_graded seeds n row prompts answers named right made =
    let made' : Some (prompts_of right.0 n row.capability) ≡ Some prompts = rw (right.1) at made in
    let is : prompts_of right.0 n row.capability ≡ prompts = cc in
    (right.0, right.1, record { verdicts = rw named (rw (← is) refl); disposition = refl })

-- a set that answers are submitted to has a row
module _ (follows : (n : ℕ) (c : Content)
    → set_record_at n (state_of c).sets ≡ option_map set_record (set_at n c.sets))
    (seeds : List (List ℕ)) (session n : ℕ) (c : Content) where
  pub submitted_row : (s : Submission) → submission_for seeds session n (state_of c).sets ≡ Some s
      → (row : SetRow) × (set_at n c.sets ≡ Some row) × (is_live_in session row ≡ true)
      × (s ≡ submission_to seeds session n (state_of c).sets (set_record row))
  unfolding submission_for
  submitted_row s is = go (set_at n c.sets) refl (rw (follows n c) at is)
    where
      go : (row : Option SetRow) → set_at n c.sets ≡ row
          → option_map (submission_to seeds session n (state_of c).sets)
          (option_and_then (if_live_in session) (option_map set_record row)) ≡ Some s
          → (row : SetRow) × (set_at n c.sets ≡ Some row) × (is_live_in session row ≡ true)
          × (s ≡ submission_to seeds session n (state_of c).sets (set_record row))
      go None at e = absurd (cc)
      go (Some row) at e = on (is_live_in session row) refl
        where
          on : (live : Bool) → is_live_in session row ≡ live
              → (row : SetRow) × (set_at n c.sets ≡ Some row) × (is_live_in session row ≡ true)
              × (s ≡ submission_to seeds session n (state_of c).sets (set_record row))
          on true live = let e = rw live at e in (row, at, live, cc)
          on false live = absurd (let e = rw live at e in cc)

module _ (once : (n : ℕ) (c : Content) → AreWellNumbered c → length (filter (is_set n) c.sets) ≤ 1)
    (sets : (s : ℕ) (c : Content) → live_records s (state_of c).sets ≡ map set_record (live_sets s c.sets))
    (follows : (n : ℕ) (c : Content) → set_record_at n (state_of c).sets ≡ option_map set_record (set_at n c.sets))
    (session_follows : (n : ℕ) (c : Content)
    → session_record_at n (state_of c).sessions ≡ option_map session_record (session_at n c.sessions))
    (names : (n : ℕ) (state : State) (row : SetRecord) → IsWellNumbered state → set_record_at n state.sets ≡ Some row
    → row.session ≡ n / 100)
    (changes : (c : Content) (it : Change) → state_of (after it c) ≡ after_state it (state_of c))
    (numbers : (it : Change) (state : State) → IsWellNumbered state → IsNext state it
    → IsWellNumbered (after_state it state))
    (counts : (it : Change) (c : Content) → AreWellNumbered c → IsNext (state_of c) it → IsNextCount c it → IsCounted c
    → IsCounted (after it c))
    (differ : (k : KeptAnswers) (c : Content) → AreWellNumbered c → IsCounted c → (there : AreThere k.session k.set c)
    → k.passed + one_if (answers_passed there.set_row.graded) ≡ there.row.passed + one_if
    (is_passed k.graded.disposition) → IsNextCount c (change.KeepAnswers k))
    (seeds : List (List ℕ)) (session n : ℕ) (c : Content) (kept : IsKept seeds c) where
  -- with answers that are graded by the set's prompts, and counted with the other sets of the session
  answers_kept : (there : AreThere session n c) (others : ℕ) (prompts : PromptsValue) (answers : List Answer)
      → others ≡ others_passed seeds session n (state_of c).sets
      → prompts_from seeds n (source_of (set_record there.set_row)) ≡ Some prompts
      → IsKept seeds (after (change.KeepAnswers (kept_answers session n others (graded_on prompts answers))) c)
  unfolding after
  answers_kept there others prompts answers counted made = record {
    sound = subst (λ s. IsWellNumbered s) (sym (changes c it)) (numbers it (state_of c) kept.sound next);
    counted = counts it c kept.sound next count kept.counted;
    graded = one_changed (IsGradedSet seeds) (is_set n) (with_graded graded) c.sets set
        (once n c kept.sound) there.has_set
        (rightly_graded seeds n set prompts answers number
        (found_has (IsGradedSet seeds) (is_set n) c.sets set there.has_set kept.graded) made) kept.graded;
  }
    where
      set : SetRow
      set = there.set_row

      graded : GradedValue
      graded = graded_on prompts answers

      it : Change
      it = change.KeepAnswers (kept_answers session n others graded)

      number : set.number ≡ n
      number = let is = found_is (is_set n) c.sets set there.has_set in grind (arith, nat_tests, is)

      fits : (n / 100) ≡ session
      fits =
          let of : set.session ≡ n / 100 =
          names n (state_of c) (set_record set) kept.sound
          (follows n c ∙ ap (option_map set_record) there.has_set) in
          let live = there.live in
          grind (arith, nat_tests, of, live)

      next : IsNext (state_of c) it
      next = (fits, tt)

      count : IsNextCount c it
      count =
          let all = others_are once sets seeds session n c kept there in
          differ (kept_answers session n others graded) c kept.sound kept.counted there (omega (arith, all, counted))

  -- the session that is found has a row
  session_row : (facts : Option SessionFacts) → facts ≡ session_facts seeds (state_of c) session
      → is_some (set_facts facts session n (state_of c).sets) ≡ true
      → (row : SessionRow) × (session_at session c.sessions ≡ Some row)
  unfolding session_facts set_facts
  session_row None is there = absurd (cc)
  session_row (Some facts) is there =
      go (session_at session c.sessions) refl
      (is ∙ ap (option_map (facts_of_session seeds (state_of c))) (session_follows session c))
    where
      go : (row : Option SessionRow) → session_at session c.sessions ≡ row
          → Some facts ≡ option_map (facts_of_session seeds (state_of c)) (option_map session_record row)
          → (row : SessionRow) × (session_at session c.sessions ≡ Some row)
      go None at e = absurd (cc)
      go (Some row) at e = (row, at)

  pub submitted_kept : (body : List ℕ)
      → is_some (set_facts (session_facts seeds (state_of c) session) session n (state_of c).sets) ≡ true
      → IsKept seeds (content_after
      (option_and_then (submission_change seeds session n body) (submission_for seeds session n (state_of c).sets))
      c)
  submitted_kept body there = go (submission_for seeds session n (state_of c).sets) refl
    where
      go : (s : Option Submission) → submission_for seeds session n (state_of c).sets ≡ s
          → IsKept seeds (content_after (option_and_then (submission_change seeds session n body) s) c)
      go None e = kept
      go (Some s) e = by_prompts (prompts_from seeds n s.source) refl
        where
          session_is : (row : SessionRow) × (session_at session c.sessions ≡ Some row)
          session_is = session_row (session_facts seeds (state_of c) session) refl there

          set_is_there : (row : SetRow) × (set_at n c.sets ≡ Some row) × (is_live_in session row ≡ true)
              × (s ≡ submission_to seeds session n (state_of c).sets (set_record row))
          set_is_there = submitted_row follows seeds session n c s e

          both : AreThere session n c
          both = record {
            row = session_is.0;
            set_row = set_is_there.0;
            has_session = session_is.1;
            has_set =
                set_is_there.1;
            live = set_is_there.2;
          }

          is : s ≡ submission_to seeds session n (state_of c).sets (set_record set_is_there.0)
          is = set_is_there.3

          by_answers : (prompts : PromptsValue) → prompts_from seeds n s.source ≡ Some prompts
              → (answers : Option (List Answer))
              → IsKept seeds (content_after
              (option_map (λ graded. change.KeepAnswers (kept_answers session n s.others graded))
              (option_map (graded_on prompts) answers)) c)
          by_answers prompts made None = kept
          by_answers prompts made (Some answers) =
              answers_kept both s.others prompts answers (ap (λ x. x.others) is)
              (ap (λ x. prompts_from seeds n x.source) (sym is) ∙ made)

          by_prompts : (prompts : Option PromptsValue) → prompts_from seeds n s.source ≡ prompts
              → IsKept seeds (content_after (option_and_then (answers_change session n body s.others) prompts) c)
          by_prompts None made = kept
          by_prompts (Some prompts) made = by_answers prompts made (answers_at prompts body)
