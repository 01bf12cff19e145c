-- The reviewers of a session, put in order one after the other, are those account numbers that review it.
use Rattle.std.proofs.Common.{◌≡◌, ℕ, zero, suc, ◌+◌, ◌≤◌, ◌<◌, Bool, true, false, List, [], ◌∷◌, length, map, filter}
use Rattle.std.proofs.Common.{refl, ap, subst, ◌∙◌, arith}
use Rattle.std.specs.Prelude.{◌==◌, ◌&&◌, ◌||◌, nat_le, if◌then◌else◌}
use Rattle.std.specs.List.{list_all, range_with_len}
use Rattle.std.proofs.lemmas.Bool.Decides.{nat_tests}
use Rattle.acvp_tables.specs.Content.{Content, is_reviewer, account_numbers, reviewers_of}
use Rattle.acvp_tables.specs.Counted.{one_if}
use Rattle.acvp_tables.specs.State.{State, state_of, owner_of, own, is_account_number, IsWellNumbered, AreWellNumbered}
use Rattle.acvp_tables.specs.Private.Ascending.{with_number, ascending}
use Rattle.acvp_tables.specs.declared.rows.ReviewerRow.{ReviewerRow}
use Rattle.acvp_tables.proofs.Numbers.{by_class, eqb_same, filter-within, reviewer_found}

-- ---- tests on numbers in order

-- tests that agree select the same
same_filter : (p q : ℕ → Bool) → ((n : ℕ) → p n ≡ q n) → (numbers : List ℕ) → filter p numbers ≡ filter q numbers
same_filter p q agree [] = refl
same_filter p q agree (n ∷ numbers) = grind (arith, nat_tests, agree n, same_filter p q agree numbers)

none_pass : (a k : ℕ) → filter (λ m. false) (range_with_len a k) ≡ []
none_pass a zero = refl
none_pass a (suc k) = none_pass (a + 1) k

abbrev or_is : ℕ → (ℕ → Bool) → ℕ → Bool
or_is n p m = (m == n) || p m

-- a lesser number stands before them all
at_front : (n a k : ℕ) (p : ℕ → Bool) → n < a → with_number n (filter p (range_with_len a k)) ≡ n
    ∷ filter p (range_with_len a k)
at_front n a zero p low = refl
at_front n a (suc k) p low = go (p a) refl (at_front n (a + 1) k p (omega arith))
  where
    go : (b : Bool) → p a ≡ b → with_number n (filter p (range_with_len (a + 1) k)) ≡ n
        ∷ filter p (range_with_len (a + 1) k)
        → with_number n (filter p (range_with_len a (suc k))) ≡ n ∷ filter p (range_with_len a (suc k))
    go true e rest = let less : nat_le n a ≡ true = grind (arith, nat_tests, low) in rw e (rw less refl)
    go false e rest = rw e rest

-- and none of them is that
none_is : (n a k : ℕ) (p : ℕ → Bool) → n < a → filter (or_is n p) (range_with_len a k) ≡ filter p (range_with_len a k)
none_is n a zero p low = refl
none_is n a (suc k) p low =
    let more : n < a + 1 = omega arith in
    grind (arith, nat_tests, low, none_is n (a + 1) k p more)

-- a number of the range is put among those that pass a test
put_among : (n a k : ℕ) (p : ℕ → Bool) → a ≤ n → n < a + k → p n ≡ false
    → with_number n (filter p (range_with_len a k)) ≡ filter (or_is n p) (range_with_len a k)
put_among n a zero p low high off = absurd (omega arith)
put_among n a (suc k) p low high off =
    go (a == n) refl (p a) refl (λ past within. put_among n (a + 1) k p past within off)
  where
    more : List ℕ
    more = range_with_len (a + 1) k

    first : a ≡ n → with_number n (filter p (a ∷ more)) ≡ filter (or_is n p) (a ∷ more)
    first e =
        let low : n < a + 1 = omega arith in
        let here : p a ≡ false = ap p e ∙ off in
        let is : (a == n) ≡ true = grind (arith, nat_tests, e) in
        simp (here, is) (at_front n (a + 1) k p low ∙ cc (none_is n (a + 1) k p low))

    go : (b : Bool) → (a == n) ≡ b → (c : Bool) → p a ≡ c
        → (a + 1 ≤ n → n < (a + 1) + k → with_number n (filter p more) ≡ filter (or_is n p) more)
        → with_number n (filter p (a ∷ more)) ≡ filter (or_is n p) (a ∷ more)
    go true e c ec rest = first (grind (arith, nat_tests, e))
    go false e true ec rest =
        let past : nat_le n a ≡ false = grind (arith, nat_tests, e, low) in
        let later : a + 1 ≤ n = grind (arith, nat_tests, e, low) in
        simp (ec, e, past, rest later (omega arith))
    go false e false ec rest =
        let later : a + 1 ≤ n = grind (arith, nat_tests, e, low) in
        simp (ec, e, rest later (omega arith))

-- ---- the rows of a session, in order

abbrev is_pair_of : ℕ → ℕ → ReviewerRow → Bool
is_pair_of s m row = (row.session == s) && (row.account == m)

abbrev in_range : ℕ → ℕ → ReviewerRow → Bool
in_range first last row = nat_le first row.account && nat_le row.account last

abbrev pub accounts_in : ℕ → List ReviewerRow → List ℕ
accounts_in s rows = map (λ row. row.account) (filter (λ row. row.session == s) rows)

-- no account is there twice, or passes the test already
abbrev IsOnce : ℕ → (ℕ → Bool) → List ReviewerRow → Type 0
IsOnce s p rows = (m : ℕ) → length (filter (is_pair_of s m) rows) + one_if (p m) ≤ 1

-- they are put among those that pass the test
placed : (s first last k : ℕ) → last + 1 ≡ first + k → (p : ℕ → Bool) (rows : List ReviewerRow)
    → list_all (in_range first last) rows ≡ true → IsOnce s p rows
    → ascending (filter p (range_with_len first k)) (accounts_in s rows) ≡ filter (λ m. p m || is_reviewer s m rows)
    (range_with_len first k)
placed s first last k size p [] all once =
    same_filter p (λ m. p m || false) (λ m. grind (arith, nat_tests)) (range_with_len first k)
placed s first last k size p (r ∷ rows) all once =
    let within : list_all (in_range first last) rows ≡ true = grind (arith, nat_tests, all) in
    go (r.session == s) refl (λ q few. placed s first last k size q rows within few)
  where
    numbers : List ℕ
    numbers = range_with_len first k

    go : (b : Bool) → (r.session == s) ≡ b
        → ((q : ℕ → Bool) → IsOnce s q rows
        → ascending (filter q numbers) (accounts_in s rows) ≡ filter (λ m. q m || is_reviewer s m rows) numbers)
        → ascending (filter p numbers) (accounts_in s (r ∷ rows))
        ≡ filter (λ m. p m || is_reviewer s m (r ∷ rows)) numbers
    go true e later =
        let off : p r.account ≡ false = grind (arith, nat_tests, e, once r.account) in
        let low : first ≤ r.account = grind (arith, nat_tests, all) in
        let high : r.account < first + k = grind (arith, nat_tests, all, size) in
        let few : IsOnce s (or_is r.account p) rows = λ m. grind (arith, nat_tests, e, once m) in
        simp (e) (ap (λ some. ascending some (accounts_in s rows)) (put_among r.account first k p low high off)
        ∙ later (or_is r.account p) few
        ∙ same_filter (λ m. or_is r.account p m || is_reviewer s m rows)
        (λ m. p m || ((r.account == m) || is_reviewer s m rows))
        (λ m. grind (arith, nat_tests)) numbers)
    go false e later =
        let few : IsOnce s p rows = λ m. grind (arith, nat_tests, e, once m) in
        simp (e) (later p few)

-- ---- the reviewers of a session

placed_reviewers : (s : ℕ) (rows : List ReviewerRow) → list_all (λ row. is_account_number row.account) rows ≡ true
    → ((m : ℕ) → length (filter (is_pair_of s m) rows) ≤ 1) → ascending [] (accounts_in s rows) ≡ reviewers_of s rows
unfolding reviewers_of account_numbers
placed_reviewers s rows all once =
    subst (λ none. ascending none (accounts_in s rows) ≡ filter (λ m. is_reviewer s m rows) (range_with_len 1 9999))
    (none_pass 1 9999)
    (placed s 1 9999 9999 refl (λ m. false) rows all (λ m. omega (arith, once m)))

pub of_sound : (s : ℕ) (state : State) → IsWellNumbered state
    → ascending [] (accounts_in s state.reviewers) ≡ reviewers_of s state.reviewers
unfolding IsWellNumbered own
of_sound s state well = placed_reviewers s state.reviewers
    (by_class (λ a b. a == b) (λ row. owner_of row.session)
    (λ u row. is_account_number row.account) eqb_same state.reviewers (λ u. (well u).reviewers))
    (λ m. rw (← its m) ((well (owner_of s)).pairs_once s m))
  where
    its : (m : ℕ) → filter (is_pair_of s m) (filter (λ row. owner_of row.session == owner_of s) state.reviewers)
        ≡ filter (is_pair_of s m) state.reviewers
    its m = filter-within (is_pair_of s m) (λ row. owner_of row.session == owner_of s)
        (λ row e. grind (arith, nat_tests, e)) state.reviewers

-- numbers that are so put are those of the session's reviewers
pub reviewers_read : (s : ℕ) (c : Content) (rows : List ReviewerRow) (numbers : List ℕ) → AreWellNumbered c
    → rows ≡ c.reviewers
    → numbers ≡ ascending [] (map (λ row. row.account) (filter (λ row. row.session == s) rows))
    → numbers ≡ reviewers_of s c.reviewers
unfolding state_of
reviewers_read s c rows numbers sound are put = put ∙ rw are (of_sound s (state_of c) sound)

none_of : (b : Bool) (test : ℕ → Bool) (numbers : List ℕ)
    → filter (λ m. b && test m) numbers ≡ (if b then filter test numbers else [])
none_of true test numbers = refl
none_of false test [] = refl
none_of false test (n ∷ numbers) = none_of false test numbers

-- they are all in the rows of the session's account
pub reviewers_found : (u s : ℕ) (state : State)
    → reviewers_of s (own u state).reviewers ≡ (if owner_of s == u then reviewers_of s state.reviewers else [])
unfolding reviewers_of
reviewers_found u s state =
    same_filter (λ m. is_reviewer s m (own u state).reviewers)
    (λ m. (owner_of s == u) && is_reviewer s m state.reviewers)
    (λ m. reviewer_found u s m state) account_numbers
    ∙ none_of (owner_of s == u) (λ m. is_reviewer s m state.reviewers) account_numbers
