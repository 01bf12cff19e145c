-- The list that is told to who adds or removes a reviewer is the list of reviewers after the change.
use Rattle.std.proofs.Common.{◌≡◌, ℕ, zero, suc, ◌+◌, ◌≤◌, ◌<◌, List, [], ◌∷◌, Bool, true, false, refl, sym, ap, ◌∙◌}
use Rattle.std.proofs.Common.{filter, arith}
use Rattle.std.proofs.lemmas.Bool.Decides.{nat_tests}
use Rattle.std.specs.Prelude.{◌++◌, ◌==◌, ◌||◌, ◌&&◌, not, nat_lt, if◌then◌else◌}
use Rattle.std.specs.List.{range_with_len}
use Rattle.acvp_tables.specs.Changes.{is_pair, with_reviewer}
use Rattle.acvp_tables.specs.Content.{is_reviewer, account_numbers, reviewers_of}
use Rattle.acvp_tables.specs.State.{is_account_number}
use Rattle.acvp_tables.specs.declared.rows.ReviewerRow.{ReviewerRow}
use Rattle.acvp_desk.specs.Reviewers.{with_account, without_account}

-- tests that agree select the same
same_filter : (p q : ℕ → Bool) → ((n : ℕ) → p n ≡ q n) → (numbers : List ℕ) → filter p numbers ≡ filter q numbers
same_filter p q agree [] = refl
same_filter p q agree (n ∷ numbers) = grind (arith, nat_tests, agree n, same_filter p q agree numbers)

abbrev or_is : ℕ → (ℕ → Bool) → ℕ → Bool
or_is n p m = (m == n) || p m

-- past a number none is below it, all are above it, and none is it
none_below : (n a k : ℕ) (p : ℕ → Bool) → n ≤ a → filter (λ b. nat_lt b n) (filter p (range_with_len a k)) ≡ []
none_below n a zero p low = refl
none_below n a (suc k) p low = go (p a) refl (none_below n (a + 1) k p (omega arith))
  where
    go : (b : Bool) → p a ≡ b → filter (λ b. nat_lt b n) (filter p (range_with_len (a + 1) k)) ≡ []
        → filter (λ b. nat_lt b n) (filter p (range_with_len a (suc k))) ≡ []
    go true e rest = let not_less : nat_lt a n ≡ false = grind (arith, nat_tests, low) in rw e (rw not_less rest)
    go false e rest = rw e rest

all_above : (n a k : ℕ) (p : ℕ → Bool) → n < a → filter (λ b. nat_lt n b) (filter p (range_with_len a k))
    ≡ filter p (range_with_len a k)
all_above n a zero p low = refl
all_above n a (suc k) p low = go (p a) refl (all_above n (a + 1) k p (omega arith))
  where
    go : (b : Bool) → p a ≡ b → filter (λ b. nat_lt n b) (filter p (range_with_len (a + 1) k))
        ≡ filter p (range_with_len (a + 1) k)
        → filter (λ b. nat_lt n b) (filter p (range_with_len a (suc k))) ≡ filter p (range_with_len a (suc k))
    go true e rest = let less : nat_lt n a ≡ true = grind (arith, nat_tests, low) in
        rw e (rw less (ap (λ more. a ∷ more) rest))
    go false e rest = rw e rest

none_is : (n a k : ℕ) (p : ℕ → Bool) → n < a → filter (or_is n p) (range_with_len a k) ≡ filter p (range_with_len a k)
none_is n a zero p low = refl
none_is n a (suc k) p low =
    let more : n < a + 1 = omega arith in
    grind (arith, nat_tests, low, none_is n (a + 1) k p more)

-- a number of a range is put among those that pass a test
put_among : (n a k : ℕ) (p : ℕ → Bool) → a ≤ n → n < a + k
    → with_account n (filter p (range_with_len a k)) ≡ filter (or_is n p) (range_with_len a k)
put_among n a zero p low high = absurd (omega arith)
put_among n a (suc k) p low high = go (a == n) refl (p a) refl (λ past within. put_among n (a + 1) k p past within)
  where
    more : List ℕ
    more = range_with_len (a + 1) k

    rest_of : a ≡ n → n < a + 1
    rest_of e = omega (arith, e)

    here : a ≡ n → (b : Bool) → p a ≡ b → with_account n (filter p (a ∷ more)) ≡ n ∷ filter p more
    here e b is =
        let below : filter (λ b. nat_lt b n) (filter p (range_with_len a (suc k))) ≡ [] =
        none_below n a (suc k) p (omega (arith, e)) in
        rw below (ap (λ rest. n ∷ rest) (past b is))
      where
        past : (b : Bool) → p a ≡ b → filter (λ b. nat_lt n b) (filter p (a ∷ more)) ≡ filter p more
        past true is = let not_less : nat_lt n a ≡ false = grind (arith, nat_tests, e) in
            rw is (rw not_less (all_above n (a + 1) k p (rest_of e)))
        past false is = rw is (all_above n (a + 1) k p (rest_of e))

    go : (s : Bool) → (a == n) ≡ s → (b : Bool) → p a ≡ b
        → (a + 1 ≤ n → n < (a + 1) + k → with_account n (filter p more) ≡ filter (or_is n p) more)
        → with_account n (filter p (a ∷ more)) ≡ filter (or_is n p) (a ∷ more)
    go true e b is later =
        let same : a ≡ n = grind (arith, nat_tests, e) in
        here same b is ∙ (ap (λ rest. n ∷ rest) (sym (none_is n (a + 1) k p (rest_of same)))
        ∙ sym (rw e (ap (λ m. m ∷ filter (or_is n p) more) same)))
    go false e true is later =
        let less : nat_lt a n ≡ true = grind (arith, nat_tests, e, low) in
        let not_more : nat_lt n a ≡ false = grind (arith, nat_tests, low) in
        let past : a + 1 ≤ n = grind (arith, nat_tests, e, low) in
        rw (is, e) (rw (less, not_more) (ap (λ rest. a ∷ rest) (later past (omega arith))))
    go false e false is later =
        let past : a + 1 ≤ n = grind (arith, nat_tests, e, low) in
        rw (is, e) (later past (omega arith))

-- who reviews after an account was added
any_appended : (s a : ℕ) (r : ReviewerRow) (rows : List ReviewerRow)
    → is_reviewer s a (rows ++ r ∷ []) ≡ (is_reviewer s a rows || ((r.session == s) && (r.account == a)))
any_appended s a r [] = last ((r.session == s) && (r.account == a))
  where
    last : (b : Bool) → (b || false) ≡ (false || b)
    last true = refl
    last false = refl
any_appended s a r (row ∷ rows) = go ((row.session == s) && (row.account == a)) (any_appended s a r rows)
  where
    go : (b : Bool) → is_reviewer s a (rows ++ r ∷ [])
        ≡ (is_reviewer s a rows || ((r.session == s) && (r.account == a)))
        → (b || is_reviewer s a (rows ++ r ∷ []))
        ≡ ((b || is_reviewer s a rows) || ((r.session == s) && (r.account == a)))
    go true rest = refl
    go false rest = rest

reviews_after : (s n m : ℕ) (rows : List ReviewerRow)
    → is_reviewer s m (with_reviewer (record { session = s; account = n }) rows) ≡ or_is n (λ a. is_reviewer s a rows) m
reviews_after s n m rows = go (is_reviewer s n rows) refl (m == n) refl
  where
    session : (s == s) ≡ true
    session = grind (arith, nat_tests)

    turned : (b : Bool) → (m == n) ≡ b → (n == m) ≡ b
    turned true e = grind (arith, nat_tests, e)
    turned false e = grind (arith, nat_tests, e)

    or_false : (b : Bool) → (b || false) ≡ b
    or_false true = refl
    or_false false = refl

    or_true : (b : Bool) → (b || true) ≡ true
    or_true true = refl
    or_true false = refl

    go : (there : Bool) → is_reviewer s n rows ≡ there → (same : Bool) → (m == n) ≡ same
        → is_reviewer s m (if there then rows else rows ++ record { session = s; account = n } ∷ [])
        ≡ ((m == n) || is_reviewer s m rows)
    go true there true e = let is : m ≡ n = grind (arith, nat_tests, e) in rw (e, is) there
    go true there false e = rw e refl
    go false there true e = any_appended s m (record { session = s; account = n }) rows
        ∙ rw (e, session, turned true e) (or_true (is_reviewer s m rows))
    go false there false e = any_appended s m (record { session = s; account = n }) rows
        ∙ rw (e, session, turned false e) (or_false (is_reviewer s m rows))

-- an account number is one of those that are listed
pub added_is_told : (s n : ℕ) (rows : List ReviewerRow) → is_account_number n ≡ true
    → with_account n (reviewers_of s rows) ≡ reviewers_of s (with_reviewer (record { session = s; account = n }) rows)
unfolding reviewers_of account_numbers
added_is_told s n rows number =
    let low : 1 ≤ n = grind (arith, nat_tests, number) in
    let high : n < 1 + 9999 = grind (arith, nat_tests, number) in
    put_among n 1 9999 (λ a. is_reviewer s a rows) low high
    ∙ same_filter (or_is n (λ a. is_reviewer s a rows))
    (λ m. is_reviewer s m (with_reviewer (record { session = s; account = n }) rows))
    (λ m. sym (reviews_after s n m rows)) (range_with_len 1 9999)

-- who reviews after an account was removed
reviews_without : (s n m : ℕ) (rows : List ReviewerRow)
    → is_reviewer s m (filter (λ row. not (is_pair (record { session = s; account = n }) row)) rows)
    ≡ (is_reviewer s m rows && not (m == n))
reviews_without s n m [] = refl
reviews_without s n m (row ∷ rows) = go (row.session == s) refl (row.account == n) refl (row.account == m) refl
    (m == n) refl (reviews_without s n m rows)
  where
    rest : Bool
    rest = is_reviewer s m (filter (λ row. not (is_pair (record { session = s; account = n }) row)) rows)

    go : (here : Bool) → (row.session == s) ≡ here → (gone : Bool) → (row.account == n) ≡ gone → (its : Bool)
        → (row.account == m) ≡ its → (same : Bool) → (m == n) ≡ same
        → rest ≡ (is_reviewer s m rows && not (m == n))
        → is_reviewer s m (filter (λ row. not (is_pair (record { session = s; account = n }) row)) (row ∷ rows))
        ≡ (is_reviewer s m (row ∷ rows) && not (m == n))
    go false h gone g its i same e later = rw h (rw h later)
    go true h false g true i same e later = grind (arith, nat_tests, h, g, i, e)
    go true h false g false i same e later = rw (h, g) (rw (h, i) later)
    go true h true g true i same e later = let is : (m == n) ≡ true = grind (arith, nat_tests, g, i) in
        rw (h, g) (later ∙ rw (is, i) (and_false (is_reviewer s m rows)))
      where
        and_false : (b : Bool) → (b && false) ≡ (true && false)
        and_false true = refl
        and_false false = refl
    go true h true g false i same e later = rw (h, g) (rw i later)

filtered_twice : (p q : ℕ → Bool) (numbers : List ℕ) → filter q (filter p numbers) ≡ filter (λ m. p m && q m) numbers
filtered_twice p q [] = refl
filtered_twice p q (n ∷ numbers) = go (p n) refl (filtered_twice p q numbers)
  where
    go : (b : Bool) → p n ≡ b → filter q (filter p numbers) ≡ filter (λ m. p m && q m) numbers
        → filter q (filter p (n ∷ numbers)) ≡ filter (λ m. p m && q m) (n ∷ numbers)
    go true e rest = inner (q n) refl
      where
        inner : (c : Bool) → q n ≡ c → filter q (filter p (n ∷ numbers)) ≡ filter (λ m. p m && q m) (n ∷ numbers)
        inner true f = rw e (rw f (ap (λ more. n ∷ more) rest))
        inner false f = rw e (rw f rest)
    go false e rest = rw e rest

pub removed_is_told : (s n : ℕ) (rows : List ReviewerRow)
    → without_account n (reviewers_of s rows)
    ≡ reviewers_of s (filter (λ row. not (is_pair (record { session = s; account = n }) row)) rows)
unfolding reviewers_of
removed_is_told s n rows =
    filtered_twice (λ a. is_reviewer s a rows) (λ b. not (b == n)) account_numbers
    ∙ same_filter (λ m. is_reviewer s m rows && not (m == n))
    (λ m. is_reviewer s m (filter (λ row. not (is_pair (record { session = s; account = n }) row)) rows))
    (λ m. sym (reviews_without s n m rows)) account_numbers
