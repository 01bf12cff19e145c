-- A reviewer that is added is next, and the list that is told is the one after it.
use Rattle.std.proofs.Common.{◌≡◌, ℕ, ◌≤◌, ◌<◌, List, [], ◌∷◌, Bool, true, false, Option, None, Some, refl, ◌∙◌, length}
use Rattle.std.proofs.Common.{filter, arith}
use Rattle.std.proofs.lemmas.Bool.Decides.{nat_tests}
use Rattle.std.specs.Prelude.{◌==◌, ◌||◌, ◌&&◌, nat_le, nat_lt, codes, is_some, option_map, option_and_then}
use Rattle.std.specs.Prelude.{if◌then◌else◌}
use Rattle.std.specs.List.{list_all, list_any}
use Rattle.acvp_json.specs.Data.{Data}
use Rattle.acvp_json.specs.Envelope.{object_of}
use Rattle.acvp_json.specs.Members.{number_at}
use Rattle.acvp_json.specs.ReviewerBody.{reviewer_body_of, account_number}
use Rattle.acvp_tables.specs.Content.{is_reviewer, account_numbers, reviewers_of}
use Rattle.acvp_tables.specs.Next.{IsNextFor}
use Rattle.acvp_tables.specs.State.{State, SessionRecord, own, owner_of, session_record_at, is_account_number}
use Rattle.acvp_tables.specs.State.{IsWellNumbered}
use Rattle.acvp_tables.specs.declared.change.Change.TheVariants as change
use Rattle.acvp_tables.specs.declared.rows.ReviewerRow.{ReviewerRow}
use Rattle.acvp_desk.specs.Place.{facts_of_session, session_facts, reviewed_facts}
use Rattle.acvp_desk.specs.Reviewers.{reviewer_at, has_room}

-- who is listed reviews
listed : (n a : ℕ) (rows : List ReviewerRow) (numbers : List ℕ)
    → list_any (λ b. b == a) (filter (λ m. is_reviewer n m rows) numbers) ≡ true → is_reviewer n a rows ≡ true
listed n a rows [] is = absurd (cc)
listed n a rows (m ∷ numbers) is = go (is_reviewer n m rows) refl (m == a) refl (listed n a rows numbers)
  where
    go : (b : Bool) → is_reviewer n m rows ≡ b → (same : Bool) → (m == a) ≡ same
        → (list_any (λ b. b == a) (filter (λ m. is_reviewer n m rows) numbers) ≡ true → is_reviewer n a rows ≡ true)
        → is_reviewer n a rows ≡ true
    go true e true same later = let is : m ≡ a = grind (arith, nat_tests, same) in rw (← is) e
    go true e false same later = later (rw (e, same) at is)
    go false e same s later = later (rw e at is)

fewer : {X : Type 0} (p q : X → Bool) (xs : List X) → length (filter p (filter q xs)) ≤ length (filter p xs)
fewer p q [] = omega (arith)
fewer {X = X} p q (x ∷ xs) = go (q x) refl (p x) refl (fewer p q xs)
  where
    go : (a : Bool) → q x ≡ a → (b : Bool) → p x ≡ b → length (filter p (filter q xs)) ≤ length (filter p xs)
        → length (filter p (filter q (x ∷ xs))) ≤ length (filter p (x ∷ xs))
    go true e true f later = rw (e, f) (omega (arith, later))
    go true e false f later = rw (e, f) later
    go false e true f later = rw (e, f) (omega (arith, later))
    go false e false f later = rw (e, f) later

if_number : (k a : ℕ) → account_number k ≡ Some a → is_account_number a ≡ true
if_number k a is = go (nat_le 1 k && nat_le k 9999) refl is
  where
    go : (b : Bool) → (nat_le 1 k && nat_le k 9999) ≡ b → (if b then Some k else None) ≡ Some a
        → is_account_number a ≡ true
    go true e found = let same : k ≡ a = cc in rw (← same) e
    go false e found = absurd (cc)

-- who is named has the number of an account
named_account : (body : List ℕ) (a : ℕ) → reviewer_at body ≡ Some a → is_account_number a ≡ true
named_account body a is = go (object_of body) is
  where
    at : (number : Option ℕ) → option_and_then account_number number ≡ Some a → is_account_number a ≡ true
    at None e = absurd (cc)
    at (Some k) e = if_number k a e

    go : (d : Option Data) → option_and_then reviewer_body_of d ≡ Some a → is_account_number a ≡ true
    go None e = absurd (cc)
    go (Some d) e = at (number_at (codes "account") d) e

pub own_session : (seeds : List (List ℕ)) (n : ℕ) (state : State) (mine : Option SessionRecord)
    → mine ≡ (if owner_of n == owner_of n then session_record_at n state.sessions else None)
    → is_some (session_facts seeds state n) ≡ true → is_some mine ≡ true
unfolding session_facts
own_session seeds n state mine is there =
    let same : (owner_of n == owner_of n) ≡ true = grind (arith, nat_tests) in
    rw (is, same) (go (session_record_at n state.sessions) there)
  where
    go : (row : Option SessionRecord) → is_some (option_map (facts_of_session seeds state) row) ≡ true
        → is_some row ≡ true
    go None e = absurd (cc)
    go (Some row) e = refl

room_is : (n a : ℕ) (state : State) (mine : List ReviewerRow)
    → is_reviewer n a mine ≡ ((owner_of n == owner_of n) && is_reviewer n a state.reviewers)
    → length (filter (λ row. row.session == n) mine) ≤ length (filter (λ row. row.session == n) state.reviewers)
    → length (reviewers_of n state.reviewers) ≡ length (filter (λ row. row.session == n) state.reviewers)
    → has_room (reviewers_of n state.reviewers) (Some a) ≡ true
    → (is_reviewer n a mine || nat_lt (length (filter (λ row. row.session == n) mine)) 16) ≡ true
unfolding reviewers_of
room_is n a state mine is few counted room = go (list_any (λ b. b == a) (reviewers_of n state.reviewers)) refl room
  where
    reviews : list_any (λ b. b == a) (reviewers_of n state.reviewers) ≡ true → is_reviewer n a state.reviewers ≡ true
    reviews e = listed n a state.reviewers account_numbers e

    go : (b : Bool) → list_any (λ b. b == a) (reviewers_of n state.reviewers) ≡ b
        → (b || nat_lt (length (reviewers_of n state.reviewers)) 16) ≡ true
        → (is_reviewer n a mine || nat_lt (length (filter (λ row. row.session == n) mine)) 16) ≡ true
    go true e room =
        let same : (owner_of n == owner_of n) ≡ true = grind (arith, nat_tests) in
        rw (is, same, reviews e) refl
    go false e room =
        let less : nat_lt (length (filter (λ row. row.session == n) mine)) 16 ≡ true =
        grind (arith, nat_tests, few, counted, room) in
        rw less (or_true (is_reviewer n a mine))
      where
        or_true : (b : Bool) → (b || true) ≡ true
        or_true true = refl
        or_true false = refl

-- a reviewer for whom there is room, of a session that is there, is next
pub next_reviewer : (sessions : (u n : ℕ) (state : State) → IsWellNumbered state
    → session_record_at n (own u state).sessions
    ≡ (if owner_of n == u then session_record_at n state.sessions else None))
    → (reviews : (u s a : ℕ) (state : State)
    → is_reviewer s a (own u state).reviewers ≡ ((owner_of s == u) && is_reviewer s a state.reviewers))
    → (counted : (s : ℕ) (state : State) → IsWellNumbered state
    → length (reviewers_of s state.reviewers) ≡ length (filter (λ row. row.session == s) state.reviewers))
    → (seeds : List (List ℕ)) (state : State) (n a : ℕ) (body : List ℕ) → IsWellNumbered state
    → is_some (session_facts seeds state n) ≡ true → reviewer_at body ≡ Some a
    → has_room (reviewers_of n state.reviewers) (Some a) ≡ true
    → IsNextFor (own (owner_of n) state) (change.AddReviewer (record { session = n; account = a }))
unfolding own
next_reviewer sessions reviews counted seeds state n a body well there named room = (
  own_session seeds n state (session_record_at n (own (owner_of n) state).sessions)
      (sessions (owner_of n) n state well) there,
  named_account body a named,
  room_is n a state (own (owner_of n) state).reviewers (reviews (owner_of n) n a state)
      (fewer (λ (row : ReviewerRow). row.session == n)
      (λ (row : ReviewerRow). owner_of row.session == owner_of n) state.reviewers) (counted n state well) room,
)

any_of_all : (s a : ℕ) (rows : List ReviewerRow) → is_reviewer s a rows ≡ true
    → list_all (λ row. is_account_number row.account) rows ≡ true → is_account_number a ≡ true
any_of_all s a [] is all = absurd (cc)
any_of_all s a (row ∷ rows) is all =
    go (row.account == a) refl (is_account_number row.account) refl (any_of_all s a rows)
  where
    go : (b : Bool) → (row.account == a) ≡ b → (own : Bool) → is_account_number row.account ≡ own
        → (is_reviewer s a rows ≡ true → list_all (λ row. is_account_number row.account) rows ≡ true
        → is_account_number a ≡ true) → is_account_number a ≡ true
    go b e false own later = absurd (let all = rw own at all in cc)
    go true e true own later = let same : row.account ≡ a = grind (arith, nat_tests, e) in rw (← same) own
    go false e true own later = later (none_here (row.session == s) (rw e at is)) (rw own at all)
      where
        none_here : (b : Bool) → ((b && false) || is_reviewer s a rows) ≡ true → is_reviewer s a rows ≡ true
        none_here true e = e
        none_here false e = e

-- a number past those of accounts reviews nothing
pub none_reviews : (reviews : (u s a : ℕ) (state : State)
    → is_reviewer s a (own u state).reviewers ≡ ((owner_of s == u) && is_reviewer s a state.reviewers))
    → (seeds : List (List ℕ)) (state : State) (n m : ℕ) → IsWellNumbered state → 9999 < m
    → None ≡ reviewed_facts seeds state n m
unfolding IsWellNumbered
none_reviews reviews seeds state n m well past = go (is_reviewer n m state.reviewers) refl
  where
    go : (b : Bool) → is_reviewer n m state.reviewers ≡ b → None ≡ (if b then session_facts seeds state n else None)
    go false e = refl
    go true e =
        let same : (owner_of n == owner_of n) ≡ true = grind (arith, nat_tests) in
        let there : is_reviewer n m (own (owner_of n) state).reviewers ≡ true = reviews (owner_of n) n m state
        ∙ rw (same, e) refl in
        let number : is_account_number m ≡ true =
        any_of_all n m (own (owner_of n) state).reviewers there (well (owner_of n)).reviewers in
        absurd (few number)
      where
        few : is_account_number m ≡ true → ⊥
        few e = grind (arith, nat_tests, e, past)
