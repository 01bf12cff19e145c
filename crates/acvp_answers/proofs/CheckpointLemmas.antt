-- The list that a checkpoint is the last member of is the standard's, and the only one.
use Rattle.std.proofs.Common.{◌≡◌, ℕ, zero, suc, ◌+◌, ◌-◌, ◌<◌, ◌≤◌, List, [], ◌∷◌, ◌++◌, length, take, drop, refl}
use Rattle.std.proofs.Common.{append_assoc, ap, sym, ◌∙◌, arith, length-append, inl, inr, ◌⊎◌}
use Rattle.std.specs.Fn.{iterate}
use Rattle.std.specs.List.{concat}
use Rattle.std.proofs.Math.Seq.{drop-cons, take-suc, get_or-append_seam}
use Rattle.std.proofs.Math.ListN.{drop_of_length-le}
use Rattle.std.proofs.Math.Nat.{eq-or-lt_of_le}
use Rattle.std.proofs.lemmas.List.{take_all, append-nil, get_or_append_left, get_or-take, take-take, length-take-le}
use Rattle.std.proofs.lemmas.List.{take-append-le}
use Rattle.acvp_answers.specs.MonteCarlo.{next_of, extended, members_of, last_of, member_at, AreMembers}
use Rattle.acvp_answers.specs.MonteCarlo.{next_checkpoint}
use Rattle.acvp_answers.proofs.MonteCarloLemmas.{iterate-suc}

-- the same of a list with so many members after the seeds
pub record AreFirst (hash : List ℕ → List ℕ) (seed : List ℕ) (n : ℕ) (members : List (List ℕ)) : Type 0 where
  pub count : length members ≡ n + 3
  pub seeds : take 3 members ≡ seed ∷ seed ∷ seed ∷ []
  pub later : (i : ℕ) → i < n → member_at members (i + 3) ≡ hash (member_at members i ++ member_at members (i + 1)
      ++ member_at members (i + 2))

-- the last three members, joined
three_joined : (ms : List (List ℕ)) (n : ℕ) → length ms ≡ n + 3 → concat (drop n ms) ≡ member_at ms n
    ++ member_at ms (n + 1) ++ member_at ms (n + 2)
three_joined ms n count =
    let first = drop-cons ms n [] (omega arith) in
    let second = drop-cons ms (suc n) [] (omega arith) in
    let third = drop-cons ms (suc (suc n)) [] (omega arith) in
    let none : drop (suc (suc (suc n))) ms ≡ [] = drop_of_length-le ms {i = suc (suc (suc n))} (omega arith) in
    let one_on : n + 1 ≡ suc n = omega arith in
    let two_on : n + 2 ≡ suc (suc n) = omega arith in
    rw (one_on, two_on, first, second, third, none, append-nil)
    (sym (append_assoc (member_at ms n) (member_at ms (suc n)) (member_at ms (suc (suc n)))))

-- the next member
next_joined : (hash : List ℕ → List ℕ) (ms : List (List ℕ)) (n : ℕ) → length ms ≡ n + 3
    → next_of hash ms ≡ hash (member_at ms n ++ member_at ms (n + 1) ++ member_at ms (n + 2))
next_joined hash ms n count =
    let place : length ms - 3 ≡ n = omega arith in
    rw place (ap (λ bytes. hash bytes) (three_joined ms n count))

-- what holds below a number and at it
at_or_below : {P : ℕ → Type 0} (n i : ℕ) → i < suc n → ((k : ℕ) → k < n → P k) → P n → P i
at_or_below {P} n i below within last =
    let le : i ≤ n = omega arith in
    let split : (i ≡ n) ⊎ (i < n) = eq-or-lt_of_le le in
    elim split [
      | inl same ↦ rw same last
      | inr less ↦ within i less
    ]

-- one member more
more_first : (hash : List ℕ → List ℕ) (seed : List ℕ) (n : ℕ) (ms : List (List ℕ)) → AreFirst hash seed n ms
    → AreFirst hash seed (suc n) (extended hash ms)
more_first hash seed n ms are =
    let count : length ms ≡ n + 3 = are.count in
    let next = next_of hash ms in
    let same = λ (k : ℕ) (below : k < length ms). get_or_append_left ms (next ∷ []) [] k below in
    let within : (i : ℕ) → i < n → member_at (extended hash ms) (i + 3) ≡ hash (member_at (extended hash ms) i
    ++ member_at (extended hash ms) (i + 1) ++ member_at (extended hash ms) (i + 2)) =
    λ i below. rw (
      same (i + 3) (omega arith),
      same i (omega arith),
      same (i + 1) (omega arith),
      same (i + 2) (omega arith),
    ) (are.later i below) in
    let last : member_at (extended hash ms) (n + 3) ≡ hash (member_at (extended hash ms) n
    ++ member_at (extended hash ms) (n + 1) ++ member_at (extended hash ms) (n + 2)) =
    rw (same n (omega arith), same (n + 1) (omega arith), same (n + 2) (omega arith), ← count)
    (get_or-append_seam ms next [] [] ∙ next_joined hash ms n count) in
    record {
      count = omega (arith, length-append ms (next ∷ []));
      seeds = take-append-le 3 ms (next ∷ []) (omega arith) ∙ are.seeds;
      later = λ i below. at_or_below n i below within last;
    }

-- the members that the definition makes
pub first_of : (hash : List ℕ → List ℕ) (seed : List ℕ) (n : ℕ) → AreFirst hash seed n (members_of hash seed n)
unfolding members_of
first_of hash seed zero = record { count = refl; seeds = refl; later = λ i below. absurd (omega arith) }
first_of hash seed (suc n) =
    rw (iterate-suc (extended hash) n (seed ∷ seed ∷ seed ∷ []))
    (more_first hash seed n (iterate (extended hash) n (seed ∷ seed ∷ seed ∷ [])) (first_of hash seed n))

-- the front of such a list
fewer_first : (hash : List ℕ → List ℕ) (seed : List ℕ) (n : ℕ) (ms : List (List ℕ)) → AreFirst hash seed (suc n) ms
    → AreFirst hash seed n (take (n + 3) ms)
fewer_first hash seed n ms are =
    let count : length ms ≡ suc n + 3 = are.count in
    let same = λ (k : ℕ) (below : k < n + 3). get_or-take (n + 3) ms k [] below in
    record {
      count = length-take-le (n + 3) ms (omega arith);
      seeds = take-take 3 (n + 3) ms (omega arith) ∙ are.seeds;
      later = λ i below. rw (
        same (i + 3) (omega arith),
        same i (omega arith),
        same (i + 1) (omega arith),
        same (i + 2) (omega arith),
      ) (are.later i (omega arith));
    }

-- no other list is such
pub first_only : (hash : List ℕ → List ℕ) (seed : List ℕ) (n : ℕ) (ms : List (List ℕ)) → AreFirst hash seed n ms
    → ms ≡ members_of hash seed n
unfolding members_of
first_only hash seed zero ms are =
    let count : length ms ≡ 0 + 3 = are.count in
    sym (take_all 3 ms (omega arith)) ∙ are.seeds
first_only hash seed (suc n) ms are =
    let front : List (List ℕ) = take (n + 3) ms in
    let less = fewer_first hash seed n ms are in
    let count : length ms ≡ suc n + 3 = are.count in
    let same = λ (k : ℕ) (below : k < n + 3). get_or-take (n + 3) ms k [] below in
    let next : member_at ms (n + 3) ≡ next_of hash front =
    are.later n (omega arith)
    ∙ rw (← same n (omega arith), ← same (n + 1) (omega arith), ← same (n + 2) (omega arith))
    (sym (next_joined hash front n less.count)) in
    let whole : ms ≡ front ++ member_at ms (n + 3) ∷ [] =
    sym (take_all (suc (n + 3)) ms (omega arith)) ∙ take-suc ms (n + 3) [] (omega arith) in
    whole ∙ ap (λ m. front ++ m ∷ []) next ∙ ap (λ members. extended hash members) (first_only hash seed n front less)
    ∙ sym (iterate-suc (extended hash) n (seed ∷ seed ∷ seed ∷ []))

-- the standard's list
pub standard_some : (hash : List ℕ → List ℕ) (seed : List ℕ) (n : ℕ) → n ≡ 1000
    → AreMembers hash seed (members_of hash seed n)
standard_some hash seed n is =
    let first = first_of hash seed n in
    let count : length (members_of hash seed n) ≡ n + 3 = first.count in
    record { count = omega arith; seeds = first.seeds; later = λ i below. first.later i (omega arith) }

pub standard_last : (hash : List ℕ → List ℕ) (seed : List ℕ) (members : List (List ℕ)) → AreMembers hash seed members
    → next_checkpoint hash seed ≡ last_of members
unfolding next_checkpoint
standard_last hash seed members are =
    let first : AreFirst hash seed 1000 members =
    record { count = are.count; seeds = are.seeds; later = λ i below. are.later i (omega arith) } in
    sym (ap (λ ms. last_of ms) (first_only hash seed 1000 members first))
