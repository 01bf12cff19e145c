-- The number that an approval gives.
use Rattle.std.proofs.Common.{◌≡◌, ℕ, ◌≤◌, ◌<◌, Bool, true, false, List, [], ◌∷◌, length, Some, None, Option, refl, ap}
use Rattle.std.proofs.Common.{sym, ◌∙◌, arith}
use Rattle.std.specs.Prelude.{filter, find, ◌==◌}
use Rattle.std.proofs.lemmas.Bool.Decides.{nat_tests}
use Rattle.std.proofs.lemmas.List.Sums.{length-filter, count_by-le-length}
use Rattle.std.proofs.lemmas.Option.{same_Some}
use Rattle.acvp_tables.specs.State.{State, SessionRecord, owner_of, own, session_record_at, has_registered}
use Rattle.acvp_tables.specs.State.{is_sound_body, IsWellNumberedFor, IsWellNumbered}
use Rattle.acvp_tables.specs.Next.{IsWaiting, IsNextApproved, IsNextOrder}
use Rattle.acvp_tables.specs.Changes.{is_request}
use Rattle.acvp_tables.specs.declared.rows.RequestBody.{RequestBody}
use Rattle.acvp_tables.specs.declared.rows.RequestBody.TheVariants as body
use Rattle.acvp_tables.specs.declared.rows.RequestRow.{RequestRow}
use Rattle.acvp_tables.specs.declared.rows.Certification.{Certification}
use Rattle.acvp_tables.specs.declared.change.Approval.{Approval}
use Rattle.acvp_tables.specs.declared.change.OrderChange.TheVariants as order
use Rattle.acvp_tables.proofs.CountedLemmas.{found_all, found_passes}
use Rattle.acvp_tables.proofs.KeptRequests.{none_registered}
use Rattle.acvp_tables.proofs.Numbers.{sessions_keyed}

-- one that is there doesn't pass, so fewer than all do
fewer_pass : {R : Type 0} (p q : R → Bool) (rows : List R) (row : R) → find p rows ≡ Some row → q row ≡ false
    → length (filter q rows) < length rows
fewer_pass p q [] row found off = cc
fewer_pass p q (r ∷ rows) row found off = go (p r) refl (fewer_pass p q rows row)
  where
    few : length (filter q rows) ≤ length rows
    few = omega (arith, length-filter q rows, count_by-le-length q rows)

    go : (b : Bool) → p r ≡ b → (find p rows ≡ Some row → q row ≡ false → length (filter q rows) < length rows)
        → length (filter q (r ∷ rows)) < length (r ∷ rows)
    go true e later =
        let same : r ≡ row = same_Some r row (rw e at found) in
        let out : q r ≡ false = ap q same ∙ off in
        rw out (omega (arith, few))
    go false e later = let rest = later (rw e at found) off in grind (arith, nat_tests, rest)

-- the session that a request names is of the account
session_own : (u : ℕ) (c : Certification) (mine : State) → IsWellNumberedFor u mine
    → is_sound_body mine (body.Certification c) ≡ true → owner_of c.session ≡ u
session_own u c mine well named = go (session_record_at c.session mine.sessions) refl
  where
    go : (found : Option SessionRecord) → session_record_at c.session mine.sessions ≡ found → owner_of c.session ≡ u
    go None e = absurd (let h = rw e at named in grind (arith, nat_tests, h))
    go (Some row) e =
        let of_u : (owner_of row.number == u) ≡ true =
        found_all (λ (row : SessionRecord). row.number == c.session)
        (λ row. owner_of row.number == u) mine.sessions row e (sessions_keyed u mine well) in
        let is : (row.number == c.session) ≡ true =
        found_passes (λ (row : SessionRecord). row.number == c.session) mine.sessions row e in
        grind (arith, nat_tests, of_u, is)

approved_in : (u n k : ℕ) (mine : State) → IsWellNumberedFor u mine → (waiting : IsWaiting n mine)
    → IsNextApproved u mine waiting.row.body k → owner_of k ≡ u
approved_in u n k mine well waiting next = go waiting.row.body refl next
  where
    go : (it : RequestBody) → waiting.row.body ≡ it → IsNextApproved u mine it k → owner_of k ≡ u
    go (body.Registration object) is number =
        let few = fewer_pass (is_request n) (has_registered object.kind) mine.requests waiting.row waiting.there
        (none_registered object.kind waiting.row waiting.initial) in
        omega (arith, number, few, well.asked_for object.kind, well.few_requests)
    go (body.Certification c) is number =
        ap owner_of number ∙ session_own u c mine well (ap (λ b. is_sound_body mine b) (sym is)
        ∙ found_all (is_request n)
        (λ (row : RequestRow). is_sound_body mine row.body) mine.requests waiting.row waiting.there well.asked)

pub approved_own : (a : Approval) (state : State) → IsWellNumbered state → IsNextOrder state (order.Approve a)
    → owner_of a.approved ≡ owner_of a.request
unfolding IsWellNumbered
approved_own a state well next = approved_in (owner_of a.request) a.request a.approved (own (owner_of a.request) state)
    (well (owner_of a.request)) next.0 next.1
