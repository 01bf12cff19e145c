-- What the approval of a certification rests on, by what is read of the records.
use Rattle.std.proofs.Common.{◌≡◌, ℕ, List, [], ◌∷◌, map, true, false, ◌&&◌, ◌==◌, Option, None, Some, refl}
use Rattle.std.proofs.lemmas.List.{length-map}
use Rattle.std.specs.Prelude.{option_map}
use Rattle.std.specs.List.{list_all}
use Rattle.acvp_policy.specs.Conditions.{is_some_and}
use Rattle.acvp_tables.specs.Content.{Content, request_at, set_summary}
use Rattle.acvp_tables.specs.Counted.{answers_passed, is_passed}
use Rattle.acvp_tables.specs.State.{of_all, state_of}
use Rattle.acvp_tables.specs.declared.rows.RequestRow.{RequestRow}
use Rattle.acvp_tables.specs.declared.rows.SessionRow.{SessionRow}
use Rattle.acvp_tables.specs.declared.rows.SetRow.{SetRow}
use Rattle.acvp_tables.specs.declared.summary.SetSummary.{SetSummary}
use Rattle.acvp_desk.specs.Approvals.{have_passed, is_ready, may_approve, may_be_approved, waits_in_vain}
use Rattle.acvp_desk.specs.Certifications.{is_last_of, may_be_certified}
use Rattle.acvp_desk.specs.Private.Summaries.{summaries_passed}
use Rattle.acvp_desk.specs.Private.Waiting.{waiting_in}
use Rattle.acvp_desk.specs.declared.order.Waiting.{Waiting}
use Rattle.acvp_desk.proofs.PassedSession.{passed_is}

each_passed : (rows : List SetRow)
    → list_all (λ (set : SetSummary). is_some_and set.disposition is_passed) (map set_summary rows)
    ≡ list_all (λ (row : SetRow). answers_passed row.graded) rows
each_passed [] = refl
each_passed (row ∷ rows) = rw (passed_is row.graded, each_passed rows) refl

-- vector sets have passed where what is read of them says so
pub sets_passed : (live : ℕ) (rows : List SetRow)
    → summaries_passed live (map set_summary rows) ≡ have_passed live rows
sets_passed live rows = rw (length-map rows set_summary, each_passed rows) refl

-- and so is the session, whose row this is
pub ready_is : (n u : ℕ) (row : SessionRow) (read : List SetSummary) (sets : List SetRow) → read ≡ map set_summary sets
    → ((row.account == u) && is_last_of n (Some row) && may_be_certified row && summaries_passed row.live read)
    ≡ is_ready n u sets row
ready_is n u row read sets is = rw (is, sets_passed row.live sets) refl

-- a request may be approved where what waits of it may
pub rests : (n : ℕ) (w : Waiting) (c : Content)
    → Some w ≡ option_map (waiting_in (state_of c)) (request_at n c.requests)
    → may_be_approved n w.account w.purpose c ≡ true → of_all (may_approve n c) (request_at n c.requests) ≡ true
rests n w c is may = go (request_at n c.requests) is
  where
    go : (found : Option RequestRow) → Some w ≡ option_map (waiting_in (state_of c)) found
        → of_all (may_approve n c) found ≡ true
    go None is = refl
    go (Some row) is = let same : w ≡ waiting_in (state_of c) row = cc in rw same at may

-- and it waits in vain where what waits of it may not be
pub refused : (n : ℕ) (w : Waiting) (c : Content)
    → Some w ≡ option_map (waiting_in (state_of c)) (request_at n c.requests) → w.initial ≡ true
    → may_be_approved n w.account w.purpose c ≡ false
    → is_some_and (request_at n c.requests) (waits_in_vain n c) ≡ true
refused n w c is waits may_not = go (request_at n c.requests) is
  where
    go : (found : Option RequestRow) → Some w ≡ option_map (waiting_in (state_of c)) found
        → is_some_and found (waits_in_vain n c) ≡ true
    go None is = absurd (cc)
    go (Some row) is =
        let same : w ≡ waiting_in (state_of c) row = cc in
        rw (rw same at waits, rw same at may_not) refl
