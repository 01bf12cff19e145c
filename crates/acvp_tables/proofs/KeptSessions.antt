-- New, cancelled and certified sessions keep their account's rows well numbered.
use Rattle.std.proofs.Common.{◌≡◌, ℕ, ◌+◌, ◌*◌, ◌≤◌, Bool, true, false, List, [], ◌∷◌, ◌++◌, length, map, refl, subst}
use Rattle.std.proofs.Common.{ap, ◌∙◌, arith, length-append}
use Rattle.std.specs.Prelude.{nat_lt, ◌==◌, if◌then◌else◌}
use Rattle.std.specs.List.{list_all, list_any}
use Rattle.std.proofs.lemmas.Bool.Decides.{nat_tests}
use Rattle.std.proofs.lemmas.List.{append-nil}
use Rattle.std.proofs.lemmas.List.Elements.{filter-append}
use Rattle.acvp_caps.specs.Capability.{CapabilityValue}
use Rattle.acvp_tables.specs.State.{State, SessionRecord, SetRecord, IsNumbered, session_record, set_record}
use Rattle.acvp_tables.specs.State.{first_of_account, first_of_session, sets_in, IsWellNumberedFor}
use Rattle.acvp_tables.specs.Changes.{changed, new_certification, new_session, new_sets}
use Rattle.acvp_tables.specs.StateChanges.{after_state, is_session_record, cancelled_session_record, certified_record}
use Rattle.acvp_tables.specs.Next.{IsNextFor}
use Rattle.acvp_tables.specs.declared.rows.RequestRow.{RequestRow}
use Rattle.acvp_tables.specs.declared.rows.ReviewerRow.{ReviewerRow}
use Rattle.acvp_tables.specs.declared.change.Change.TheVariants as change
use Rattle.acvp_tables.specs.declared.change.NewSession.{NewSession}
use Rattle.acvp_tables.specs.declared.change.NewCertification.{NewCertification}
use Rattle.acvp_tables.proofs.CountedLemmas.{all_append}
use Rattle.acvp_tables.proofs.Numbers.{eqb_same}
use Rattle.acvp_tables.proofs.KeptLemmas.{all_kept, any_before, any_behind, found-changed, found_before, found_last}
use Rattle.acvp_tables.proofs.KeptLemmas.{length-changed, list_all-changed, list_all_weaker, none_selected}
use Rattle.acvp_tables.proofs.KeptLemmas.{numbered-changed, numbered-push, past_last}
use Rattle.acvp_tables.proofs.KeptRows.{is_there, has_set, is_for, is_certified}
use Rattle.acvp_tables.proofs.KeptRequests.{KeepsSessions, asked_still, well_asked}

-- ---- a new session's sets

abbrev set_records : ℕ → ℕ → ℕ → List CapabilityValue → List SetRecord
set_records s epoch i capabilities = map set_record (new_sets s epoch i capabilities)

sets_of_new : (k s epoch i : ℕ) (capabilities : List CapabilityValue)
    → sets_in k (set_records s epoch i capabilities) ≡ (if s == k then set_records s epoch i capabilities else [])
sets_of_new k s epoch i [] = grind (arith, nat_tests)
sets_of_new k s epoch i (c ∷ rest) = grind (arith, nat_tests, sets_of_new k s epoch (i + 1) rest)

sets_numbered : (s epoch i : ℕ) (capabilities : List CapabilityValue)
    → IsNumbered (λ row. row.number) (s * 100 + i) (set_records s epoch i capabilities)
sets_numbered s epoch i [] = refl
sets_numbered s epoch i (c ∷ rest) =
    let next : (s * 100 + i) + 1 ≡ s * 100 + (i + 1) = omega arith in
    rw next (ap (λ more. (s * 100 + i) ∷ more) (sets_numbered s epoch (i + 1) rest))

length-sets : (s epoch i : ℕ) (capabilities : List CapabilityValue)
    → length (set_records s epoch i capabilities) ≡ length capabilities
length-sets s epoch i [] = refl
length-sets s epoch i (c ∷ rest) = grind (arith, length-sets s epoch (i + 1) rest)

-- each is the session's
sets_all : (p : ℕ → Bool) (s epoch i : ℕ) (capabilities : List CapabilityValue) → p s ≡ true
    → list_all (λ set. p set.session) (set_records s epoch i capabilities) ≡ true
sets_all p s epoch i [] e = refl
sets_all p s epoch i (c ∷ rest) e = grind (arith, nat_tests, e, sets_all p s epoch (i + 1) rest e)

-- there is one
sets_any : (s epoch i : ℕ) (capabilities : List CapabilityValue) → 1 ≤ length capabilities
    → list_any (λ set. set.session == s) (set_records s epoch i capabilities) ≡ true
sets_any s epoch i [] some = absurd (omega arith)
sets_any s epoch i (c ∷ rest) some = grind (arith, nat_tests)

-- ---- a session is new

-- no set is that of a session which isn't there
no_sets : (s : ℕ) (mine : State) → is_there mine.sessions s ≡ false
    → list_all (λ set. is_there mine.sessions set.session) mine.sets ≡ true
    → sets_in s mine.sets ≡ []
no_sets s mine absent all =
    none_selected (λ (set : SetRecord). is_there mine.sessions set.session)
    (λ set. set.session == s) apart mine.sets all
  where
    apart : (set : SetRecord) → is_there mine.sessions set.session ≡ true → (set.session == s) ≡ true → ⊥
    apart set there e =
        let its : set.session ≡ s = grind (arith, nat_tests, e) in
        let here : is_there mine.sessions s ≡ true = rw its at there in
        grind (arith, nat_tests, here, absent)

-- a session's sets then: those that were there, or the new ones
sets_then : (s epoch k : ℕ) (capabilities : List CapabilityValue) (rows : List SetRecord) (P : List SetRecord → Type 0)
    → sets_in s rows ≡ []
    → P (sets_in k rows) → (s ≡ k → P (set_records s epoch 1 capabilities))
    → P (sets_in k (rows ++ set_records s epoch 1 capabilities))
sets_then s epoch k capabilities rows P none old new = simp (filter-append, sets_of_new) (go (s == k) refl)
  where
    go : (b : Bool) → (s == k) ≡ b → P (sets_in k rows ++ (if b then set_records s epoch 1 capabilities else []))
    go true e =
        let its : s ≡ k = grind (arith, nat_tests, e) in
        let none_of : sets_in k rows ≡ [] = subst (λ n. sets_in n rows ≡ []) its none in
        rw none_of (new its)
    go false e = rw (append-nil (sets_in k rows)) old

pub well_new_session : (s : NewSession) (mine : State) → IsWellNumberedFor s.account mine
    → IsNextFor mine (change.NewSession s)
    → IsWellNumberedFor s.account (after_state (change.NewSession s) mine)
unfolding after_state
well_new_session s mine well next = record {
  once = well.once;
  accounts = well.accounts;
  there = λ e. next.0;
  sessions = numbered-push (λ (row : SessionRecord). row.number)
      (first_of_account s.account) mine.sessions new well.sessions next.1.0;
  few_sessions = omega (arith, next.1.1, length-append mine.sessions (new ∷ []));
  requests = well.requests;
  few_requests = well.few_requests;
  objects = well.objects;
  asked_for = well.asked_for;
  registered = well.registered;
  given = well.given;
  sets = λ k. sets_then s.number s.epoch k s.registration.capabilities mine.sets
      (λ rows. IsNumbered (λ row. row.number) (first_of_session k) rows) none (well.sets k) (numbered k);
  few_sets = λ k. sets_then s.number s.epoch k s.registration.capabilities mine.sets (λ rows. length rows ≤ 20) none
      (well.few_sets k)
      (λ e. rw (length-sets s.number s.epoch 1 s.registration.capabilities) next.4);
  some_sets = all_append (has_set (mine.sets ++ its_sets)) mine.sessions (new ∷ []) some (rw its_some refl);
  set_sessions = all_append (λ (set : SetRecord). is_there (mine.sessions ++ new ∷ []) set.session) mine.sets its_sets
      there its_there;
  certified = all_append (is_certified mine.requests) mine.sessions (new ∷ []) well.certified refl;
  asked = asked_still mine (record mine { sessions = mine.sessions ++ new ∷ [] })
      (λ kind n e. e) still mine.requests well.asked;
  kept = well.kept;
  created = all_append (λ (row : SessionRecord). nat_lt row.created 4102444800) mine.sessions (new ∷ []) well.created
      (rw next.2 refl);
  reviewed = list_all_weaker (λ (row : ReviewerRow). is_there mine.sessions row.session)
      (λ row. is_there (mine.sessions ++ new ∷ []) row.session)
      (λ row e. still row.session e) mine.reviewers well.reviewed;
  reviewers = well.reviewers;
  few_reviewers = well.few_reviewers;
  pairs_once = well.pairs_once;
}
  where
    new : SessionRecord
    new = session_record (new_session s)

    its_sets : List SetRecord
    its_sets = set_records s.number s.epoch 1 s.registration.capabilities

    still : KeepsSessions mine.sessions (mine.sessions ++ new ∷ [])
    still n e = found_before (λ (row : SessionRecord). row.number == n) mine.sessions (new ∷ []) e

    none : sets_in s.number mine.sets ≡ []
    none = no_sets s.number mine
        (past_last (λ (row : SessionRecord). row.number) s.number
        (first_of_account s.account) mine.sessions well.sessions
        (omega (arith, next.1.0))) well.set_sessions

    numbered : (k : ℕ) → s.number ≡ k → IsNumbered (λ row. row.number) (first_of_session k) its_sets
    numbered k e = rw (← e) (sets_numbered s.number s.epoch 1 s.registration.capabilities)

    some : list_all (has_set (mine.sets ++ its_sets)) mine.sessions ≡ true
    some = list_all_weaker (has_set mine.sets) (has_set (mine.sets ++ its_sets))
        (λ row e. any_before (λ (set : SetRecord). set.session == row.number) mine.sets its_sets e) mine.sessions
        well.some_sets

    its_some : has_set (mine.sets ++ its_sets) new ≡ true
    its_some = any_behind (λ (set : SetRecord). set.session == s.number) mine.sets its_sets
        (sets_any s.number s.epoch 1 s.registration.capabilities next.3)

    there : list_all (λ set. is_there (mine.sessions ++ new ∷ []) set.session) mine.sets ≡ true
    there = list_all_weaker (λ (set : SetRecord). is_there mine.sessions set.session)
        (λ set. is_there (mine.sessions ++ new ∷ []) set.session)
        (λ set e. still set.session e) mine.sets well.set_sessions

    its_there : list_all (λ set. is_there (mine.sessions ++ new ∷ []) set.session) its_sets ≡ true
    its_there = sets_all (λ n. is_there (mine.sessions ++ new ∷ []) n) s.number s.epoch 1 s.registration.capabilities
        (found_last (λ (row : SessionRecord). row.number == s.number) mine.sessions new (eqb_same s.number))

-- ---- a session is changed

-- one of them, and not its number and moment
well_session : (u n : ℕ) (f : SessionRecord → SessionRecord) (mine : State)
    → ((r : SessionRecord) → (f r).number ≡ r.number)
    → ((r : SessionRecord) → (f r).created ≡ r.created)
    → list_all (is_certified mine.requests) (changed (is_session_record n) f mine.sessions) ≡ true
    → IsWellNumberedFor u mine
    → IsWellNumberedFor u (record mine { sessions = changed (is_session_record n) f mine.sessions })
well_session u n f mine keeps stays certified well = record {
  once = well.once;
  accounts = well.accounts;
  there = λ e. well.there (rw (length-changed (is_session_record n) f mine.sessions) at e);
  sessions = numbered-changed (λ (row : SessionRecord). row.number) (first_of_account u)
      (is_session_record n) f keeps mine.sessions well.sessions;
  few_sessions = rw (length-changed (is_session_record n) f mine.sessions) well.few_sessions;
  requests = well.requests;
  few_requests = well.few_requests;
  objects = well.objects;
  asked_for = well.asked_for;
  registered = well.registered;
  given = well.given;
  sets = well.sets;
  few_sets = well.few_sets;
  some_sets = list_all-changed (has_set mine.sets) (is_session_record n) f
      (λ r. ap (λ k. list_any (λ (set : SetRecord). set.session == k) mine.sets) (keeps r)) mine.sessions
      ∙ well.some_sets;
  set_sessions = list_all_weaker (λ (set : SetRecord). is_there mine.sessions set.session)
      (λ set. is_there (changed (is_session_record n) f mine.sessions) set.session)
      (λ set e. still set.session e) mine.sets well.set_sessions;
  certified = certified;
  asked = asked_still mine (record mine { sessions = changed (is_session_record n) f mine.sessions })
      (λ kind k e. e) still mine.requests well.asked;
  kept = well.kept;
  created = list_all-changed (λ (row : SessionRecord). nat_lt row.created 4102444800) (is_session_record n) f
      (λ r. ap (λ k. nat_lt k 4102444800) (stays r)) mine.sessions ∙ well.created;
  reviewed = list_all_weaker (λ (row : ReviewerRow). is_there mine.sessions row.session)
      (λ row. is_there (changed (is_session_record n) f mine.sessions) row.session)
      (λ row e. still row.session e) mine.reviewers well.reviewed;
  reviewers = well.reviewers;
  few_reviewers = well.few_reviewers;
  pairs_once = well.pairs_once;
}
  where
    still : KeepsSessions mine.sessions (changed (is_session_record n) f mine.sessions)
    still k e = found-changed (λ (row : SessionRecord). row.number) k (is_session_record n) f keeps mine.sessions ∙ e

pub well_cancelled : (u n : ℕ) (mine : State) → IsWellNumberedFor u mine
    → IsWellNumberedFor u (after_state (change.CancelSession n) mine)
unfolding after_state
well_cancelled u n mine well = well_session u n cancelled_session_record mine (λ r. refl) (λ r. refl)
    (list_all-changed (is_certified mine.requests) (is_session_record n) cancelled_session_record
    (λ r. refl) mine.sessions ∙ well.certified) well

-- the new request is for the session
newly_certified : (c : NewCertification) (row : SessionRecord) (requests : List RequestRow)
    → (row.number == c.certification.session) ≡ true
    → is_certified (requests ++ new_certification c ∷ []) (certified_record c.number row) ≡ true
newly_certified c row requests e =
    let its : row.number ≡ c.certification.session = grind (arith, nat_tests, e) in
    any_behind (is_for row c.number) requests (new_certification c ∷ []) (rw its (grind (arith, nat_tests)))

pub well_certified : (c : NewCertification) (mine : State) → IsWellNumberedFor c.account mine
    → IsNextFor mine (change.Certify c)
    → IsWellNumberedFor c.account (after_state (change.Certify c) mine)
unfolding after_state
well_certified c mine well next = well_session c.account c.certification.session (certified_record c.number)
    (record mine { requests = mine.requests ++ new_certification c ∷ [] }) (λ r. refl) (λ r. refl) certified asked
  where
    asked : IsWellNumberedFor c.account (record mine { requests = mine.requests ++ new_certification c ∷ [] })
    asked = well_asked c.account (new_certification c) mine next.0 next.1 next.2 refl well

    certified : list_all (is_certified (mine.requests ++ new_certification c ∷ []))
        (changed (is_session_record c.certification.session) (certified_record c.number) mine.sessions) ≡ true
    certified = all_kept (is_certified (mine.requests ++ new_certification c ∷ []))
        (is_session_record c.certification.session)
        (certified_record c.number) (λ row e. newly_certified c row mine.requests e) mine.sessions asked.certified
