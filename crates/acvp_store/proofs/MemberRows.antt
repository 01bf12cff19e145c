-- The statements on accounts, test sessions and requests.
use Rattle.std.proofs.Common.{pos, ◌≡◌, ◌<◌, ◌^◌, ℕ, List, [], ◌∷◌, ◌++◌, map, None, Ok, refl, length, Bool, true}
use Rattle.std.proofs.Common.{false, ap}
use Rattle.std.specs.Prelude.{◌==◌, if◌then◌else◌}
use Rattle.acvp_tables.specs.declared.change.NewAccount.{NewAccount}
use Rattle.acvp_store.proofs.Words.{account_key, account_row, account_shown, account_table, account_tree, AccountRow}
use Rattle.acvp_store.proofs.Words.{all-append, AllByRecursion, Alters, AreKept, Blob, body_number, BodyReads}
use Rattle.acvp_store.proofs.Words.{cancelled_session, cast_row, changed, Database, disabled, Does, eval_all, flag}
use Rattle.acvp_store.proofs.Words.{given_number, HoldsAccounts, HoldsRequests, HoldsSessions, Int, is_account}
use Rattle.acvp_store.proofs.Words.{is_request, is_session, IsAsked, IsPermutation, Layout, mode_of, new_account}
use Rattle.acvp_store.proofs.Words.{new_session, Null, or_null, request_key, request_row, request_table, request_tree}
use Rattle.acvp_store.proofs.Words.{RequestRow, RequestStatus, Row, schema_of, session_key, session_row, session_shown}
use Rattle.acvp_store.proofs.Words.{session_table, session_tree, SessionRow, Shown, State, status_number, Tally, Term}
use Rattle.acvp_store.proofs.Words.{Text, whole, with_counts, with_last_request, with_passed, with_status, with_step}
use Rattle.acvp_store.proofs.Keyed.{keyed}
use Rattle.acvp_store.proofs.Parts.{cast_null, cast_whole, cast_flag, cast_option}
use Rattle.acvp_store.proofs.SelectedRows.{test_equals}
use Rattle.acvp_store.proofs.Effects.{insert_effect, update_effect}
use Rattle.acvp_store.proofs.Readings.{AccountAt, account_terms, reading_text, SessionAt, session_terms}
use Rattle.acvp_store.proofs.Writings.{AccountAdded, AccountDisabled, Effects, StepUsed, writing_terms, SessionAdded}
use Rattle.acvp_store.proofs.Writings.{SessionCancelled, SessionCertified, SessionCounted, SessionPassed, update}
use Rattle.acvp_store.proofs.Writings.{updating, RequestAdded, RequestDecided}
use Rattle.acvp_store.proofs.QueryRows.{rows_by, ShowsAt, rows_at}
use Rattle.acvp_tables.specs.declared.change.NewSession.{NewSession}

-- ---- accounts

pub account_rows : (layout : Layout) (n : ℕ) (old new : State) (rows : List Row) → old.now.schema ≡ schema_of layout
    → Shown (reading_text AccountAt) (whole n ∷ []) old new rows
    → (list : List AccountRow) (kept : AreKept account_key account_row (old.now.trees account_tree) list)
    → IsPermutation (map account_shown (keyed account_key n kept.ordered)) rows
account_rows layout n =
    rows_by AccountAt layout account_tree account_terms refl (λ trees. refl) account_key account_row account_shown
    (λ a. refl) (λ k a. refl) (whole n) (λ a. a.number == n) (λ a. test_equals a.number n)

-- ---- one account added or changed

account_casts : (a : AccountRow) → cast_row (account_table 2) (account_row a) ≡ account_row a
account_casts a = rw (cast_whole a.number, cast_null, cast_flag a.enabled, cast_option a.last_step) refl

pub add_effect : (layout : Layout) (old : State) (a : NewAccount) → a.account < 2 ^ 63
    → Effects AccountAdded layout (whole a.account ∷ Blob a.secret ∷ []) old
    (Alters layout account_tree HoldsAccounts (λ list. list ++ new_account a ∷ []))
add_effect layout old a low =
    insert_effect layout account_key account_row (λ x. refl) 1 _ _ _ _ refl account_casts (writing_terms AccountAdded) 5
    (whole a.account ∷ Blob a.secret ∷ []) (new_account a) refl low old

module _ (layout : Layout) (old : State) (n : ℕ) where
  pub step_effect : (step : ℕ) → Effects StepUsed layout (whole n ∷ whole step ∷ []) old
      (Alters layout account_tree HoldsAccounts (changed (is_account n) (with_step step)))
  step_effect step =
      update_effect layout account_key account_row (λ x. refl) 1 (account_table 2) refl (λ trees. refl) account_casts
      (writing_terms StepUsed) n (whole step ∷ []) (with_step step) (λ a. refl) (λ a. refl) old

  pub disable_effect : Effects AccountDisabled layout (whole n ∷ []) old
      (Alters layout account_tree HoldsAccounts (changed (is_account n) disabled))
  disable_effect =
      update_effect layout account_key account_row (λ x. refl) 1 (account_table 2) refl (λ trees. refl) account_casts
      (writing_terms AccountDisabled) n [] disabled (λ a. refl) (λ a. refl) old

-- ---- test sessions

pub session_rows : (layout : Layout) → ShowsAt SessionAt layout session_tree session_key session_row session_shown
session_rows layout =
    rows_at SessionAt layout session_tree session_terms refl (λ trees. refl) session_key session_row session_shown
    (λ s. refl) (λ k s. refl)

-- ---- one session added or changed

session_casts : (s : SessionRow) → cast_row (session_table 3) (session_row s) ≡ session_row s
session_casts s = rw (cast_whole s.number, cast_null, cast_whole s.account, cast_flag s.sample)
    (rw (cast_whole s.created, cast_flag s.cancelled, cast_option s.last_request)
    (rw (cast_whole s.live, cast_whole s.passed) refl))

pub flag_is : (b : Bool) → Int (if b then pos 1 else pos 0) ≡ flag b
flag_is true = refl
flag_is false = refl

abbrev pub add_session_params : NewSession → Row
add_session_params s = whole s.number ∷ whole s.account ∷ flag s.registration.sample ∷ whole s.created
    ∷ whole (length s.registration.capabilities) ∷ []

pub add_session_effect : (layout : Layout) (old : State) (s : NewSession) → s.number < 2 ^ 63
    → Effects SessionAdded layout (add_session_params s) old
    (Alters layout session_tree HoldsSessions (λ list. list ++ new_session s ∷ []))
add_session_effect layout old s low =
    insert_effect layout session_key session_row (λ x. refl) 2 _ _ _ _ refl session_casts (writing_terms SessionAdded) 9
    (add_session_params s) (new_session s) refl low old

module _ (layout : Layout) (old : State) (n : ℕ) where
  -- an UPDATE of the session of a number
  session_effect : (terms : List Term) (more : Row) (f : SessionRow → SessionRow)
      → ((s : SessionRow) → (f s).number ≡ s.number)
      → ((s : SessionRow) → eval_all (updating terms) ((whole n ∷ more) ∷ session_row s ∷ [])
      ≡ whole s.number ∷ session_row (f s))
      → old.now.schema ≡ schema_of layout → (tally : Tally) (after : Database)
      → Does old.step_limit (mode_of old) (whole n ∷ more) old.now [] None (update 2 3 terms) (Ok (tally, after))
      → Alters layout session_tree HoldsSessions (changed (is_session n) f) old.now after
  session_effect terms more f keeps shows =
      update_effect layout session_key session_row (λ x. refl) 2 (session_table 3) refl (λ trees. refl) session_casts
      terms n more f keeps shows old

  pub cancel_effect : Effects SessionCancelled layout (whole n ∷ []) old
      (Alters layout session_tree HoldsSessions (changed (is_session n) cancelled_session))
  cancel_effect = session_effect (writing_terms SessionCancelled) [] cancelled_session (λ s. refl) (λ s. refl)

  pub count_effect : (live passed : ℕ) → Effects SessionCounted layout (whole n ∷ whole live ∷ whole passed ∷ []) old
      (Alters layout session_tree HoldsSessions (changed (is_session n) (with_counts live passed)))
  count_effect live passed =
      session_effect (writing_terms SessionCounted) (whole live ∷ whole passed ∷ []) (with_counts live passed)
      (λ s. refl) (λ s. refl)

  pub pass_effect : (passed : ℕ) → Effects SessionPassed layout (whole n ∷ whole passed ∷ []) old
      (Alters layout session_tree HoldsSessions (changed (is_session n) (with_passed passed)))
  pass_effect passed =
      session_effect (writing_terms SessionPassed) (whole passed ∷ []) (with_passed passed) (λ s. refl) (λ s. refl)

  pub certify_effect : (request : ℕ) → Effects SessionCertified layout (whole n ∷ whole request ∷ []) old
      (Alters layout session_tree HoldsSessions (changed (is_session n) (with_last_request request)))
  certify_effect request =
      session_effect (writing_terms SessionCertified) (whole request ∷ []) (with_last_request request)
      (λ s. refl) (λ s. refl)

-- ---- requests: what is kept, with texts that read

keeps_texts : (layout : Layout) (change : List RequestRow → List RequestRow)
    → ((list : List RequestRow) → AllByRecursion (λ (r : RequestRow). BodyReads r.body) list
    → AllByRecursion (λ (r : RequestRow). BodyReads r.body) (change list)) → (old new : Database)
    → Alters layout request_tree (AreKept request_key request_row) change old new
    → Alters layout request_tree HoldsRequests change old new
keeps_texts layout change keeps old new h = record {
  schema = h.schema;
  kept = λ list held. record { kept = h.kept list held.kept; texts = keeps list held.texts };
  others = h.others;
}

read_decided : (n : ℕ) (s : RequestStatus) (list : List RequestRow)
    → AllByRecursion (λ (r : RequestRow). BodyReads r.body) list
    → AllByRecursion (λ (r : RequestRow). BodyReads r.body) (changed (is_request n) (with_status s) list)
read_decided n s [] all = tt
read_decided n s (r ∷ list) all = (one (is_request n r), read_decided n s list all.1)
  where
    one : (b : Bool) → BodyReads (if b then with_status s r else r).body
    one true = all.0
    one false = all.0

-- ---- one request added or decided

request_casts : (r : RequestRow) → cast_row (request_table 7) (request_row r) ≡ request_row r
request_casts r = rw (cast_whole r.number, cast_null, cast_whole r.account, cast_whole (body_number r.body))
    (rw (cast_whole (status_number r.status), cast_option (given_number r.status)) refl)

abbrev pub request_params : ℕ → ℕ → ℕ → List ℕ → Row
request_params number account kind body = whole number ∷ whole account ∷ whole kind ∷ Text body ∷ []

asked_is : (row : RequestRow) (number account kind : ℕ) (body : List ℕ) → IsAsked row number account kind body
    → whole number ∷ Null ∷ whole account ∷ whole kind ∷ Text body ∷ whole 0 ∷ Null ∷ [] ≡ request_row row
asked_is row number account kind body is =
    rw (← is.number_is, ← is.account_is, ← is.kind_is, ← is.body_is, is.status_is) refl

pub add_request_effect : (layout : Layout) (old : State) (row : RequestRow) (number account kind : ℕ) (body : List ℕ)
    → IsAsked row number account kind body → number < 2 ^ 63
    → Effects RequestAdded layout (request_params number account kind body) old
    (Alters layout request_tree HoldsRequests (λ list. list ++ row ∷ []))
add_request_effect layout old row number account kind body is low schema tally after does =
    keeps_texts layout (λ list. list ++ row ∷ [])
    (λ list all. all-append (λ (r : RequestRow). BodyReads r.body) list (row ∷ []) all (is.reads, tt)) old.now after
    (insert_effect layout request_key request_row (λ x. refl) 5 _ _ _ _ refl request_casts (writing_terms RequestAdded)
    7
    (request_params number account kind body) row (ap (λ r. r ∷ []) (asked_is row number account kind body is))
    (rw is.number_is low) old schema tally after does)

abbrev pub decide_params : ℕ → RequestStatus → Row
decide_params n s = whole n ∷ whole (status_number s) ∷ or_null whole (given_number s) ∷ []

pub decide_effect : (layout : Layout) (old : State) (n : ℕ) (s : RequestStatus)
    → Effects RequestDecided layout (decide_params n s) old
    (Alters layout request_tree HoldsRequests (changed (is_request n) (with_status s)))
decide_effect layout old n s schema tally after does =
    keeps_texts layout (changed (is_request n) (with_status s)) (read_decided n s) old.now after
    (update_effect layout request_key request_row (λ x. refl) 5 (request_table 7) refl (λ trees. refl) request_casts
    (writing_terms RequestDecided) n (whole (status_number s) ∷ or_null whole (given_number s) ∷ []) (with_status s)
    (λ r. refl) (λ r. refl) old schema tally after does)
