-- The change that a request makes: a session that it registers is next and under the newest epoch, and answers that it
-- keeps are to tests of their vector set.
use Rattle.std.proofs.Common.{◌≡◌, ℕ, ◌+◌, ◌==◌, List, [], ◌∷◌, true, Option, None, Some, Result, Ok, Err, OnOk, refl}
use Rattle.std.proofs.Common.{sym, ap, ◌∙◌, arith}
use Rattle.std.proofs.lemmas.Bool.Decides.{nat_tests}
use Rattle.std.specs.Prelude.{nat_lt, option_and_then, option_map, ⊤}
use Rattle.acvp_answers.specs.declared.verdict.Verdict.{Verdict}
use Rattle.acvp_caps.specs.Registered.{registration_conditions}
use Rattle.acvp_caps.specs.Registration.{RegistrationValue}
use Rattle.acvp_gen.specs.Prompt.{PromptsValue}
use Rattle.acvp_json.specs.Data.{Data}
use Rattle.acvp_json.specs.declared.certify_body.CertifyBody.{CertifyBody}
use Rattle.acvp_mac.specs.Conditions.{first_broken}
use Rattle.acvp_policy.specs.Conditions.{claims_of}
use Rattle.acvp_policy.specs.Decision.{account_of_claims}
use Rattle.acvp_policy.specs.declared.rule.Rule.{Rule}
use Rattle.acvp_policy.specs.declared.rule.Rule.TheVariants as rule
use Rattle.acvp_registry.specs.Object.{KeptObject}
use Rattle.acvp_tables.specs.Changes.{after, after_order, is_set, with_graded}
use Rattle.acvp_tables.specs.Content.{Content, account_at, set_at}
use Rattle.acvp_tables.specs.Graded.{GradedValue}
use Rattle.acvp_tables.specs.State.{first_of_account, owner_of, record_counts, set_record, set_record_at, state_of}
use Rattle.acvp_tables.specs.declared.change.Change.{Change}
use Rattle.acvp_tables.specs.declared.change.Change.TheVariants as change
use Rattle.acvp_tables.specs.declared.change.KeptAnswers.{KeptAnswers}
use Rattle.acvp_tables.specs.declared.change.NewSession.{NewSession as NewSessionValue}
use Rattle.acvp_tables.specs.declared.change.OrderChange.{OrderChange}
use Rattle.acvp_tables.specs.declared.rows.SetRow.{SetRow}
use Rattle.acvp_desk.specs.Answer.{accepted_change, answer, asker_of, change_by, change_on, content_after}
use Rattle.acvp_desk.specs.Answer.{content_effect, end_of_moments, found_of, later_of, own_conditions}
use Rattle.acvp_desk.specs.Answer.{policy_conditions}
use Rattle.acvp_desk.specs.Answered.{has_own_answers}
use Rattle.acvp_desk.specs.Asked.{certification_change, object_change}
use Rattle.acvp_desk.specs.Bodies.{body_conditions, registration_rule}
use Rattle.acvp_desk.specs.Login.{login_step}
use Rattle.acvp_desk.specs.NewSessions.{new_session_in, newest_epoch, registration_in, session_made}
use Rattle.acvp_desk.specs.Orders.{content_after_order, content_order_effect, order_change as change_for}
use Rattle.acvp_desk.specs.OwnConditions.{new_session_conditions, place_conditions}
use Rattle.acvp_desk.specs.Place.{place_of}
use Rattle.acvp_desk.specs.Replies.{answers_change, place_change, prompts_from, registry_change, session_change}
use Rattle.acvp_desk.specs.Replies.{set_change, submission_change}
use Rattle.acvp_desk.specs.Request.{RequestValue}
use Rattle.acvp_desk.specs.Reviewers.{reviewer_at}
use Rattle.acvp_desk.specs.Sets.{results_place, set_place, set_source, submission_for, verdicts_in_session}
use Rattle.acvp_desk.specs.Submissions.{graded_at, kept_answers}
use Rattle.acvp_desk.specs.declared.ask.Asker.{Asker}
use Rattle.acvp_desk.specs.declared.ask.Asker.TheVariants.{Login, Caller}
use Rattle.acvp_desk.specs.declared.found.Grounds.{Grounds}
use Rattle.acvp_desk.specs.declared.found.RegistryPlace.{RegistryPlace}
use Rattle.acvp_desk.specs.declared.found.RegistryPlace.TheVariants as in_registry
use Rattle.acvp_desk.specs.declared.found.SessionPlace.{SessionPlace}
use Rattle.acvp_desk.specs.declared.found.SessionPlace.TheVariants as in_session
use Rattle.acvp_desk.specs.declared.found.Submission.{Submission}
use Rattle.acvp_desk.specs.declared.keys.Keys.{Keys}
use Rattle.acvp_desk.specs.declared.order.Order.{Order}
use Rattle.acvp_desk.specs.declared.wish.AccountWish.TheVariants as on_account
use Rattle.acvp_desk.specs.declared.wish.SetWish.{SetWish}
use Rattle.acvp_desk.specs.declared.wish.SetWish.TheVariants as on_set
use Rattle.acvp_desk.specs.declared.wish.Wish.{Wish}
use Rattle.acvp_desk.specs.declared.wish.Wish.TheVariants as wish
use Rattle.acvp_desk.proofs.AnswerParts.{holds}
use Rattle.acvp_desk.proofs.AnsweredRows.{given_own}
use Rattle.acvp_desk.proofs.CertifiedRows.{found_is}
use Rattle.acvp_desk.proofs.FirstBroken.{back_held, first_held}
use Rattle.acvp_desk.proofs.KeptAnswers.{submitted_row}
use Rattle.acvp_desk.proofs.NextSession.{number_of}

-- ---- what each change has

module _ (seeds : List (List ℕ)) (c : Content) where
  -- a session is registered under its account's next number and the newest epoch
  pub record IsNewest (s : NewSessionValue) : Type 0 where
    pub epoch : newest_epoch seeds ≡ Some s.epoch
    pub owned : owner_of s.number ≡ s.account
    pub next : s.number ≡ first_of_account s.account + (record_counts s.account (state_of c)).sessions

  -- answers are kept that are to tests of their vector set
  pub record AreToTests (k : KeptAnswers) : Type 0 where
    pub row : SetRow
    pub there : set_at k.set c.sets ≡ Some row
    pub own : has_own_answers seeds (with_graded k.graded row) ≡ true

  abbrev pub IsMade : Option Change → Type 0
  IsMade (Some (change.NewSession s)) = IsNewest s
  IsMade (Some (change.KeepAnswers k)) = AreToTests k
  IsMade _ = ⊤

  -- what is made of each that there may be
  of_each : {X : Type 0} (f : X → Option Change) (x : Option X) → ((y : X) → x ≡ Some y → IsMade (f y))
      → IsMade (option_and_then f x)
  of_each f None each = tt
  of_each f (Some y) each = each y refl

  of_one : {X : Type 0} (f : X → Change) (x : Option X) → ((y : X) → x ≡ Some y → IsMade (Some (f y)))
      → IsMade (option_map f x)
  of_one f None each = tt
  of_one f (Some y) each = each y refl

  on_session : (n : ℕ) (body : List ℕ) (it : SessionPlace) → IsMade (session_change n body it)
  on_session n body (in_session.AddReviewer accounts) =
      of_one (λ a. change.AddReviewer (record { session = n; account = a })) (reviewer_at body) (λ a is. tt)
  on_session n body _ = tt

  certifying : (u n : ℕ) (parts : Result CertifyBody Rule) (asked : Grounds)
      → IsMade (certification_change u n parts asked)
  certifying u n (Ok parts) asked = tt
  certifying u n (Err broken) asked = tt

  registering : (u : ℕ) (object : Result KeptObject Rule) (asked : Grounds) → IsMade (object_change u object asked)
  registering u (Ok object) asked = tt
  registering u (Err broken) asked = tt

  in_a_registry : (u : ℕ) (it : RegistryPlace) → IsMade (registry_change u it)
  in_a_registry u (in_registry.New of object asked) = registering u object asked
  in_a_registry u _ = tt

  -- where a session is registered
  new_made : (m u : ℕ) (body : List ℕ)
      → first_broken (new_session_conditions body (record_counts u (state_of c)).sessions) ≡ None
      → IsMade (option_map change.NewSession (new_session_in seeds m u (record_counts u (state_of c)).sessions body))
  new_made m u body held = go (newest_epoch seeds) refl (registration_in body)
    where
      sessions : ℕ
      sessions = (record_counts u (state_of c)).sessions

      few : nat_lt sessions 999999 ≡ true
      few = first_held (nat_lt sessions 999999) rule.AccountFull []
          (back_held (body_conditions registration_rule registration_conditions body)
          ((nat_lt sessions 999999, rule.AccountFull) ∷ []) held)

      go : (epoch : Option ℕ) → newest_epoch seeds ≡ epoch → (registration : Option RegistrationValue)
          → IsMade (option_map change.NewSession
          (option_and_then (λ epoch. option_map (session_made m u sessions epoch) registration) epoch))
      go None e registration = tt
      go (Some epoch) e None = tt
      go (Some epoch) e (Some registration) = record { epoch = e; owned = number_of u sessions few; next = refl }

-- ---- requests

module _ (follows : (n : ℕ) (c : Content)
    → set_record_at n (state_of c).sets ≡ option_map set_record (set_at n c.sets)) where
  -- where answers are kept
  submitted : (seeds : List (List ℕ)) (c : Content) (session n : ℕ) (body : List ℕ)
      → IsMade seeds c
      (option_and_then (submission_change seeds session n body) (submission_for seeds session n (state_of c).sets))
  submitted seeds c session n body =
      of_each seeds c (submission_change seeds session n body) (submission_for seeds session n (state_of c).sets)
      (λ s found. of_each seeds c (answers_change session n body s.others) (prompts_from seeds n s.source)
      (λ prompts made. of_one seeds c (λ graded. change.KeepAnswers (kept_answers session n s.others graded))
      (graded_at body prompts) (λ graded read. to_tests s prompts graded found made read)))
    where
      to_tests : (s : Submission) (prompts : PromptsValue) (graded : GradedValue)
          → submission_for seeds session n (state_of c).sets ≡ Some s → prompts_from seeds n s.source ≡ Some prompts
          → graded_at body prompts ≡ Some graded → AreToTests seeds c (kept_answers session n s.others graded)
      to_tests s prompts graded found made read =
          let it = submitted_row follows seeds session n c s found in
          let its : (it.0.number == n) ≡ true = found_is (is_set n) c.sets it.0 it.1 in
          let number : it.0.number ≡ n = grind (arith, nat_tests, its) in
          record {
            row = it.0;
            there = it.1;
            own = given_own seeds n it.0 body prompts graded number
                (ap (λ s. prompts_from seeds n s.source) (sym it.3) ∙ made) read;
          }

  set_made : (seeds : List (List ℕ)) (c : Content) (session n : ℕ) (body : List ℕ) (it : SetWish)
      → IsMade seeds c (set_change seeds session n body (set_place seeds session n (state_of c).sets it))
  set_made seeds c session n body on_set.Submit = submitted seeds c session n body
  set_made seeds c session n body on_set.Resubmit = submitted seeds c session n body
  set_made seeds c session n body on_set.Results = go (verdicts_in_session seeds session n (state_of c).sets)
    where
      go : (verdicts : Option (List Verdict))
          → IsMade seeds c
          (set_change seeds session n body (results_place verdicts (set_source session n (state_of c).sets)))
      go None = tt
      go (Some verdicts) = tt
  set_made seeds c session n body _ = tt

  on_wish : (seeds : List (List ℕ)) (c : Content) (m u : ℕ) (body : List ℕ) (it : Wish)
      → first_broken (place_conditions seeds body (place_of seeds u body (state_of c) it)) ≡ None
      → IsMade seeds c (place_change seeds m u body (place_of seeds u body (state_of c) it))
  on_wish seeds c m u body (wish.Account on_account.Read) held = tt
  on_wish seeds c m u body (wish.Account on_account.ListAlgorithms) held = tt
  on_wish seeds c m u body (wish.Session n it) held = on_session seeds c n body _
  on_wish seeds c m u body (wish.Set session n it) held = set_made seeds c session n body it
  on_wish seeds c m u body wish.NewSession held = new_made seeds c m u body held
  on_wish seeds c m u body (wish.Certify n) held = certifying seeds c u n _ _
  on_wish seeds c m u body (wish.Registry it) held = in_a_registry seeds c u _
  on_wish seeds c m u body _ held = tt

  -- whatever is answered
  by_answer : (keys : Keys) (m : ℕ) (r : RequestValue) (c : Content) (a : Result (Option Data) Rule)
      (it : Option Asker)
      → OnOk a ((nat_lt m end_of_moments ≡ true) × (first_broken (later_of keys.seed m r it (state_of c)) ≡ None))
      → IsMade keys.seed c (change_on a (change_by keys m r it (state_of c)))
  unfolding found_of policy_conditions
  by_answer keys m r c (Err rule) it held = tt
  by_answer keys m r c (Ok reply) None held = tt
  by_answer keys m r c (Ok reply) (Some (Caller caller)) held =
      let found = found_of keys.seed r.body (Caller caller) (state_of c) in
      on_wish keys.seed c m (account_of_claims (claims_of caller.token)) r.body caller.wish
      (back_held (policy_conditions m found) (own_conditions keys.seed r.body found) held.1)
  by_answer keys m r c (Ok reply) (Some (Login login)) held =
      of_each keys.seed c
      (λ row. option_map (λ step. change.UseStep (record { account = row.number; step = step }))
      (login_step m login row))
      (option_and_then (λ n. account_at n (state_of c).accounts) login.user)
      (λ row is. of_one keys.seed c (λ step. change.UseStep (record { account = row.number; step = step }))
      (login_step m login row) (λ step is. tt))

  -- what holds of records, and after each change that they may have, holds after a request
  pub after_request : (P : Content → Type 0) (keys : Keys) (m : ℕ) (r : RequestValue) (c : Content)
      → ((it : Change) → IsMade keys.seed c (Some it) → P (after it c)) → P c → P (content_effect keys m r c)
  unfolding accepted_change
  after_request P keys m r c stays is =
      go (accepted_change keys m r (state_of c))
      (by_answer keys m r c (answer keys m r (state_of c)) (asker_of keys m r) (holds keys m r (state_of c)))
    where
      go : (made : Option Change) → IsMade keys.seed c made → P (content_after made c)
      go None made = is
      go (Some it) made = stays it made

-- ---- orders

pub after_each_order : (P : Content → Type 0) (it : Order) (c : Content)
    → ((it : OrderChange) → P (after_order it c)) → P c → P (content_order_effect it c)
after_each_order P it c stays is = go (change_for it (state_of c))
  where
    go : (made : Option OrderChange) → P (content_after_order made c)
    go None = is
    go (Some it) = stays it
