-- What is found of a wish on what an account owns is found among the account's rows.
use Rattle.std.proofs.Common.{◌≡◌, ℕ, ◌/◌, List, [], ◌∷◌, map, Bool, true, false, ◌&&◌, ◌==◌, Option, None, Some, refl}
use Rattle.std.proofs.Common.{sym, ap, ◌∙◌, arith}
use Rattle.std.specs.Prelude.{Result, Ok, Err, IfSome, is_some, option_map, option_and_then, if◌then◌else◌, ⊤, filter}
use Rattle.std.specs.Prelude.{not, length}
use Rattle.std.specs.List.{All}
use Rattle.std.proofs.lemmas.Bool.Decides.{nat_tests}
use Rattle.std.proofs.lemmas.List.{take-map, drop-map}
use Rattle.std.proofs.lemmas.List.Elements.{All-head, All-tail}
use Rattle.acvp_json.specs.declared.certify_body.CertifyBody.{CertifyBody}
use Rattle.acvp_json.specs.declared.page.Page.{Page}
use Rattle.acvp_policy.specs.Conditions.{is_none_or}
use Rattle.acvp_desk.specs.declared.found.RegistryPlace.TheVariants as in_registry
use Rattle.acvp_policy.specs.declared.rule.Rule.{Rule}
use Rattle.acvp_registry.specs.Object.{KeptObject, object_vendor}
use Rattle.acvp_registry.specs.declared.kind.Kind.{Kind}
use Rattle.acvp_registry.specs.declared.kind.Kind.TheVariants.{Vendor, Module, Environment}
use Rattle.acvp_tables.specs.Content.{is_reviewer, object_at, objects_of, page, request_at, requests_of, reviewers_of}
use Rattle.acvp_tables.specs.State.{State, SessionRecord, SetRecord, own, owner_of, session_record_at}
use Rattle.acvp_tables.specs.State.{session_records_of, set_record_at, live_records, record_counts, IsWellNumbered}
use Rattle.acvp_tables.specs.declared.rows.ObjectRow.{ObjectRow}
use Rattle.acvp_tables.specs.declared.rows.RequestRow.{RequestRow}
use Rattle.acvp_desk.specs.Asked.{certification_grounds, certified_in, has_own_parts, has_own_vendor, object_in}
use Rattle.acvp_desk.specs.Asked.{object_grounds}
use Rattle.acvp_desk.specs.Place.{certification_of, facts_of_session, listed_session, place_of, registry_place}
use Rattle.acvp_desk.specs.Place.{reviewed_facts, session_facts, session_passes, session_place, sessions_page}
use Rattle.acvp_desk.specs.Registries.{kind_of, own_object, own_request}
use Rattle.acvp_desk.specs.Sets.{if_in_session, if_live_in, set_facts, set_in_session, set_place, submission_for}
use Rattle.acvp_desk.specs.Sets.{source_of, submission_to, set_passes}
use Rattle.acvp_desk.specs.declared.found.Place.TheVariants as place
use Rattle.acvp_desk.specs.declared.found.SetPlace.TheVariants as in_set
use Rattle.acvp_desk.specs.declared.found.Submission.{Submission}
use Rattle.acvp_desk.specs.declared.wish.Wish.{Wish}
use Rattle.acvp_desk.specs.declared.wish.Wish.TheVariants as wish
use Rattle.acvp_desk.specs.declared.wish.AccountWish.TheVariants as on_account
use Rattle.acvp_desk.specs.declared.wish.SessionWish.{SessionWish}
use Rattle.acvp_desk.specs.declared.wish.SessionWish.TheVariants as on_session
use Rattle.acvp_desk.specs.declared.wish.SetWish.{SetWish}
use Rattle.acvp_desk.specs.declared.wish.SetWish.TheVariants as on_set
use Rattle.acvp_desk.specs.declared.wish.RegistryWish.{RegistryWish}
use Rattle.acvp_desk.specs.declared.wish.RegistryWish.TheVariants as on_registry
use Rattle.acvp_desk.proofs.Elsewhere.{no_set_in, none_elsewhere, none_live}

-- the session that a wish is on is the account's
abbrev pub IsOnOwn : ℕ → Wish → Type 0
IsOnOwn u (wish.Session n it) = owner_of n ≡ u
IsOnOwn u (wish.Reviewer n m) = owner_of n ≡ u
IsOnOwn u (wish.Set session n it) = owner_of session ≡ u
IsOnOwn u (wish.CancelSet session n) = owner_of session ≡ u
IsOnOwn u (wish.Certify n) = owner_of n ≡ u
IsOnOwn u _ = ⊤

same_number : (n u : ℕ) → n ≡ u → (n == u) ≡ true
same_number n u same = grind (arith, nat_tests, same)

-- what an option gives is told by the account's rows, where it gives nothing of another account's
own_by : {R X : Type 0} → (f : R → Option X) (n u : ℕ) (here all : Option R) → here ≡ (if n == u then all else None)
    → ((n == u) ≡ false → option_and_then f all ≡ None)
    → option_and_then f here ≡ option_and_then f all
own_by f n u here all told none = go (n == u) refl
  where
    go : (b : Bool) → (n == u) ≡ b → option_and_then f here ≡ option_and_then f all
    go true e = let is : here ≡ all = told ∙ rw e refl in ap (option_and_then f) is
    go false e = let is : here ≡ None = told ∙ rw e refl in ap (option_and_then f) is ∙ sym (none e)

-- a session that is found has the number
pub found_number : (n : ℕ) (rows : List SessionRecord) (row : SessionRecord) → session_record_at n rows ≡ Some row
    → row.number ≡ n
found_number n [] row is = absurd (cc)
found_number n (first ∷ rows) row is = go (first.number == n) refl (found_number n rows row)
  where
    go : (b : Bool) → (first.number == n) ≡ b → (session_record_at n rows ≡ Some row → row.number ≡ n) → row.number ≡ n
    go true e later = let here : Some first ≡ Some row = rw e at is in let same : first ≡ row = cc (here) in
        rw (← same) (grind (arith, nat_tests, e))
    go false e later = later (rw e at is)

page_map : {R Q : Type 0} → (f : R → Q) (offset limit : ℕ) (rows : List R)
    → map f (page offset limit rows) ≡ page offset limit (map f rows)
page_map f offset limit rows = simp (drop-map, take-map)

-- what is told under a test that holds
where_own : {X : Type 0} → (n u : ℕ) (there : X) (told none : X) → told ≡ (if n == u then there else none) → n ≡ u
    → told ≡ there
where_own n u there told none is same = is ∙ rw (same_number n u same) refl

module _ (session_told : (u n : ℕ) (state : State) → IsWellNumbered state
    → session_record_at n (own u state).sessions
    ≡ (if owner_of n == u then session_record_at n state.sessions else None))
    (request_told : (u n : ℕ) (state : State) → IsWellNumbered state
    → request_at n (own u state).requests ≡ (if owner_of n == u then request_at n state.requests else None))
    (object_told : (u n : ℕ) (kind : Kind) (state : State) → IsWellNumbered state
    → object_at kind n (own u state).objects ≡ (if owner_of n == u then object_at kind n state.objects else None))
    (set_told : (u v : ℕ) (state : State) → IsWellNumbered state
    → set_record_at v (own u state).sets ≡ (if owner_of (v / 100) == u then set_record_at v state.sets else None))
    (live_told : (u s : ℕ) (state : State)
    → live_records s (own u state).sets ≡ (if owner_of s == u then live_records s state.sets else []))
    (reviewer_told : (u s a : ℕ) (state : State)
    → is_reviewer s a (own u state).reviewers ≡ ((owner_of s == u) && is_reviewer s a state.reviewers))
    (reviewers_told : (u s : ℕ) (state : State)
    → reviewers_of s (own u state).reviewers ≡ (if owner_of s == u then reviewers_of s state.reviewers else []))
    (sessions_told : (u : ℕ) (state : State)
    → session_records_of u (own u state).sessions ≡ session_records_of u state.sessions)
    (objects_told : (u : ℕ) (kind : Kind) (state : State)
    → objects_of kind u (own u state).objects ≡ objects_of kind u state.objects)
    (requests_told : (u : ℕ) (state : State) → requests_of u (own u state).requests ≡ requests_of u state.requests)
    (counts_told : (u : ℕ) (state : State) → record_counts u (own u state) ≡ record_counts u state)
    (object_names : (n : ℕ) (kind : Kind) (state : State) (row : ObjectRow) → IsWellNumbered state
    → object_at kind n state.objects ≡ Some row → row.account ≡ owner_of n)
    (request_names : (n : ℕ) (state : State) (row : RequestRow) → IsWellNumbered state
    → request_at n state.requests ≡ Some row → row.account ≡ owner_of n)
    (set_names : (n : ℕ) (state : State) (row : SetRecord) → IsWellNumbered state
    → set_record_at n state.sets ≡ Some row → row.session ≡ n / 100)
    (certification_names : (n m : ℕ) (state : State) (row : SessionRecord) → IsWellNumbered state
    → session_record_at n state.sessions ≡ Some row → row.last_request ≡ Some m → owner_of m ≡ owner_of n)
    (certifications_name : (u : ℕ) (state : State) → IsWellNumbered state
    → All (λ row. IfSome row.last_request (λ m. owner_of m ≡ u)) (session_records_of u state.sessions))
    (seeds : List (List ℕ)) (u : ℕ) (state : State) (well : IsWellNumbered state) where
  abbrev pub mine : State
  mine = own u state

  -- ---- a session

  own_certification : (certify : Option ℕ) → IfSome certify (λ m. owner_of m ≡ u)
      → certification_of certify mine.requests ≡ certification_of certify state.requests
  own_certification None of = refl
  own_certification (Some m) of =
      rw (where_own (owner_of m) u (request_at m state.requests) (request_at m mine.requests) None
      (request_told u m state well) of) refl

  own_live : (n : ℕ) → owner_of n ≡ u → live_records n mine.sets ≡ live_records n state.sets
  own_live n of = where_own (owner_of n) u (live_records n state.sets) (live_records n mine.sets) []
      (live_told u n state) of

  own_passes : (n : ℕ) → owner_of n ≡ u → session_passes seeds n mine.sets ≡ session_passes seeds n state.sets
  unfolding session_passes
  own_passes n of = rw (own_live n of) refl

  certify_of : (n : ℕ) (row : SessionRecord) → owner_of n ≡ u → session_record_at n state.sessions ≡ Some row
      → (certify : Option ℕ) → row.last_request ≡ certify
      → IfSome certify (λ m. owner_of m ≡ u)
  certify_of n row of found None is = tt
  certify_of n row of found (Some m) is = certification_names n m state row well found is ∙ of

  own_facts_of : (n : ℕ) (row : SessionRecord) → owner_of n ≡ u → session_record_at n state.sessions ≡ Some row
      → facts_of_session seeds mine row ≡ facts_of_session seeds state row
  own_facts_of n row of found =
      let number : row.number ≡ n = found_number n state.sessions row found in
      rw (
        own_certification row.last_request (certify_of n row of found row.last_request refl),
        own_passes row.number (ap owner_of number ∙ of),
      ) refl

  own_session_facts : (n : ℕ) → owner_of n ≡ u → session_facts seeds mine n ≡ session_facts seeds state n
  unfolding session_facts
  own_session_facts n of =
      ap (option_map (facts_of_session seeds mine))
      (where_own (owner_of n) u (session_record_at n state.sessions) (session_record_at n mine.sessions) None
      (session_told u n state well) of)
      ∙ go (session_record_at n state.sessions) refl
    where
      go : (found : Option SessionRecord) → session_record_at n state.sessions ≡ found
          → option_map (facts_of_session seeds mine) found ≡ option_map (facts_of_session seeds state) found
      go None is = refl
      go (Some row) is = ap Some (own_facts_of n row of is)

  own_reviewer : (n m : ℕ) → owner_of n ≡ u → is_reviewer n m mine.reviewers ≡ is_reviewer n m state.reviewers
  own_reviewer n m of = reviewer_told u n m state ∙ rw (same_number (owner_of n) u of) refl

  own_reviewers : (n : ℕ) → owner_of n ≡ u → reviewers_of n mine.reviewers ≡ reviewers_of n state.reviewers
  own_reviewers n of = where_own (owner_of n) u (reviewers_of n state.reviewers) (reviewers_of n mine.reviewers) []
      (reviewers_told u n state) of

  own_reviewed_facts : (n m : ℕ) → owner_of n ≡ u → reviewed_facts seeds mine n m ≡ reviewed_facts seeds state n m
  own_reviewed_facts n m of = rw (own_reviewer n m of, own_session_facts n of) refl

  -- ---- a vector set

  elsewhere : (session n : ℕ) → owner_of session ≡ u → (owner_of (n / 100) == u) ≡ false
      → ((n / 100) == session) ≡ false
  elsewhere session n of apart = go ((n / 100) == session) refl
    where
      go : (b : Bool) → ((n / 100) == session) ≡ b → ((n / 100) == session) ≡ false
      go true e =
          let same : n / 100 ≡ session = grind (arith, nat_tests, e) in
          absurd (cc (same_number (owner_of (n / 100)) u (ap owner_of same ∙ of), apart))
      go false e = e

  own_set_by : {X : Type 0} → (f : SetRecord → Option X) (session n : ℕ) → owner_of session ≡ u
      → (((n / 100) == session) ≡ false → option_and_then f (set_record_at n state.sets) ≡ None)
      → option_and_then f (set_record_at n mine.sets) ≡ option_and_then f (set_record_at n state.sets)
  own_set_by f session n of none =
      own_by f (owner_of (n / 100)) u (set_record_at n mine.sets) (set_record_at n state.sets) (set_told u n state well)
      (λ apart. none (elsewhere session n of apart))

  own_set_in : (session n : ℕ) → owner_of session ≡ u
      → set_in_session session n mine.sets ≡ set_in_session session n state.sets
  own_set_in session n of =
      own_set_by (if_in_session session) session n of (λ apart. no_set_in set_names session n state well apart)

  own_live_set : (session n : ℕ) → owner_of session ≡ u
      → option_and_then (if_live_in session) (set_record_at n mine.sets) ≡ option_and_then (if_live_in session)
      (set_record_at n state.sets)
  own_live_set session n of =
      own_set_by (if_live_in session) session n of (λ apart. none_live set_names session n state well apart)

  own_set_facts : (session n : ℕ) → owner_of session ≡ u
      → set_facts (session_facts seeds mine session) session n mine.sets
      ≡ set_facts (session_facts seeds state session) session n state.sets
  unfolding set_facts
  own_set_facts session n of = rw (own_session_facts session of, own_set_in session n of) refl

  -- by the uncancelled sets of the session
  abbrev submission_by : ℕ → List SetRecord → SetRecord → Submission
  submission_by n rows row =
      record {
        source = source_of row;
        others =
            length (filter (λ other. not (other.number == n) && set_passes seeds other) rows);
      }

  own_submission : (session n : ℕ) → owner_of session ≡ u
      → submission_for seeds session n mine.sets ≡ submission_for seeds session n state.sets
  unfolding submission_for
  own_submission session n of =
      ap (λ rows. option_map (submission_by n rows) (option_and_then (if_live_in session) (set_record_at n mine.sets)))
      (own_live session of)
      ∙ ap (option_map (submission_to seeds session n state.sets)) (own_live_set session n of)

  own_set_place : (session n : ℕ) (it : SetWish) → owner_of session ≡ u
      → set_place seeds session n mine.sets it ≡ set_place seeds session n state.sets it
  own_set_place session n on_set.Read of = rw (own_set_in session n of) refl
  own_set_place session n on_set.Expected of = rw (own_set_in session n of) refl
  own_set_place session n on_set.Results of = rw (own_set_in session n of) refl
  own_set_place session n on_set.Submit of = ap in_set.Submit (own_submission session n of)
  own_set_place session n on_set.Resubmit of = ap in_set.Resubmit (own_submission session n of)

  -- ---- objects and requests

  own_object_told : (kind : Kind) (n : ℕ) → own_object kind u n mine.objects ≡ own_object kind u n state.objects
  own_object_told kind n = own_by (λ (row : ObjectRow). if row.account == u then Some row else None) (owner_of n) u
      (object_at kind n mine.objects) (object_at kind n state.objects)
      (object_told u n kind state well)
      (λ apart. none_elsewhere (λ (row : ObjectRow). row.account) u (owner_of n) (object_at kind n state.objects)
      (λ row is. object_names n kind state row well is) apart)

  own_request_told : (n : ℕ) → own_request u n mine.requests ≡ own_request u n state.requests
  own_request_told n = own_by (λ (row : RequestRow). if row.account == u then Some row else None) (owner_of n) u
      (request_at n mine.requests) (request_at n state.requests)
      (request_told u n state well)
      (λ apart. none_elsewhere (λ (row : RequestRow). row.account) u (owner_of n) (request_at n state.requests)
      (λ row is. request_names n state row well is) apart)

  own_vendor : (object : KeptObject) → has_own_vendor u mine.objects object ≡ has_own_vendor u state.objects object
  own_vendor object = go (object_vendor object)
    where
      go : (vendor : Option ℕ) → is_none_or vendor (λ n. is_some (own_object Vendor u n mine.objects))
          ≡ is_none_or vendor (λ n. is_some (own_object Vendor u n state.objects))
      go None = refl
      go (Some n) = ap is_some (own_object_told Vendor n)

  own_parts : (parts : CertifyBody) → has_own_parts u mine.objects parts ≡ has_own_parts u state.objects parts
  own_parts parts = rw (own_object_told Module parts.module, own_object_told Environment parts.environment) refl

  own_registration : (object : Result KeptObject Rule) → object_grounds u object mine ≡ object_grounds u object state
  own_registration (Err broken) = rw (requests_told u state) refl
  own_registration (Ok object) = rw (requests_told u state, own_vendor object) refl

  own_certification_asked : (parts : Result CertifyBody Rule)
      → certification_grounds u parts mine ≡ certification_grounds u parts state
  own_certification_asked (Err broken) = rw (requests_told u state) refl
  own_certification_asked (Ok parts) = rw (requests_told u state, own_parts parts) refl

  -- ---- lists

  own_listed : (rows : List SessionRecord) → All (λ row. IfSome row.last_request (λ m. owner_of m ≡ u)) rows
      → map (listed_session mine.requests) rows ≡ map (listed_session state.requests) rows
  own_listed [] named = refl
  own_listed (row ∷ rows) named =
      rw (
        own_certification row.last_request
            (All-head (λ (row : SessionRecord). IfSome row.last_request (λ m. owner_of m ≡ u)) row rows named),
        own_listed rows (All-tail
            (λ (row : SessionRecord). IfSome row.last_request (λ m. owner_of m ≡ u)) row rows named),
      ) refl

  own_sessions_page : (at : Page) → sessions_page u mine at ≡ sessions_page u state at
  own_sessions_page at =
      let rows = session_records_of u state.sessions in
      let shown : map (listed_session mine.requests) (page at.offset at.limit rows)
      ≡ map (listed_session state.requests) (page at.offset at.limit rows) =
      page_map (listed_session mine.requests) at.offset at.limit rows
      ∙ ap (page at.offset at.limit) (own_listed rows (certifications_name u state well))
      ∙ sym (page_map (listed_session state.requests) at.offset at.limit rows) in
      rw (sessions_told u state, shown) refl

  -- ---- what is found

  own_session_place : (n : ℕ) (it : SessionWish) → owner_of n ≡ u
      → session_place seeds n mine it ≡ session_place seeds n state it
  own_session_place n on_session.Read of = rw (own_live n of) refl
  own_session_place n on_session.Cancel of = refl
  own_session_place n on_session.Results of = rw (own_live n of) refl
  own_session_place n on_session.ListSets of = rw (own_live n of) refl
  own_session_place n on_session.ListReviewers of = rw (own_reviewers n of) refl
  own_session_place n on_session.AddReviewer of = rw (own_reviewers n of) refl

  own_registry_place : (body : List ℕ) (it : RegistryWish)
      → registry_place u body mine it ≡ registry_place u body state it
  own_registry_place body (on_registry.Read of n) = rw (own_object_told (kind_of of) n) refl
  own_registry_place body (on_registry.New of) =
      ap (in_registry.New of (object_in (kind_of of) body)) (own_registration (object_in (kind_of of) body))
  own_registry_place body (on_registry.List of None) = refl
  own_registry_place body (on_registry.List of (Some at)) = rw (objects_told u (kind_of of) state) refl
  own_registry_place body (on_registry.ReadRequest n) = rw (own_request_told n) refl
  own_registry_place body (on_registry.ListRequests None) = refl
  own_registry_place body (on_registry.ListRequests (Some at)) = rw (requests_told u state) refl

  pub own_place : (body : List ℕ) (it : Wish) → IsOnOwn u it
      → place_of seeds u body mine it ≡ place_of seeds u body state it
  own_place body (wish.Account on_account.Read) on = ap place.Account (counts_told u state)
  own_place body (wish.Account on_account.ListAlgorithms) on = refl
  own_place body (wish.Algorithm n) on = refl
  own_place body (wish.Session n it) on = rw (own_session_facts n on, own_session_place n it on) refl
  own_place body (wish.Reviewer n m) on = rw (own_reviewed_facts n m on, own_reviewers n on) refl
  own_place body (wish.Set session n it) on = rw (own_set_facts session n on, own_set_place session n it on) refl
  own_place body wish.NewSession on = ap (λ n. place.NewSession n.sessions) (counts_told u state)
  own_place body (wish.CancelSet session n) on = rw (own_set_facts session n on, own_live session on) refl
  own_place body (wish.ListSessions None) on = refl
  own_place body (wish.ListSessions (Some at)) on = ap (λ found. place.Sessions (Some found)) (own_sessions_page at)
  own_place body (wish.Certify n) on = rw (own_session_facts n on, own_certification_asked (certified_in body)) refl
  own_place body (wish.Registry it) on = ap place.Registry (own_registry_place body it)
